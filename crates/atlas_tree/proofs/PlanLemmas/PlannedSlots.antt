-- The slot that a plan grants was not allocated, and the first slot stays.
use Rattle.std.proofs.Common.{ℕ, ◌<◌, ◌≡◌, ◌⊎◌, refl, sym, ap, inl, inr, ◌∙◌, arith}
use Rattle.atlas_store.specs.declared.slots.placing.Parts.{Parts}
use Rattle.atlas_store.specs.declared.slots.placing.Plan.{Plan}
use Rattle.atlas_store.specs.declared.slots.placing.Plan.TheVariants as plan
use Rattle.atlas_store.specs.declared.slots.NodeKind.TheVariants as kind
use Rattle.atlas_store.specs.Slots.{nodes, use_count}
use Rattle.atlas_search.specs.Numbers.{occurs}
use Rattle.atlas_store.specs.Slots.Numbered.{tally, first_slot}
use Rattle.atlas_store.specs.Slots.Placing.{granted_by, taken_by}
use Rattle.atlas_store.specs.Stored.{Shelf, Holding, Holds}
use Rattle.atlas_store.specs.Store.Holdings.{node_in}
use Rattle.atlas_tree.specs.Plans.Planning.{IsPlanned}
use Rattle.atlas_store.proofs.SlotLemmas.Frames.{same-self}
use Rattle.atlas_store.proofs.SlotLemmas.PlannedLeaves.{first-planned, tally-planned}
use Rattle.atlas_tree.proofs.PlanLemmas.SlotPlans.{once-Stands}

granted-taken : (p : Plan) (t : Parts) (i : ℕ) → (granted_by p t i ≡ i) ⊎
    (0 < occurs (granted_by p t i) (taken_by p t))
granted-taken plan.Whole t i = inl refl
granted-taken (plan.StripAlong p) t i = inl refl
granted-taken (plan.CornerAlong p q) t i = inr (omega (arith, same-self t.granted.number))
granted-taken (plan.StripAcross q) t i = inr (omega (arith, same-self t.granted.number))
granted-taken (plan.CornerAcross p q) t i = inr (omega (arith, same-self t.granted.number))

-- The first member of the sequence stays.
pub planned-first : (new : Shelf) (at to : ℕ) (p : Plan) (h h' : Holding) → IsPlanned new at to p h h'
    → first_slot h'.tree ≡ first_slot h.tree
planned-first new at to p h h' w =
    ap first_slot w.tree ∙ first-planned p w.parts at (node_in new to).generation h.sequence.width h.tree

-- The slot that is granted was not granted before.
pub planned-unused : (v new : Shelf) (at to : ℕ) (p : Plan) (h h' : Holding) → Holds v h
    → (node_in v at).kind ≡ kind.Free → IsPlanned new at to p h h' → (node_in v to).kind ≡ kind.Alloc → ⊥
planned-unused v new at to p h h' holds free w taken =
    elim (granted-taken p w.parts at) [
      | inl e ↦ let is : (node_in v at).kind ≡ kind.Alloc = ap (λ k. (node_in v k).kind) (sym (w.is ∙ e))
          ∙ taken in cc
      | inr l ↦
          absurd (omega (
            arith,
            l,
            ap (λ k. occurs k (taken_by p w.parts)) w.is,
            ap (tally to) w.tree,
            tally-planned (nodes v.slots) at free p w.parts (node_in new to).generation h.sequence h.tree holds.stands
                to,
            once-Stands (nodes new.slots) h'.sequence h'.tree w.holds.stands to,
            holds.stands.numbered to,
            ap (λ k. use_count k) taken,
          ))
    ]
