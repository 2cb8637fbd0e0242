-- How the free slot that a request takes is granted.
use Rattle.std.proofs.Common.{ℕ, ◌<◌, ◌≡◌, List, length, true, false, refl, ap, ◌∙◌, arith}
use Rattle.std.proofs.lemmas.List.{length-map}
use Rattle.atlas_store.specs.declared.store.Store.{Store}
use Rattle.atlas_store.specs.declared.slots.Node.{Node}
use Rattle.atlas_search.specs.declared.best.Found.{Found}
use Rattle.atlas_store.specs.declared.slots.placing.Plan.{Plan}
use Rattle.atlas_model.specs.declared.allocation.Allocation.{Allocation}
use Rattle.atlas_model.specs.Boxes.{Sides, box_sides, Fits}
use Rattle.atlas_model.specs.Pixels.{box_of, rectangle_of}
use Rattle.atlas_store.specs.Slots.{nodes, node_of}
use Rattle.atlas_store.specs.Slots.Numbered.{id_of}
use Rattle.atlas_store.specs.Stored.{Shelf, Holding, Holds}
use Rattle.atlas_store.specs.Store.Holdings.{shelf_of, node_in, with_detached, with_free_lists}
use Rattle.atlas_tree.specs.Plans.Planning.{IsPlanReady, IsPlanDone, IsPlanned}
use Rattle.atlas_store.specs.Store.StoreCalls.{CanCarryOut, UnlistsLeaf}
use Rattle.atlas_store.specs.Store.Choosing.{IsAtRest, IsChosen}
use Rattle.atlas_tree.specs.Plans.Chosen.{IsGrantable, IsGrantMade}
use Rattle.atlas_store.proofs.StoreLemmas.FiledSlots.{with_mark-same, with_mark-other}
use Rattle.atlas_store.proofs.SlotLemmas.Frames.{same-ne}
use Rattle.atlas_store.proofs.SlotLemmas.JoinWrites.{used-inside}
use Rattle.atlas_store.proofs.SlotLemmas.FreeSlots.{exact-free}
use Rattle.atlas_store.proofs.StoreLemmas.PickedSlots.{rest-free}
use Rattle.atlas_store.proofs.StoreLemmas.StoreTakes.{slots-kept}

module _ (v : Shelf) (h : Holding) (rest : IsAtRest v h) where
  -- The leaf of a slot that was chosen.
  module _ (r : Sides) (p : Found) (chosen : IsChosen v r p) where
    pub chosen-inside : p.at.number < length v.slots
    chosen-inside =
        omega (arith, used-inside (nodes v.slots) p.at.number (rw chosen.free (omega arith)), length-map v.slots node_of)

    pub chosen-exact : (node_in v p.at.number).area ≡ rectangle_of (box_of (node_in v p.at.number).area)
    chosen-exact = grind (arith, exact-free)

    pub chosen-fits : Fits r (box_sides (box_of (node_in v p.at.number).area))
    chosen-fits = (chosen.pick _ (rest-free v h rest)).best.candidate.fitting.fits

-- It stands in its list.
pub listed-chosen : {A : Type 0} {v : Store A} {r : Sides} {p : Found} {plan : Plan} {h : Holding}
    → IsGrantable v r p plan h
    → (h : Holding) × Holds (shelf_of v) h × (h.detached p.at.number ≡ false)
listed-chosen {A} {v} {r} {p} {plan} {h} w = (h, w.rest.holds, w.rest.listed p.at.number refl)

module _ {A : Type 0} {v v' : Store A} {r : Sides} {p : Found} {plan : Plan} {h : Holding} (w : IsGrantable v r p plan h)
    (u : UnlistsLeaf v v' p.at.number) where
  left : (free_lists : ℕ → List ℕ) × Holds (shelf_of v') (with_detached p.at.number true (with_free_lists free_lists h))
  left = u.kept h w.rest.holds (w.rest.listed p.at.number refl)

  abbrev unlisted : Holding
  unlisted = with_detached p.at.number true (with_free_lists left.0 h)

  is_placeable : CanCarryOut v' p.at.number plan unlisted
  is_placeable = grind (arith, left, with_mark-same, with_mark-other, same-ne, slots-kept)

  pub placeable-chosen : IsPlanReady v' p.at.number plan
  placeable-chosen = (unlisted, is_placeable)

  module _ {new : Store A} {to : ℕ} (placed : IsPlanDone v' new p.at.number to plan) where
    placed_there : (h' : Holding) × IsPlanned (shelf_of new) p.at.number to plan unlisted h'
    placed_there = placed.kept unlisted is_placeable

    pub granted-inside : to < length new.slots.items
    granted-inside = grind (arith, used-inside, placed_there, length-map)

    pub granted-short : to < 16777216
    granted-short = omega (arith, granted-inside, placed_there.1.holds.short)

    pub grant-made : (allocation : Allocation) (node : Node) → node ≡ node_in (shelf_of new) to
        → allocation.id ≡ id_of to node.generation
        → allocation.rectangle ≡ node.area
        → (to : ℕ) × (h' : Holding) × IsGrantMade (shelf_of new) p plan allocation to h h'
    grant-made allocation node same is lies =
        let made = placed_there.1 in (
          to,
          placed_there.0,
          record {
            planned = record {
              holds = made.holds;
              listed = made.listed;
              parts = made.parts;
              tree = made.tree;
              is = made.is;
              sequence = made.sequence;
              granted = made.granted;
              unused_list = made.unused_list;
            };
            names = is ∙ ap (λ (n : Node). id_of to n.generation) same;
            area = lies ∙ ap (λ (n : Node). n.area) same;
          },
        )
