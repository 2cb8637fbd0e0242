-- The plan of a request, by the lines of the cut table, and what it makes of a tree. No public clause cites this
-- module.
use Rattle.std.specs.Prelude.{ℕ, ◌≡◌, ◌-◌, [], length}
use Rattle.atlas_store.specs.declared.store.Store.{Store}
use Rattle.atlas_store.specs.declared.slots.placing.Parts.{Parts}
use Rattle.atlas_store.specs.declared.slots.placing.Plan.{Plan}
use Rattle.atlas_store.specs.declared.slots.placing.Plan.TheVariants as plan
use Rattle.atlas_store.specs.declared.slots.Node.{Node}
use Rattle.atlas_model.specs.Boxes.{Sides, other, side, box_sides}
use Rattle.atlas_model.specs.Cuts.{cut}
use Rattle.atlas_model.specs.Cuts.Cut.{Whole, Strip, Corner}
use Rattle.atlas_model.specs.Pixels.{box_of}
use Rattle.atlas_store.specs.declared.slots.NodeKind.TheVariants as kind
use Rattle.atlas_store.specs.Slots.{axis_of}
use Rattle.atlas_store.specs.Slots.Placing.{granted_by, planned, slots_of}
use Rattle.atlas_store.specs.Stored.{Shelf, Holding, Holds, IsDetachedOnly}
use Rattle.atlas_store.specs.Store.Holdings.{shelf_of, node_in, OnlyTakes}
use Rattle.atlas_store.specs.Store.StoreCalls.{CanCarryOut}

-- The plan is the line of the cut table for a leaf and a request: p lies along the leaf's sequence, and q across.
abbrev pub IsPlanFor : Node → Sides → Plan → Type 0
IsPlanFor leaf r plan.Whole = cut (box_sides (box_of leaf.area)) r ≡ Whole
IsPlanFor leaf r (plan.StripAlong p) =
    (cut (box_sides (box_of leaf.area)) r ≡ Strip (axis_of leaf.axis)) × (p ≡ side (axis_of leaf.axis) r)
IsPlanFor leaf r (plan.CornerAlong p q) =
    (cut (box_sides (box_of leaf.area)) r ≡ Corner (axis_of leaf.axis)) × (p ≡ side (axis_of leaf.axis) r)
    × (q ≡ side (other (axis_of leaf.axis)) r)
IsPlanFor leaf r (plan.StripAcross q) =
    (cut (box_sides (box_of leaf.area)) r ≡ Strip (other (axis_of leaf.axis)))
    × (q ≡ side (other (axis_of leaf.axis)) r)
IsPlanFor leaf r (plan.CornerAcross p q) =
    (cut (box_sides (box_of leaf.area)) r ≡ Corner (other (axis_of leaf.axis)))
    × (p ≡ side (axis_of leaf.axis) r) × (q ≡ side (other (axis_of leaf.axis)) r)

-- A plan can be carried out in the detached leaf of slot `at`.
abbrev pub IsPlanReady : {A : Type 0} → Store A → (at : ℕ) → Plan → Type 0
IsPlanReady s at p = (h : Holding) × CanCarryOut s at p h

-- Slot `to` is granted by a plan in place of the leaf of slot `at`, and each free slot stands in its list.
pub record IsPlanned (new : Shelf) (at to : ℕ) (p : Plan) (h h' : Holding) : Type 0 where
  pub holds : Holds new h'
  pub listed : IsDetachedOnly [] h'
  pub parts : Parts
  pub tree : h'.tree ≡ planned p parts at (node_in new to).generation h.sequence.width h.tree
  pub is : to ≡ granted_by p parts at
  pub sequence : h'.sequence ≡ h.sequence
  pub granted : (node_in new to).kind ≡ kind.Alloc
  -- The slots come from the unused ones as long as there are any.
  pub unused_list : length h'.unused_list ≡ length h.unused_list - slots_of p

-- A plan was carried out in the detached leaf of slot `at`, and slot `to` is granted.
pub record IsPlanDone {A : Type 0} (old new : Store A) (at to : ℕ) (p : Plan) : Type 0 where
  pub kept : (h : Holding) → CanCarryOut old at p h → (h' : Holding) × IsPlanned (shelf_of new) at to p h h'
  pub takes : OnlyTakes old new
