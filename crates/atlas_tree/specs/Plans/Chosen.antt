-- What is granted in the free slot that a request takes. No public clause cites this module.
use Rattle.std.specs.Prelude.{ℕ, ◌≡◌}
use Rattle.atlas_store.specs.declared.store.Store.{Store}
use Rattle.atlas_search.specs.declared.best.Found.{Found}
use Rattle.atlas_store.specs.declared.slots.placing.Plan.{Plan}
use Rattle.atlas_model.specs.declared.allocation.Allocation.{Allocation}
use Rattle.atlas_model.specs.Boxes.{Sides}
use Rattle.atlas_store.specs.Slots.Numbered.{id_of}
use Rattle.atlas_store.specs.Slots.Reading.{extent_of}
use Rattle.atlas_store.specs.Stored.{Shelf, Holding}
use Rattle.atlas_store.specs.Slots.Placing.{across_of, slots_of, IsFeasible}
use Rattle.atlas_store.specs.Store.Choosing.{IsAtRest, IsChosen}
use Rattle.atlas_store.specs.Store.Holdings.{shelf_of, node_in, HasSlotsFor, OnlyTakes}
use Rattle.atlas_tree.specs.Plans.Planning.{IsPlanFor, IsPlanned}

-- The plan is the one for the request in the chosen slot, and there are slots for it.
pub record IsGrantable {A : Type 0} (s : Store A) (r : Sides) (p : Found) (plan : Plan) (h : Holding) : Type 0 where
  pub rest : IsAtRest (shelf_of s) h
  pub chosen : IsChosen (shelf_of s) r p
  pub line : IsPlanFor (node_in (shelf_of s) p.at.number) r plan
  pub feasible : IsFeasible plan (extent_of (node_in (shelf_of s) p.at.number))
      (across_of (node_in (shelf_of s) p.at.number))
  pub slots : HasSlotsFor (slots_of plan) s h

-- The plan is carried out, and slot `to` is granted, whose id and rectangle these are.
pub record IsGrantMade (new : Shelf) (p : Found) (plan : Plan) (made : Allocation) (to : ℕ) (h h' : Holding)
    : Type 0 where
  pub planned : IsPlanned new p.at.number to plan h h'
  pub names : made.id ≡ id_of to (node_in new to).generation
  pub area : made.rectangle ≡ (node_in new to).area

-- A chosen slot can be granted by a plan.
abbrev pub CanGrant : {A : Type 0} → Store A → Found → Plan → Type 0
CanGrant s p plan = (r : Sides) × (h : Holding) × IsGrantable s r p plan h

-- It is granted, under this id and with this rectangle.
pub record IsRequestGranted {A : Type 0} (old new : Store A) (p : Found) (plan : Plan) (made : Allocation)
    : Type 0 where
  pub granted : (r : Sides) (h : Holding) → IsGrantable old r p plan h
      → (to : ℕ) × (h' : Holding) × IsGrantMade (shelf_of new) p plan made to h h'
  pub takes : OnlyTakes old new
