use Rattle.std.proofs.Common.{◌≤◌, ℕ, List, Result, Ok, subst}
use Rattle.atlas_model.specs.States.{IsSound}
use Rattle.atlas_model.specs.declared.allocation.Allocation.{Allocation}
use Rattle.atlas_store.specs.Slots.{nodes}
use Rattle.atlas_store.specs.Stored.{state_of}
use Rattle.atlas_store.specs.Visits.{allocated_from}
use Rattle.atlas_allocator.proofs.AtlasLemmas.ShownLists.{grants-IsAtlas}
use Rattle.atlas_allocator.proofs.AtlasLemmas.MeasurableLists.{sides_fit, measurable_grants}
use Rattle.atlas_allocator.proofs.atlas.AtlasAllocator.iter.Goals as goal

pub returns-clause-list : goal.returns-clause-list
returns-clause-list g c = rw (← c.self.view_is) (grants-IsAtlas _ c.self.invariant 0 _ c.slots.ensures)

pub returns-clause-measurable : goal.returns-clause-measurable
returns-clause-measurable g c =
    let found : Result (List Allocation) ℕ = Ok (allocated_from 0 (nodes c.slots.result.now)) in
    measurable_grants (state_of c.args.self.now) (subst (λ w. IsSound (state_of w)) c.self.view_is c.self.invariant.sound)
    (subst (λ w. (state_of w).size.width ≤ 2147483647) c.self.view_is (sides_fit _ c.self.invariant).0)
    (subst (λ w. (state_of w).size.height ≤ 2147483647) c.self.view_is (sides_fit _ c.self.invariant).1)
    (λ l. l) found (returns-clause-list g c)
