use Rattle.std.proofs.Common.{◌≤◌, subst}
use Rattle.atlas_model.specs.States.{IsSound}
use Rattle.atlas_store.specs.Stored.{state_of}
use Rattle.atlas_store.specs.Visits.{AreGrants}
use Rattle.atlas_allocator.proofs.AtlasLemmas.ShownLists.{grants-IsAtlas, listed}
use Rattle.atlas_allocator.proofs.AtlasLemmas.MeasurableLists.{sides_fit, measurable_grants}
use Rattle.atlas_allocator.proofs.atlas.AtlasAllocator.allocations.Goals as goal

pub returns-clause-list : goal.returns-clause-list
returns-clause-list g c =
    rw (← c.self.view_is)
    (listed (λ found. found.items) (AreGrants _) _ c.gather_allocated.result c.gather_allocated.ensures.list
    (grants-IsAtlas _ c.self.invariant 0 _ c.slots.ensures))

pub returns-clause-measurable : goal.returns-clause-measurable
returns-clause-measurable g c =
    measurable_grants (state_of c.args.self.now) (subst (λ w. IsSound (state_of w)) c.self.view_is c.self.invariant.sound)
    (subst (λ w. (state_of w).size.width ≤ 2147483647) c.self.view_is (sides_fit _ c.self.invariant).0)
    (subst (λ w. (state_of w).size.height ≤ 2147483647) c.self.view_is (sides_fit _ c.self.invariant).1)
    (λ found. found.items) _ (returns-clause-list g c)
