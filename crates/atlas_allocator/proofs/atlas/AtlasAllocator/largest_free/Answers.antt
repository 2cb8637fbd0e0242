use Rattle.atlas_store.specs.Slots.{nodes}
use Rattle.atlas_store.specs.Visits.{free_areas}
use Rattle.atlas_store.proofs.WalkLemmas.AlongLists.{shown_areas-IsAtlas}
use Rattle.atlas_allocator.proofs.AtlasLemmas.FreeRoom.{largest-IsAtlas, none-IsAtlas, shown-some, exact-some, measurable-some}
use Rattle.atlas_allocator.proofs.atlas.AtlasAllocator.largest_free.Goals as goal

pub largest_of-requires : goal.largest_of-requires
largest_of-requires g c = shown_areas-IsAtlas _ c.self.invariant 0 _ c.slots.ensures

pub returns-clause-largest : goal.returns-clause-largest
returns-clause-largest g c =
    rw (← c.self.view_is) (largest-IsAtlas _ c.self.invariant _ c.slots.ensures c.largest_of.result c.largest_of.ensures.some)

pub returns-clause-none : goal.returns-clause-none
returns-clause-none g c =
    rw (← c.self.view_is) (none-IsAtlas _ c.self.invariant _ c.slots.ensures c.largest_of.result c.largest_of.ensures.none)

pub returns-clause-exact : goal.returns-clause-exact
returns-clause-exact g c =
    exact-some c.largest_of.result (shown-some (free_areas (nodes c.slots.result.now)) c.largest_of.result
    (shown_areas-IsAtlas _ c.self.invariant 0 _ c.slots.ensures) c.largest_of.ensures.some)

pub returns-clause-measurable : goal.returns-clause-measurable
returns-clause-measurable g c =
    measurable-some c.largest_of.result (shown-some (free_areas (nodes c.slots.result.now)) c.largest_of.result
    (shown_areas-IsAtlas _ c.self.invariant 0 _ c.slots.ensures) c.largest_of.ensures.some)
