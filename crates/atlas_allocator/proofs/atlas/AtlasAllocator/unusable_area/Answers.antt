use Rattle.std.proofs.Common.{◌∙◌}
use Rattle.atlas_model.specs.Pixels.{sides_of}
use Rattle.atlas_store.proofs.WalkLemmas.AlongLists.{shown_areas-IsAtlas}
use Rattle.atlas_store.proofs.WalkLemmas.AreaSums.{free_sum-fits}
use Rattle.atlas_allocator.proofs.AtlasLemmas.FreeRoom.{lost-fits, unusable-rounded, unusable-unrounded}
use Rattle.atlas_allocator.proofs.atlas.AtlasAllocator.unusable_area.Goals as goal

pub lost_sum-requires-clause-shown : goal.lost_sum-requires-clause-shown
lost_sum-requires-clause-shown g c = shown_areas-IsAtlas _ c.self.invariant 0 _ c.slots.ensures

pub lost_sum-requires-clause-fits : goal.lost_sum-requires-clause-fits
lost_sum-requires-clause-fits g c = lost-fits _ c.self.invariant _ c.slots.ensures (sides_of c.in-Some.size)

pub free_sum-requires-clause-shown : goal.free_sum-requires-clause-shown
free_sum-requires-clause-shown g c = shown_areas-IsAtlas _ c.self.invariant 0 _ c.slots-in-None.ensures

pub free_sum-requires-clause-fits : goal.free_sum-requires-clause-fits
free_sum-requires-clause-fits g c = rw c.slots-in-None.ensures (free_sum-fits _ c.self.invariant 0)

pub returns-in-Some : goal.returns-in-Some
returns-in-Some g c =
    rw (← c.self.view_is)
    (c.lost_sum.ensures ∙ unusable-rounded _ c.self.invariant _ c.slots.ensures (sides_of c.args.requested_size) c.in-Some.size
    c.in-Some.ensures)

pub returns-in-None : goal.returns-in-None
returns-in-None g c =
    rw (← c.self.view_is)
    (c.free_sum.ensures ∙ unusable-unrounded _ c.self.invariant _ c.slots-in-None.ensures (sides_of c.args.requested_size)
    c.in-None.ensures)
