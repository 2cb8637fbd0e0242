use Rattle.std.proofs.Common.{ap, ◌∙◌, arith}
use Rattle.atlas_store.specs.Slots.{nodes}
use Rattle.atlas_store.specs.Slots.Areas.{area_sum}
use Rattle.atlas_store.specs.Visits.{free_areas}
use Rattle.atlas_store.proofs.WalkLemmas.AlongLists.{shown_areas-IsAtlas}
use Rattle.atlas_store.proofs.WalkLemmas.AreaSums.{free_sum-IsAtlas, areas-IsAtlas, free_sum-fits}
use Rattle.atlas_allocator.proofs.atlas.AtlasAllocator.free_area.Goals as goal

pub free_sum-requires-clause-shown : goal.free_sum-requires-clause-shown
free_sum-requires-clause-shown g c = shown_areas-IsAtlas _ c.self.invariant 0 _ c.slots.ensures

pub free_sum-requires-clause-fits : goal.free_sum-requires-clause-fits
free_sum-requires-clause-fits g c = rw c.slots.ensures (free_sum-fits _ c.self.invariant 0)

pub returns-clause-area : goal.returns-clause-area
returns-clause-area g c =
    rw (← c.self.view_is) (c.free_sum.ensures ∙ ap (λ l. area_sum (free_areas (nodes l))) c.slots.ensures ∙
    free_sum-IsAtlas _ c.self.invariant 0)

pub returns-clause-whole : goal.returns-clause-whole
returns-clause-whole g c =
    let is = c.free_sum.ensures ∙ ap (λ l. area_sum (free_areas (nodes l))) c.slots.ensures ∙ free_sum-IsAtlas _ c.self.invariant 0 in
    rw (← c.self.view_is) (omega (arith, is, areas-IsAtlas _ c.self.invariant 0))
