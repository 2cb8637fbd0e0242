use Rattle.std.proofs.Common.{ap, ◌∙◌, arith}
use Rattle.atlas_store.specs.Slots.{nodes}
use Rattle.atlas_store.specs.Slots.Areas.{live_areas, area_sum}
use Rattle.atlas_store.proofs.WalkLemmas.AlongLists.{shown_live-IsAtlas}
use Rattle.atlas_store.proofs.WalkLemmas.AreaSums.{live_sum-IsAtlas, areas-IsAtlas, live_sum-fits}
use Rattle.atlas_allocator.proofs.atlas.AtlasAllocator.allocated_area.Goals as goal

pub live_sum-requires-clause-shown : goal.live_sum-requires-clause-shown
live_sum-requires-clause-shown g c = shown_live-IsAtlas _ c.self.invariant 0 _ c.slots.ensures

pub live_sum-requires-clause-fits : goal.live_sum-requires-clause-fits
live_sum-requires-clause-fits g c = rw c.slots.ensures (live_sum-fits _ c.self.invariant 0)

pub returns-clause-area : goal.returns-clause-area
returns-clause-area g c =
    rw (← c.self.view_is) (c.live_sum.ensures ∙ ap (λ l. area_sum (live_areas (nodes l))) c.slots.ensures ∙
    live_sum-IsAtlas _ c.self.invariant 0)

pub returns-clause-whole : goal.returns-clause-whole
returns-clause-whole g c =
    let is = c.live_sum.ensures ∙ ap (λ l. area_sum (live_areas (nodes l))) c.slots.ensures ∙ live_sum-IsAtlas _ c.self.invariant 0 in
    rw (← c.self.view_is) (omega (arith, is, areas-IsAtlas _ c.self.invariant 0))
