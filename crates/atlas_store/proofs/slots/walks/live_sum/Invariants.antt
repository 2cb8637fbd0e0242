use Rattle.std.proofs.Common.{◌≡◌, ◌+◌, All, drop}
use Rattle.atlas_store.specs.Slots.{nodes}
use Rattle.atlas_store.specs.Slots.Areas.{live_areas, area_sum}
use Rattle.atlas_store.specs.Walks.{IsShownArea}
use Rattle.atlas_store.proofs.slots.walks.live_sum.Given as goal

abbrev pub invariant-loop-slot : goal.invariant-loop-slot
invariant-loop-slot l =
    record {
      sum : l.sum + area_sum (live_areas (nodes (drop l.slot-index l.slots))) ≡ area_sum (live_areas (nodes l.slots));
      shown : All IsShownArea (live_areas (nodes (drop l.slot-index l.slots)));
    }
