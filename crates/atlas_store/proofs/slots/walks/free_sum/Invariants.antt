use Rattle.std.proofs.Common.{◌≡◌, ◌+◌, All, drop}
use Rattle.atlas_store.specs.Slots.{nodes}
use Rattle.atlas_store.specs.Visits.{free_areas}
use Rattle.atlas_store.specs.Walks.{IsShownArea}
use Rattle.atlas_store.specs.Slots.Areas.{area_sum}
use Rattle.atlas_store.proofs.slots.walks.free_sum.Given as goal

abbrev pub invariant-loop-slot : goal.invariant-loop-slot
invariant-loop-slot l =
    record {
      sum : l.sum + area_sum (free_areas (nodes (drop l.slot-index l.slots))) ≡ area_sum (free_areas (nodes l.slots));
      shown : All IsShownArea (free_areas (nodes (drop l.slot-index l.slots)));
    }
