use Rattle.std.proofs.Common.{◌≡◌, ◌+◌, All, drop}
use Rattle.atlas_model.specs.Pixels.{sides_of}
use Rattle.atlas_store.specs.Slots.{nodes}
use Rattle.atlas_store.specs.Visits.{free_areas}
use Rattle.atlas_store.specs.Walks.{IsShownArea}
use Rattle.atlas_allocator.specs.Room.{lost_area}
use Rattle.atlas_allocator.proofs.atlas.room.lost_sum.Given as goal

abbrev pub invariant-loop-slot : goal.invariant-loop-slot
invariant-loop-slot l =
    record {
      sum : l.sum + lost_area (sides_of l.size) (free_areas (nodes (drop l.slot-index l.slots)))
          ≡ lost_area (sides_of l.size) (free_areas (nodes l.slots));
      shown : All IsShownArea (free_areas (nodes (drop l.slot-index l.slots)));
    }
