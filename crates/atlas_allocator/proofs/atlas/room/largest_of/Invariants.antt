use Rattle.std.proofs.Common.{◌≡◌, [], All, drop}
use Rattle.atlas_model.specs.declared.geometry.Rectangle.{Rectangle}
use Rattle.atlas_store.specs.Slots.{nodes}
use Rattle.atlas_store.specs.Visits.{free_areas}
use Rattle.atlas_store.specs.Walks.{IsShownArea}
use Rattle.atlas_allocator.specs.Room.{and_maybe, IsLargestOf}
use Rattle.atlas_allocator.proofs.atlas.room.largest_of.Given as goal

abbrev pub invariant-loop-slot : goal.invariant-loop-slot
invariant-loop-slot l =
    record {
      shown : All IsShownArea (and_maybe l.best (free_areas (nodes (drop l.slot-index l.slots))));
      some : (f : Rectangle) → IsLargestOf (and_maybe l.best (free_areas (nodes (drop l.slot-index l.slots)))) f
          → IsLargestOf (free_areas (nodes l.slots)) f;
      none : and_maybe l.best (free_areas (nodes (drop l.slot-index l.slots))) ≡ [] → free_areas (nodes l.slots) ≡ [];
    }
