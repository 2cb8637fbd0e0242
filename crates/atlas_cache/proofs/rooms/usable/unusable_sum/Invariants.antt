use Rattle.std.proofs.Common.{◌≡◌}
use Rattle.std.specs.Prelude.{sum_by, take}
use Rattle.guillotiere.specs.Pixels.{box_of}
use Rattle.atlas_allocator.specs.Room.{lost}
use Rattle.atlas_cache.proofs.rooms.usable.unusable_sum.Given as goal

abbrev pub invariant-loop-at : goal.invariant-loop-at
invariant-loop-at l =
    l.sum ≡ sum_by (λ r. lost (record { width = l.width; height = l.height }) (box_of r)) (take l.at l.free)
