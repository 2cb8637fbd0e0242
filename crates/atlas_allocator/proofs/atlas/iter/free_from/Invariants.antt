use Rattle.std.proofs.Common.{◌≡◌, drop}
use Rattle.atlas_store.specs.Slots.{nodes}
use Rattle.atlas_store.specs.Visits.{free_areas}
use Rattle.atlas_allocator.proofs.atlas.iter.free_from.Given as goal

abbrev pub invariant-loop-at : goal.invariant-loop-at
invariant-loop-at l = free_areas (nodes (drop l.at l.slots)) ≡ free_areas (nodes (drop l.from l.slots))
