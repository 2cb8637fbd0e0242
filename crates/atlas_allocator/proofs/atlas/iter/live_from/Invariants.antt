use Rattle.std.proofs.Common.{◌≡◌, drop}
use Rattle.atlas_store.specs.Slots.{nodes}
use Rattle.atlas_store.specs.Visits.{allocated_from}
use Rattle.atlas_allocator.proofs.atlas.iter.live_from.Given as goal

abbrev pub invariant-loop-at : goal.invariant-loop-at
invariant-loop-at l = allocated_from l.at (nodes (drop l.at l.slots)) ≡ allocated_from l.from (nodes (drop l.from l.slots))
