use Rattle.std.proofs.Common.{◌≡◌, ◌++◌, drop}
use Rattle.atlas_store.specs.Slots.{nodes}
use Rattle.atlas_store.specs.Visits.{allocated_from}
use Rattle.atlas_store.proofs.slots.walks.gather_allocated.Given as goal

abbrev pub invariant-loop-number : goal.invariant-loop-number
invariant-loop-number g l = l.found.items ++ allocated_from l.number (nodes (drop l.number l.slots)) ≡ allocated_from 0 (nodes l.slots)
