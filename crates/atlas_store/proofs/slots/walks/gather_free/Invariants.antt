use Rattle.std.proofs.Common.{◌≡◌, ◌++◌, drop}
use Rattle.atlas_store.specs.Slots.{nodes}
use Rattle.atlas_store.specs.Visits.{free_areas}
use Rattle.atlas_store.proofs.slots.walks.gather_free.Given as goal

abbrev pub invariant-loop-slot : goal.invariant-loop-slot
invariant-loop-slot g l = l.found.items ++ free_areas (nodes (drop l.slot-index l.slots)) ≡ free_areas (nodes l.slots)
