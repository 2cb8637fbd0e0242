use Rattle.std.proofs.Common.{drop}
use Rattle.std.specs.List.{FoldsTo}
use Rattle.std.specs.Fn.{CalledAt}
use Rattle.atlas_store.specs.Slots.{nodes}
use Rattle.atlas_store.specs.Visits.{free_areas}
use Rattle.atlas_store.specs.Walks.{IsCallableAlong}
use Rattle.atlas_store.proofs.slots.walks.visit_free.Given as goal

abbrev pub invariant-loop-slot : goal.invariant-loop-slot
invariant-loop-slot g l =
    IsCallableAlong g.F.FnMut (λ _. Unit {0}) l.visit (free_areas (nodes (drop l.slot-index l.slots)))
    × ((last : _) → FoldsTo (λ p x q. CalledAt g.F.FnMut p x tt q) l.visit (free_areas (nodes (drop l.slot-index l.slots))) last
    → FoldsTo (λ p x q. CalledAt g.F.FnMut p x tt q) l.fn.visit (free_areas (nodes l.slots)) last)
