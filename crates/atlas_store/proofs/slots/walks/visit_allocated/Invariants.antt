use Rattle.std.proofs.Common.{drop}
use Rattle.std.specs.List.{FoldsTo}
use Rattle.atlas_store.specs.Slots.{nodes}
use Rattle.atlas_store.specs.Visits.{CalledAtGrant, allocated_from}
use Rattle.atlas_store.specs.Walks.{IsCallableAlongGrants}
use Rattle.atlas_store.proofs.slots.walks.visit_allocated.Given as goal

abbrev pub invariant-loop-number : goal.invariant-loop-number
invariant-loop-number g l =
    IsCallableAlongGrants g.F.FnMut (λ _. Unit {0}) l.visit (allocated_from l.number (nodes (drop l.number l.slots)))
    × ((last : _) → FoldsTo (CalledAtGrant g.F.FnMut) l.visit (allocated_from l.number (nodes (drop l.number l.slots))) last
    → FoldsTo (CalledAtGrant g.F.FnMut) l.fn.visit (allocated_from 0 (nodes l.slots)) last)
