use Rattle.std.proofs.Common.{map, drop}
use Rattle.std.specs.List.{FoldsTo}
use Rattle.guillotiere.specs.Stored.{state_of}
use Rattle.guillotiere.specs.Visits.{CalledAtGrant}
use Rattle.guillotiere.specs.Walks.{IsCallableAlongGrants, IsShownArea}
use Rattle.guillotiere.specs.declared.Allocation.{Allocation}
use Rattle.guillotiere_recording.specs.Names.{shown}
use Rattle.guillotiere_recording.proofs.walks.visit_names.Given as goal

abbrev pub invariant-loop-entry : goal.invariant-loop-entry
invariant-loop-entry g l =
    IsCallableAlongGrants g.F.FnMut (λ (a : Allocation). IsShownArea a.rectangle) l.visit
    (map (shown (state_of l.fn.atlas)) (drop l.entry-index l.names))
    × ((last : _) → FoldsTo (CalledAtGrant g.F.FnMut) l.visit (map (shown (state_of l.fn.atlas)) (drop l.entry-index l.names)) last
    → FoldsTo (CalledAtGrant g.F.FnMut) l.fn.visit (map (shown (state_of l.fn.atlas)) l.names) last)
