use Rattle.std.proofs.Common.{◌≡◌, ◌++◌, All, Some, map, nat_cmp}
use Rattle.std.specs.BTreeMap.{get}
use Rattle.guillotiere.specs.Stored.{state_of}
use Rattle.guillotiere_recording.specs.Standing.{shown_entry}
use Rattle.guillotiere_recording.proofs.steps.gather_live.Given as goal

-- What is gathered and what is left to show are all entries.
abbrev pub invariant-loop-name : goal.invariant-loop-name
invariant-loop-name g l =
    (l.live.items ++ map (shown_entry (state_of l.fn.atlas)) l.name-iterator ≡ map (shown_entry (state_of l.fn.atlas)) l.fn.names.entries)
    × All (λ e. get nat_cmp l.fn.names e.0 ≡ Some e.1) l.name-iterator
