use Rattle.std.proofs.Common.{◌≡◌, ◌++◌, map}
use Rattle.guillotiere_recording.specs.Kept.{entry_in, entries_in}
use Rattle.guillotiere_recording.proofs.follow.list_names.Given as goal

-- What is listed and what is left are all entries.
abbrev pub invariant-loop-name : goal.invariant-loop-name
invariant-loop-name g l = l.entries.items ++ map entry_in l.name-iterator ≡ entries_in l.fn.names
