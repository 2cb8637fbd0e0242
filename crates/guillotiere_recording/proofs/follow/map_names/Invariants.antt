use Rattle.std.proofs.Common.{take}
use Rattle.guillotiere_recording.specs.Kept.{HasEntries}
use Rattle.guillotiere_recording.proofs.follow.map_names.Given as goal

-- The map has the entries so far.
abbrev pub invariant-loop-entry : goal.invariant-loop-entry
invariant-loop-entry g l = HasEntries (take l.entry-index l.entries) l.names
