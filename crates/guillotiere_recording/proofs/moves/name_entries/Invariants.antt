use Rattle.std.proofs.Common.{◌≡◌, map, take}
use Rattle.guillotiere_recording.specs.Names.{name_among}
use Rattle.guillotiere_recording.specs.Moves.{entry_under}
use Rattle.guillotiere_recording.proofs.moves.name_entries.Given as goal

abbrev pub invariant-loop-change : goal.invariant-loop-change
invariant-loop-change g l = l.entries.items ≡ map (entry_under (name_among l.by_id)) (take l.change-index l.changes)
