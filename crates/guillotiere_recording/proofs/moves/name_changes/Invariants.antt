use Rattle.std.proofs.Common.{◌≡◌, map, take}
use Rattle.guillotiere_recording.specs.Names.{name_among}
use Rattle.guillotiere_recording.specs.Moves.{change_under}
use Rattle.guillotiere_recording.proofs.moves.name_changes.Given as goal

abbrev pub invariant-loop-change : goal.invariant-loop-change
invariant-loop-change g l = l.named.items ≡ map (change_under (name_among l.by_id)) (take l.change-index l.changes)
