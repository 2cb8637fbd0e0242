use Rattle.std.proofs.Common.{◌≡◌, map, take}
use Rattle.guillotiere_recording.specs.Names.{name_among}
use Rattle.guillotiere_recording.specs.Moves.{failure_under}
use Rattle.guillotiere_recording.proofs.moves.name_failures.Given as goal

abbrev pub invariant-loop-failure : goal.invariant-loop-failure
invariant-loop-failure g l = l.named.items ≡ map (failure_under (name_among l.by_id)) (take l.failure-index l.failures)
