use Rattle.std.proofs.Common.{◌≡◌}
use Rattle.atlas_bench.proofs.simple_sheets.pack.Given as goal

abbrev pub invariant-loop-size : goal.invariant-loop-size
invariant-loop-size l = l.answers.calls ≡ l.size-index
