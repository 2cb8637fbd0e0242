use Rattle.std.proofs.Common.{◌≤◌}
use Rattle.atlas_bench.proofs.growth.growth.Given as goal

abbrev pub invariant-loop : goal.invariant-loop
invariant-loop l = l.growing.answers.calls ≤ l.counter
