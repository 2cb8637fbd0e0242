use Rattle.std.proofs.Common.{◌+◌, ◌≤◌}
use Rattle.atlas_bench.proofs.sheets.rearrange.Given as goal

abbrev pub invariant-loop : goal.invariant-loop
invariant-loop l = record {
  least : 5000 + l.counter ≤ l.answers.calls;
  most : l.answers.calls ≤ 7500 + l.counter;
}
