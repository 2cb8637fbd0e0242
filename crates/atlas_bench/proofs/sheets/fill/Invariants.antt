use Rattle.std.proofs.Common.{◌≡◌, ◌+◌, ◌≤◌, vec_len}
use Rattle.atlas_bench.proofs.sheets.fill.Given as goal

abbrev pub invariant-loop-size : goal.invariant-loop-size
invariant-loop-size l = record {
  calls : l.answers.calls ≡ l.fn.answers.calls + l.size-index;
  ids : vec_len l.ids ≤ vec_len l.fn.ids + l.size-index;
}
