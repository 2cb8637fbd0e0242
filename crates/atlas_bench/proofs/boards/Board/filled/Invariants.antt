use Rattle.std.proofs.Common.{◌≡◌, vec_len}
use Rattle.atlas_bench.proofs.boards.Board.filled.Given as goal

abbrev pub invariant-loop : goal.invariant-loop
invariant-loop l = record {
  ids : vec_len l.board.ids ≡ l.counter;
  calls : l.board.answers.calls ≡ l.counter;
}
