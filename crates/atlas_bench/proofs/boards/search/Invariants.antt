use Rattle.std.proofs.Common.{◌≡◌, ◌+◌}
use Rattle.atlas_bench.proofs.boards.search.Given as goal

abbrev pub invariant-loop : goal.invariant-loop
invariant-loop l = l.board.answers.calls ≡ 600000 + l.counter
