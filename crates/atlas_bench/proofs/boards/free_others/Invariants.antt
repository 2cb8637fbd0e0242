use Rattle.std.proofs.Common.{◌≡◌, ◌+◌, ◌-◌, ◌/◌}
use Rattle.atlas_bench.proofs.boards.free_others.Given as goal

abbrev pub invariant-loop-place : goal.invariant-loop-place
invariant-loop-place l = l.answers.calls ≡ l.fn.answers.calls + (l.place + 1 - l.first) / 2
