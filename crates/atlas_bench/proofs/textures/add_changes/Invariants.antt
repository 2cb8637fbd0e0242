use Rattle.std.proofs.Common.{◌≡◌}
use Rattle.atlas_bench.proofs.textures.add_changes.Given as goal

abbrev pub invariant-loop-change : goal.invariant-loop-change
invariant-loop-change l = l.answers.calls ≡ l.fn.answers.calls
