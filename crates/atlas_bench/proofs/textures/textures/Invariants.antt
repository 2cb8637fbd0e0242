use Rattle.std.proofs.Common.{◌≡◌}
use Rattle.atlas_bench.proofs.textures.textures.Given as goal

abbrev pub invariant-loop-call : goal.invariant-loop-call
invariant-loop-call l = l.glyphs.answers.calls ≡ l.call
