use Rattle.std.proofs.Common.{◌≡◌, ◌+◌}
use Rattle.atlas_bench.proofs.caches.tiles.Given as goal

abbrev pub invariant-loop-turn : goal.invariant-loop-turn
invariant-loop-turn l = l.cache.answers.calls ≡ 24576 + l.turn
