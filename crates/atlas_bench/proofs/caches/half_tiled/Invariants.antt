use Rattle.std.proofs.Common.{◌≡◌, ◌+◌}
use Rattle.atlas_bench.proofs.caches.half_tiled.Given as goal

abbrev pub invariant-loop : goal.invariant-loop
invariant-loop l = l.cache.answers.calls ≡ l.counter

abbrev pub invariant-loop-2 : goal.invariant-loop-2
invariant-loop-2 l = l.cache.answers.calls ≡ 16384 + l.counter
