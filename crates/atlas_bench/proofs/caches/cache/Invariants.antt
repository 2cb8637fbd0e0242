use Rattle.std.proofs.Common.{◌≡◌}
use Rattle.atlas_bench.proofs.caches.cache.Given as goal

abbrev pub invariant-loop : goal.invariant-loop
invariant-loop l = l.cache.answers.calls ≡ l.counter
