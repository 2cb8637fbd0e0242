use Rattle.std.proofs.Common.{◌≡◌}
use Rattle.atlas_cache.proofs.PassLemmas.{Passed}
use Rattle.atlas_cache.proofs.cache.holding.oldest_lying.Given as goal

abbrev pub invariant-loop : goal.invariant-loop
invariant-loop g l =
    record { passed : Passed l.fn.entries.entries l.next l.counter; same : l.entries ≡ l.fn.entries }
