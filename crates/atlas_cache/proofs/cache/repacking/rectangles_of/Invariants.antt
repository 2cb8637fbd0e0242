use Rattle.atlas_cache.proofs.GatherLemmas.{Gathered}
use Rattle.atlas_cache.proofs.cache.repacking.rectangles_of.Given as goal

abbrev pub invariant-loop : goal.invariant-loop
invariant-loop g l = Gathered l.page l.entries.entries l.next l.counter l.held.items
