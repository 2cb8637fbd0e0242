use Rattle.atlas_store.proofs.StoreLemmas.RestoredStores.{IsListing}
use Rattle.atlas_store.proofs.store.Store.list_all.Given as goal

abbrev pub invariant-loop-number : goal.invariant-loop-number
invariant-loop-number g l = IsListing l.fn.self l.self l.number
