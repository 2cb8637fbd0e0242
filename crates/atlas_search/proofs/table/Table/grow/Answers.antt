use Rattle.atlas_search.proofs.SearchLemmas.FewHeads.{some-is}
use Rattle.atlas_search.proofs.table.Table.grow.Goals as goal

pub returns-in_ok-store-clause-ok : goal.returns-in_ok-store-clause-ok
returns-in_ok-store-clause-ok g c = some-is c.store.new.heads.items c.self.inside.only c.in_ok-store.ensures.heads
