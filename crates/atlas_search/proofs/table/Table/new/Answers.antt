use Rattle.atlas_search.proofs.SearchLemmas.FewHeads.{few-blank}
use Rattle.atlas_search.proofs.table.Table.new.Goals as goal

pub returns : goal.returns
returns g c = few-blank c.new.result.items c.new.ensures.items
