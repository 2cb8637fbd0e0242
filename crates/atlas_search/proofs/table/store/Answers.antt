use Rattle.atlas_search.proofs.SearchLemmas.FewHeads.{filled}
use Rattle.atlas_search.proofs.table.store.Goals as goal

pub write_heads-requires-clause-blank : goal.write_heads-requires-clause-blank
write_heads-requires-clause-blank g c =
    filled c.args.heads.now.items c.resize.new.self.items c.args.heads.now.len c.requires.heads c.args.heads.now.ok.0
    c.in_ok-resize.ensures.items
