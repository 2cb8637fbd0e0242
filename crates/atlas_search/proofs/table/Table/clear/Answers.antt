use Rattle.std.proofs.Common.{◌≡◌, rules}
use Rattle.atlas_search.proofs.SearchLemmas.FewHeads.{few-blank, no-heads, none-long}
use Rattle.atlas_search.proofs.table.Table.clear.Goals as goal

pub returns-then-is_empty-clause-blank : goal.returns-then-is_empty-clause-blank
returns-then-is_empty-clause-blank g c =
    let t = c.self.inside in
    let zero : t.marks.len ≡ 0 = search rules in
    few-blank t.heads.items
    (no-heads t.heads.items t.marks.items t.emptied c.self.invariant.1 (none-long t.marks.items t.marks.len t.marks.ok.0 zero))
