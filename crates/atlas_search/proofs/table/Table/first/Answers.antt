use Rattle.std.proofs.Common.{◌≡◌, subst, arith}
use Rattle.atlas_search.specs.Tables.{head_of, Lists}
use Rattle.atlas_search.proofs.SearchLemmas.FewHeads.{read-stored}
use Rattle.atlas_search.proofs.table.Table.first.Goals as goal

pub returns-then-number-len : goal.returns-then-number-len
returns-then-number-len g c =
    let t = c.self.inside in
    subst (λ (v : Lists). c.index.result.now ≡ head_of v.heads c.args.number) c.self.view_is
    (read-stored t.heads.items t.only c.args.number c.index.result.now (omega (arith, c.if-number-len.true, c.len.ensures, t.heads.ok))
    c.index.ensures)
