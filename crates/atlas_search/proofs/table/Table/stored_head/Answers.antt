use Rattle.std.proofs.Common.{◌≡◌, ◌+◌, ◌*◌, ap, subst, ◌∙◌, arith}
use Rattle.atlas_search.specs.Bands.{number_of}
use Rattle.atlas_search.specs.Tables.{head_of, Lists}
use Rattle.atlas_search.proofs.SearchLemmas.FewHeads.{is-some, long-heads, read-stored}
use Rattle.atlas_search.proofs.table.Table.stored_head.Goals as goal

pub returns : goal.returns
returns g c =
    let t = c.self.inside in
    let some = is-some t.heads.items (ap (λ (v : Lists). v.is_grown) c.self.view_is ∙ c.requires.grown) in
    let long = long-heads t.heads.items t.marks.items t.emptied c.self.invariant.1 some in
    subst (λ (v : Lists). c.index.result.now ≡ head_of v.heads (number_of c.args.at)) c.self.view_is
    (read-stored t.heads.items t.only (52 * c.args.at.row + c.args.at.column) c.index.result.now
    (omega (arith, long, c.requires.row, c.requires.column)) c.index.ensures)
