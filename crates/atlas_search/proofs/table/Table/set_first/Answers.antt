use Rattle.std.proofs.Common.{ap, ◌∙◌, arith}
use Rattle.atlas_search.specs.Tables.{head_of, Lists}
use Rattle.atlas_search.proofs.SearchLemmas.FewHeads.{stored-here, stored-other}
use Rattle.atlas_search.proofs.table.Table.set_first.Goals as goal

pub returns-then-number-len-clause-head : goal.returns-then-number-len-clause-head
returns-then-number-len-clause-head g c =
    let t = c.self.inside in
    stored-here t.heads.items c.set_first_in.new.heads.items t.only c.args.number c.args.first
    (omega (arith, c.if-number-len.true, c.len.ensures, t.heads.ok)) c.set_first_in.ensures.heads

pub returns-then-number-len-clause-heads : goal.returns-then-number-len-clause-heads
returns-then-number-len-clause-heads g c j ne =
    let t = c.self.inside in
    stored-other t.heads.items c.set_first_in.new.heads.items t.only c.args.number c.args.first
    (omega (arith, c.if-number-len.true, c.len.ensures, t.heads.ok)) c.set_first_in.ensures.heads j ne
    ∙ ap (λ (v : Lists). head_of v.heads j) c.self.view_is
