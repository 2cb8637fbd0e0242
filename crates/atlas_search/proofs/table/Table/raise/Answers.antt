use Rattle.std.proofs.Common.{ap, ◌∙◌, arith}
use Rattle.atlas_search.specs.Bands.{number_of}
use Rattle.atlas_search.specs.Tables.{head_of, Lists}
use Rattle.atlas_search.proofs.SearchLemmas.FewHeads.{stored-here, stored-other}
use Rattle.atlas_search.proofs.table.Table.raise.Goals as goal

pub returns-then-list-len-clause-head : goal.returns-then-list-len-clause-head
returns-then-list-len-clause-head g c =
    let t = c.self.inside in
    stored-here t.heads.items c.raise_in.new.heads.items t.only (number_of c.args.at) c.args.first
    (omega (arith, c.if-list-len.true, c.len.ensures, t.heads.ok)) c.raise_in.ensures.heads

pub returns-then-list-len-clause-heads : goal.returns-then-list-len-clause-heads
returns-then-list-len-clause-heads g c j ne =
    let t = c.self.inside in
    stored-other t.heads.items c.raise_in.new.heads.items t.only (number_of c.args.at) c.args.first
    (omega (arith, c.if-list-len.true, c.len.ensures, t.heads.ok)) c.raise_in.ensures.heads j ne
    ∙ ap (λ (v : Lists). head_of v.heads j) c.self.view_is
