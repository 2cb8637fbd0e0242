use Rattle.std.proofs.Common.{inl, inr, sym, ◌∙◌, arith}
use Rattle.std.proofs.lemmas.Bool.{cases_lt, or_from, true≢false}
use Rattle.atlas_search.proofs.SearchLemmas.FewLists.{from-none}
use Rattle.atlas_search.proofs.SearchLemmas.Windows.{least-reached}
use Rattle.atlas_search.proofs.search.least_from.Goals as goal

pub returns-clause-reached : goal.returns-clause-reached
returns-clause-reached g c grown i j hi hj past under full =
    let reached = least-reached c.args.table.now.heads c.args.own c.first.result c.args.columns c.used.result c.from-rows.result c.or.result
    (c.requires.columns grown) (c.used.ensures.each grown) c.from-rows.ensures c.or.ensures c.first.ensures.least i j hi hj past under
    full in
    grind (arith, reached, c.max.ensures, c.requires.greater)

pub returns-clause-few : goal.returns-clause-few
returns-clause-few g c few none =
    let n = c.first.result in
    let rows = from-none c.used.result c.from-rows.result _ c.from-rows.ensures (c.used.ensures.few few) in
    elim (cases_lt n 52) [
      | inl l ↦
          absurd (true≢false (sym (c.first.ensures.some (omega (arith, l))) ∙ c.or.ensures n ∙ or_from _ _ (none n) (rows n)))
      | inr past ↦ omega (arith, past, c.max.ensures)
    ]
