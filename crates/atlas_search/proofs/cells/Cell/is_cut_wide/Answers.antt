use Rattle.std.proofs.Common.{inl, inr, arith, ◌∙◌}
use Rattle.std.proofs.lemmas.Bool.{eqb-false, eqb-true, not-false, not-true}
use Rattle.atlas_search.proofs.SearchLemmas.Cells.{is-cut-wide, not-cut-wide}
use Rattle.atlas_search.proofs.cells.Cell.is_cut_wide.Goals as goal

pub returns-then-wide-eq2-clause-wide : goal.returns-then-wide-eq2-clause-wide
returns-then-wide-eq2-clause-wide c e = is-cut-wide c.args.self (inl (eqb-true _ _ e))

pub returns-else-wide-eq2-clause-wide : goal.returns-else-wide-eq2-clause-wide
returns-else-wide-eq2-clause-wide c e =
    let same = eqb-true _ _ e in
    is-cut-wide c.args.self (inr (λ two. c.if-wide-eq2.false (same ∙ two), omega (arith, same)))

pub returns-else-wide-eq2-clause-tall : goal.returns-else-wide-eq2-clause-tall
returns-else-wide-eq2-clause-tall c e =
    not-cut-wide c.args.self c.if-wide-eq2.false (inr (omega (arith, c.if-wide-tall.true, eqb-false _ _ e)))

pub returns-else-wide-tall-clause-wide : goal.returns-else-wide-tall-clause-wide
returns-else-wide-tall-clause-wide c e =
    is-cut-wide c.args.self (inr (eqb-false _ _ (not-true _ e), omega (arith, c.if-wide-tall.false)))

pub returns-else-wide-tall-clause-tall : goal.returns-else-wide-tall-clause-tall
returns-else-wide-tall-clause-tall c e =
    let two = eqb-true _ _ (not-false _ e) in
    not-cut-wide c.args.self (λ w. omega (arith, c.if-wide-tall.false, two, w)) (inl two)
