use Rattle.std.proofs.Common.{inl, inr, ap, sym, ◌∙◌, arith}
use Rattle.atlas_model.specs.Boxes.{Sides}
use Rattle.atlas_model.specs.Pixels.{sides_of}
use Rattle.atlas_search.proofs.SearchLemmas.Bests.{asked, seen-misfits}
use Rattle.atlas_search.proofs.SearchLemmas.Cells.{past-end}
use Rattle.atlas_search.proofs.best.Best.may_fit_by.Goals as goal

pub returns-clause-out : goal.returns-clause-out
returns-clause-out c = λ is_out is_large r shown more seen within.
    let wide = ap (λ (s : Sides). s.width) (asked c.args.self.now is_large r shown seen) in
    let tall = ap (λ (s : Sides). s.height) (asked c.args.self.now is_large r shown seen) in
    seen-misfits c.args.self.now is_large r shown more seen (λ d has fits.
    let i = within d has in
    elim (past-end c.args.is_wide (sides_of c.args.self.now.size) c.args.cell (sym c.is_before_end.ensures ∙ is_out)) [
      | inl a ↦ omega (arith, a, wide, i.right, fits.0)
      | inr a ↦ omega (arith, a, tall, i.bottom, fits.1)
    ])
