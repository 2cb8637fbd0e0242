use Rattle.std.proofs.Common.{ap, sym, ◌∙◌, arith}
use Rattle.atlas_model.specs.Boxes.{Sides}
use Rattle.atlas_model.specs.Pixels.{sides_of}
use Rattle.atlas_search.proofs.SearchLemmas.Bests.{asked, not-out, seen-worse}
use Rattle.atlas_search.proofs.SearchLemmas.Cells.{both-beyond}
use Rattle.atlas_search.proofs.best.Best.may_gain_in.Goals as goal

pub returns-clause-out : goal.returns-clause-out
returns-clause-out c = λ is_out is_large r shown more seen within.
    let wide = ap (λ (s : Sides). s.width) (asked c.args.self.now is_large r shown seen) in
    let tall = ap (λ (s : Sides). s.height) (asked c.args.self.now is_large r shown seen) in
    let beyond = both-beyond (sides_of c.args.self.now.size) c.args.self.now.reach c.args.cell
    (sym c.is_beyond.ensures ∙ not-out c.is_beyond.result is_out) in
    let reach = c.args.self.now.reached (omega (arith, beyond.0, c.well_formed)) in
    seen-worse c.args.self.now is_large r shown more seen reach (λ d has.
    let i = within d has in omega (arith, beyond.0, beyond.1, wide, tall, i.left, i.top))
