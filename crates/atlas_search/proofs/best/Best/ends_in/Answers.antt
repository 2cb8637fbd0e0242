use Rattle.std.proofs.Common.{ap, sym, ◌∙◌, arith}
use Rattle.atlas_model.specs.Boxes.{Sides}
use Rattle.atlas_model.specs.Pixels.{sides_of}
use Rattle.atlas_model.proofs.ChoiceLemmas.PickExistence.{first-then}
use Rattle.atlas_search.proofs.SearchLemmas.Bests.{asked, seen-later}
use Rattle.atlas_search.proofs.SearchLemmas.Cells.{both-beyond}
use Rattle.atlas_search.proofs.SearchLemmas.Heaps.{corner-first}
use Rattle.atlas_search.proofs.best.Best.ends_in.Goals as goal

pub returns : goal.returns
returns c = λ yes is_large r shown more b cornered narrow seen within.
    let wide = ap (λ (s : Sides). s.width) (asked c.args.self.now is_large r shown seen) in
    let tall = ap (λ (s : Sides). s.height) (asked c.args.self.now is_large r shown seen) in
    let beyond = both-beyond (sides_of c.args.self.now.size) _ c.args.cell (sym c.is_beyond.ensures ∙ yes) in
    let reach = c.args.self.now.reached (omega (arith, beyond.0, c.well_formed)) in
    seen-later c.args.self.now is_large r shown more seen reach
    (λ a na ca d has.
    first-then a b d.box (corner-first a b na narrow (omega (arith, ca, cornered, c.if-corner-self.false))) (within d has).1)
    (λ d has. let i = (within d has).0 in omega (arith, beyond.0, beyond.1, wide, tall, i.left, i.top))
