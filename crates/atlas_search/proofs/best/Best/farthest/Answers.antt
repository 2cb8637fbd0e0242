use Rattle.std.proofs.Common.{ap, arith}
use Rattle.std.proofs.lemmas.Int.{ints}
use Rattle.atlas_model.specs.Boxes.{Sides}
use Rattle.atlas_search.proofs.SearchLemmas.Bests.{asked, seen-worse}
use Rattle.atlas_search.proofs.best.Best.farthest.Goals as goal

pub returns-clause-far : goal.returns-clause-far
returns-clause-far c is_large r shown more seen beyond =
    let wide = ap (λ (s : Sides). s.width) (asked c.args.self.now is_large r shown seen) in
    let tall = ap (λ (s : Sides). s.height) (asked c.args.self.now is_large r shown seen) in
    let reach = c.args.self.now.reached (omega (arith, c.if-self-ge-FAR.false)) in
    seen-worse c.args.self.now is_large r shown more seen reach (λ d has.
    let b = beyond d has in omega (arith, ints, b.0, b.1, wide, tall, c.longer.ensures, c.longer-2.ensures))
