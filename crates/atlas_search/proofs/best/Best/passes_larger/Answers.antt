use Rattle.std.proofs.Common.{arith}
use Rattle.std.proofs.lemmas.Bool.{leb-true}
use Rattle.atlas_search.proofs.SearchLemmas.Bests.{seen-later}
use Rattle.atlas_search.proofs.SearchLemmas.Heaps.{corner-first}
use Rattle.atlas_search.proofs.best.Best.passes_larger.Goals as goal
use Rattle.atlas_model.proofs.ChoiceLemmas.PickExistence.{first-then}

pub returns-then-self-le1 : goal.returns-then-self-le1
returns-then-self-le1 c = λ yes is_large r shown more b cornered narrow seen larger.
    let past = leb-true c.args.self.now.corner c.args.corner yes in
    let reach = c.args.self.now.reached (omega (arith, c.if-self-le1.true)) in
    seen-later c.args.self.now is_large r shown more seen reach
    (λ a na ca d has.
    first-then a b d.box (corner-first a b na narrow (omega (arith, ca, cornered, past))) (larger d has).1)
    (λ d has. let f = (larger d has).0 in omega (arith, c.if-self-le1.true, f.0, f.1))
