use Rattle.std.proofs.Common.{arith}
use Rattle.std.proofs.lemmas.Option.{slice_get_within}
use Rattle.guillotiere.proofs.pages.prove_page.Goals as goal

pub returns-else-page-pages-clause-within : goal.returns-else-page-pages-clause-within
returns-else-page-pages-clause-within g c = λ i r s on here.
    absurd (omega (arith, c.if-page-pages.false, slice_get_within c.args.pages.now c.args.page s on))
