use Rattle.std.proofs.Common.{subst}
use Rattle.guillotiere.specs.Pages.{AllLieWithinOn}
use Rattle.atlas_pages.proofs.paged.PagedAtlas.prove_kept.Goals as goal

pub returns-clause-within : goal.returns-clause-within
returns-clause-within g c =
    rw (← c.self.view_is)
    (subst (λ pages. AllLieWithinOn pages c.args.page) c.deref.ensures.value c.prove_page.ensures.within)
