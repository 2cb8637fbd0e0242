use Rattle.guillotiere.specs.Callers.{IsAnswer}
use Rattle.guillotiere.specs.Pixels.{sides_of}
use Rattle.guillotiere.specs.Replies.{allocate_reply}
use Rattle.guillotiere.specs.Steps.AtlasCall.{Allocate}
use Rattle.guillotiere.specs.Stored.{state_of}
use Rattle.guillotiere.proofs.Callers.{page_answers, page_is, page_stays, page_stays_if_refused}
use Rattle.atlas_pages.proofs.PagedLemmas.{page_steps}
use Rattle.atlas_pages.proofs.paged.steps.grant_on.Goals as goal

pub returns-clause-step : goal.returns-clause-step
returns-clause-step g c =
    page_steps _ _ c.index-pages-page.result c.allocate.new.self c.requires (Allocate (sides_of c.args.size))
    (allocate_reply c.allocate.result) c.allocate.ensures.step

pub returns-clause-adds : goal.returns-clause-adds
returns-clause-adds g c =
    page_answers _ _ c.index-pages-page.result _ c.requires c.allocate.result c.allocate.ensures.exact
    c.allocate.ensures.adds

pub returns-clause-answer : goal.returns-clause-answer
returns-clause-answer g c =
    page_is _ _ c.index-pages-page.result c.allocate.new.self c.requires
    (λ s. IsAnswer (state_of s) c.args.size c.allocate.result) c.allocate.ensures.answer

pub returns-clause-none : goal.returns-clause-none
returns-clause-none g c = λ none.
    page_stays _ _ c.index-pages-page.result _ c.requires (c.allocate.ensures.none none)

pub returns-clause-refused : goal.returns-clause-refused
returns-clause-refused g c =
    page_stays_if_refused _ _ c.index-pages-page.result _ c.requires c.allocate.result c.allocate.ensures.refused
