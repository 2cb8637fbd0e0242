use Rattle.guillotiere.specs.Replies.{done_reply}
use Rattle.guillotiere.specs.Steps.AtlasCall.{Deallocate}
use Rattle.guillotiere.proofs.Callers.{page_leaves, page_lives, page_stays_if_refused}
use Rattle.atlas_pages.proofs.PagedLemmas.{page_steps}
use Rattle.atlas_pages.proofs.paged.steps.free_on.Goals as goal

pub returns-clause-step : goal.returns-clause-step
returns-clause-step g c =
    page_steps _ _ c.index-pages-page.result c.deallocate.new.self c.requires (Deallocate c.args.id)
    (done_reply c.deallocate.result) c.deallocate.ensures.step

pub returns-clause-ok : goal.returns-clause-ok
returns-clause-ok g c =
    let live = page_lives c.args.pages.now c.args.page c.index-pages-page.result c.deallocate.new.self c.requires c.args.id in
    (λ ok. live.0 (c.deallocate.ensures.ok.0 ok), λ some. c.deallocate.ensures.ok.1 (live.1 some))

pub returns-clause-leaves : goal.returns-clause-leaves
returns-clause-leaves g c =
    page_leaves _ _ c.index-pages-page.result _ c.requires c.args.id c.deallocate.ensures.leaves

pub returns-clause-refused : goal.returns-clause-refused
returns-clause-refused g c =
    page_stays_if_refused _ _ c.index-pages-page.result _ c.requires c.deallocate.result c.deallocate.ensures.refused
