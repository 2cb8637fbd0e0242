use Rattle.std.proofs.Common.{arith}
use Rattle.atlas_pages.proofs.PagedLemmas.{growth_fault, growth_refused, growth_steps, holds_on_ok, page_grows}
use Rattle.atlas_pages.proofs.paged.steps.grow_on.Goals as goal

pub returns-clause-page : goal.returns-clause-page
returns-clause-page g c = holds_on_ok c.grow_page.result _ (omega (arith, c.if-page-pages.false))

pub returns-clause-step : goal.returns-clause-step
returns-clause-step g c =
    growth_steps c.args.pages.now c.args.page c.index-pages-page.result c.grow_page.new.page
    (omega (arith, c.if-page-pages.false)) c.grow_page.result c.args.size
    c.grow_page.ensures.step

pub returns-clause-grows : goal.returns-clause-grows
returns-clause-grows g c =
    page_grows c.args.pages.now c.args.page c.index-pages-page.result c.grow_page.new.page
    (omega (arith, c.if-page-pages.false)) c.grow_page.result c.args.size
    c.grow_page.ensures.keeps c.grow_page.ensures.frame

pub returns-clause-fault : goal.returns-clause-fault
returns-clause-fault g c =
    growth_fault c.args.pages.now c.args.page c.index-pages-page.result
    (omega (arith, c.if-page-pages.false)) c.grow_page.result c.args.size
    c.grow_page.ensures.fault

pub returns-clause-refused : goal.returns-clause-refused
returns-clause-refused g c =
    growth_refused c.args.pages.now c.args.page c.index-pages-page.result c.grow_page.new.page
    (omega (arith, c.if-page-pages.false)) c.grow_page.result
    c.grow_page.ensures.refused
