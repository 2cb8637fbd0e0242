use Rattle.atlas_pages.specs.Paged.{empty_page, PagedState}
use Rattle.atlas_pages.proofs.PagedLemmas.{nothing_on}
use Rattle.atlas_pages.proofs.paged.PagedAtlas.clear.Goals as goal

pub returns-clause-each : goal.returns-clause-each
returns-clause-each g c =
    let r = c.self.inside in
    let s : PagedState = record { pages = r.pages.items; page_size = r.page_size; options = r.options; most = r.most } in
    rw (← c.self.view_is) (λ page within. c.clear_list.ensures.each page within (empty_page s))

pub returns-clause-nothing : goal.returns-clause-nothing
returns-clause-nothing g c = nothing_on c.clear_list.new.pages.items c.clear_list.ensures.idle
