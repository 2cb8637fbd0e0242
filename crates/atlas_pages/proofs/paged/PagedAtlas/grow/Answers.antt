use Rattle.atlas_pages.specs.Paged.{PagedState}
use Rattle.atlas_pages.proofs.PagedLemmas.{growing_steps, growth_changes_nothing}
use Rattle.atlas_pages.proofs.paged.PagedAtlas.grow.Goals as goal

pub returns-clause-step : goal.returns-clause-step
returns-clause-step g c =
    let r = c.self.inside in
    let s : PagedState = record { pages = r.pages.items; page_size = r.page_size; options = r.options; most = r.most } in
    rw (← c.self.view_is) (growing_steps s c.grow_at.new.pages.items c.args.page c.args.size c.grow_at.result
    c.grow_at.ensures.step)

pub returns-clause-fault : goal.returns-clause-fault
returns-clause-fault g c = rw (← c.self.view_is) c.grow_at.ensures.fault

pub returns-clause-refused : goal.returns-clause-refused
returns-clause-refused g c =
    let r = c.self.inside in
    let s : PagedState = record { pages = r.pages.items; page_size = r.page_size; options = r.options; most = r.most } in
    rw (← c.self.view_is) (growth_changes_nothing s c.grow_at.new.pages.items c.args.page c.grow_at.result
    c.grow_at.ensures.refused)
