use Rattle.std.proofs.Common.{arith, refl}
use Rattle.atlas_pages.specs.Paged.{PagedState}
use Rattle.atlas_pages.proofs.PagedLemmas.{
  there_adds,
  there_count,
  there_errors,
  there_fault,
  there_first,
  there_granted,
  there_refused,
  there_some,
  there_step,
}
use Rattle.atlas_pages.proofs.paged.PagedAtlas.allocate.Goals as goal

pub at_page-requires : goal.at_page-requires
at_page-requires g c = let inside = c.in-Some.ensures.some.inside in omega (arith, inside, c.self.invariant.few)

pub returns-in-Some-clause-step : goal.returns-in-Some-clause-step
returns-in-Some-clause-step g c =
    let r = c.self.inside in
    let s : PagedState = record { pages = r.pages.items; page_size = r.page_size; options = r.options; most = r.most } in
    let was = c.in-Some.ensures.some in
    rw (c.at_page.ensures, ← c.self.view_is)
    (there_step s c.grant_first.new.pages.items c.args.size c.in-Some.page was.inside c.in-Some.answer was.step)

pub returns-in-Some-clause-adds : goal.returns-in-Some-clause-adds
returns-in-Some-clause-adds g c =
    let r = c.self.inside in
    let s : PagedState = record { pages = r.pages.items; page_size = r.page_size; options = r.options; most = r.most } in
    let was = c.in-Some.ensures.some in
    rw (c.at_page.ensures, ← c.self.view_is)
    (there_adds s c.grant_first.new.pages.items c.args.size c.in-Some.page was.inside c.in-Some.answer was.adds)

pub returns-in-Some-clause-granted : goal.returns-in-Some-clause-granted
returns-in-Some-clause-granted g c =
    let r = c.self.inside in
    let s : PagedState = record { pages = r.pages.items; page_size = r.page_size; options = r.options; most = r.most } in
    let was = c.in-Some.ensures.some in
    rw (c.at_page.ensures, ← c.self.view_is)
    (there_granted s c.grant_first.new.pages.items c.args.size c.in-Some.page was.inside c.in-Some.answer was.answer)

pub returns-in-Some-clause-first : goal.returns-in-Some-clause-first
returns-in-Some-clause-first g c =
    let r = c.self.inside in
    let s : PagedState = record { pages = r.pages.items; page_size = r.page_size; options = r.options; most = r.most } in
    let was = c.in-Some.ensures.some in
    rw (c.at_page.ensures, ← c.self.view_is)
    (there_first s c.grant_first.new.pages.items c.args.size c.in-Some.page was.inside c.in-Some.answer was.first)

pub returns-in-Some-clause-count : goal.returns-in-Some-clause-count
returns-in-Some-clause-count g c =
    let r = c.self.inside in
    let s : PagedState = record { pages = r.pages.items; page_size = r.page_size; options = r.options; most = r.most } in
    let was = c.in-Some.ensures.some in
    rw (c.at_page.ensures, ← c.self.view_is)
    (there_count s c.grant_first.new.pages.items c.args.size c.in-Some.page was.inside c.in-Some.answer c.grant_first.ensures.length)

pub returns-in-Some-clause-spent : goal.returns-in-Some-clause-spent
returns-in-Some-clause-spent g c =
    let r = c.self.inside in
    let s : PagedState = record { pages = r.pages.items; page_size = r.page_size; options = r.options; most = r.most } in
    let was = c.in-Some.ensures.some in
    rw (c.at_page.ensures, ← c.self.view_is)
    (λ none. absurd
    (there_some s c.grant_first.new.pages.items c.args.size c.in-Some.page was.inside c.in-Some.answer was.some none))

pub returns-in-Some-clause-none : goal.returns-in-Some-clause-none
returns-in-Some-clause-none g c =
    let r = c.self.inside in
    let s : PagedState = record { pages = r.pages.items; page_size = r.page_size; options = r.options; most = r.most } in
    let was = c.in-Some.ensures.some in
    rw (c.at_page.ensures, ← c.self.view_is)
    (λ none. absurd
    (there_some s c.grant_first.new.pages.items c.args.size c.in-Some.page was.inside c.in-Some.answer was.some none))

pub returns-in-Some-clause-refused : goal.returns-in-Some-clause-refused
returns-in-Some-clause-refused g c =
    let r = c.self.inside in
    let s : PagedState = record { pages = r.pages.items; page_size = r.page_size; options = r.options; most = r.most } in
    let was = c.in-Some.ensures.some in
    rw (c.at_page.ensures, ← c.self.view_is)
    (there_refused s c.grant_first.new.pages.items c.args.size c.in-Some.page was.inside c.in-Some.answer was.refused)

pub returns-in-Some-clause-fault : goal.returns-in-Some-clause-fault
returns-in-Some-clause-fault g c =
    let r = c.self.inside in
    let s : PagedState = record { pages = r.pages.items; page_size = r.page_size; options = r.options; most = r.most } in
    let was = c.in-Some.ensures.some in
    rw (c.at_page.ensures, ← c.self.view_is)
    (there_fault s c.grant_first.new.pages.items c.args.size c.in-Some.page was.inside c.in-Some.answer was.first c.self.invariant.few
    was.refused was.step)

pub returns-in-Some-clause-errors : goal.returns-in-Some-clause-errors
returns-in-Some-clause-errors g c =
    let r = c.self.inside in
    let s : PagedState = record { pages = r.pages.items; page_size = r.page_size; options = r.options; most = r.most } in
    let was = c.in-Some.ensures.some in
    rw c.at_page.ensures
    (there_errors s c.grant_first.new.pages.items c.args.size c.in-Some.page was.inside c.in-Some.answer was.answer)

pub allocate_anew-requires : goal.allocate_anew-requires
allocate_anew-requires g c = rw (c.in-None.ensures.stays refl) (c.in-None.ensures.none refl)

pub returns-in-None-clause-step : goal.returns-in-None-clause-step
returns-in-None-clause-step g c =
    rw (← c.self.view_is, ← c.in-None.ensures.stays refl) c.allocate_anew.ensures.step

pub returns-in-None-clause-adds : goal.returns-in-None-clause-adds
returns-in-None-clause-adds g c =
    rw (← c.self.view_is, ← c.in-None.ensures.stays refl) c.allocate_anew.ensures.adds

pub returns-in-None-clause-granted : goal.returns-in-None-clause-granted
returns-in-None-clause-granted g c =
    rw (← c.self.view_is, ← c.in-None.ensures.stays refl) c.allocate_anew.ensures.granted

pub returns-in-None-clause-first : goal.returns-in-None-clause-first
returns-in-None-clause-first g c =
    rw (← c.self.view_is, ← c.in-None.ensures.stays refl) c.allocate_anew.ensures.first

pub returns-in-None-clause-count : goal.returns-in-None-clause-count
returns-in-None-clause-count g c =
    rw (← c.self.view_is, ← c.in-None.ensures.stays refl) c.allocate_anew.ensures.count

pub returns-in-None-clause-spent : goal.returns-in-None-clause-spent
returns-in-None-clause-spent g c =
    rw (← c.self.view_is, ← c.in-None.ensures.stays refl) c.allocate_anew.ensures.spent

pub returns-in-None-clause-settings : goal.returns-in-None-clause-settings
returns-in-None-clause-settings g c =
    rw (← c.self.view_is, ← c.in-None.ensures.stays refl) c.allocate_anew.ensures.settings

pub returns-in-None-clause-none : goal.returns-in-None-clause-none
returns-in-None-clause-none g c =
    rw (← c.self.view_is, ← c.in-None.ensures.stays refl) c.allocate_anew.ensures.none

pub returns-in-None-clause-refused : goal.returns-in-None-clause-refused
returns-in-None-clause-refused g c =
    rw (← c.self.view_is, ← c.in-None.ensures.stays refl) c.allocate_anew.ensures.refused

pub returns-in-None-clause-fault : goal.returns-in-None-clause-fault
returns-in-None-clause-fault g c =
    rw (← c.self.view_is, ← c.in-None.ensures.stays refl) c.allocate_anew.ensures.fault
