use Rattle.std.proofs.Common.{◌≡◌, arith, inl, length}
use Rattle.atlas_pages.specs.Paged.{PagedState}
use Rattle.atlas_pages.proofs.PagedLemmas.{
  anew_adds,
  anew_count,
  anew_errors,
  anew_fault,
  anew_few,
  anew_first,
  anew_granted,
  anew_none,
  anew_refused,
  anew_spent,
  anew_step,
}
use Rattle.atlas_pages.proofs.paged.PagedAtlas.allocate_anew.Goals as goal

pub returns-clause-step : goal.returns-clause-step
returns-clause-step g c =
    let r = c.self.inside in
    let s : PagedState = record { pages = r.pages.items; page_size = r.page_size; options = r.options; most = r.most } in
    let number : c.len-page.result ≡ length c.self.inside.pages.items =
    omega (arith, c.len-page.ensures, c.self.inside.pages.ok.0) in
    rw (c.at_page.ensures, number, ← c.self.view_is)
    (anew_step s c.add_page-answer.new.pages.items c.args.size c.add_page-answer.result
    c.add_page-answer.ensures.joins)

pub returns-clause-adds : goal.returns-clause-adds
returns-clause-adds g c =
    let r = c.self.inside in
    let s : PagedState = record { pages = r.pages.items; page_size = r.page_size; options = r.options; most = r.most } in
    let number : c.len-page.result ≡ length c.self.inside.pages.items =
    omega (arith, c.len-page.ensures, c.self.inside.pages.ok.0) in
    rw (c.at_page.ensures, number, ← c.self.view_is)
    (anew_adds s c.add_page-answer.new.pages.items c.args.size c.add_page-answer.result
    c.add_page-answer.ensures.joins)

pub returns-clause-granted : goal.returns-clause-granted
returns-clause-granted g c =
    let r = c.self.inside in
    let s : PagedState = record { pages = r.pages.items; page_size = r.page_size; options = r.options; most = r.most } in
    let number : c.len-page.result ≡ length c.self.inside.pages.items =
    omega (arith, c.len-page.ensures, c.self.inside.pages.ok.0) in
    rw (c.at_page.ensures, number, ← c.self.view_is)
    (anew_granted s c.add_page-answer.new.pages.items c.args.size c.add_page-answer.result
    c.add_page-answer.ensures.joins)

pub returns-clause-first : goal.returns-clause-first
returns-clause-first g c =
    let r = c.self.inside in
    let s : PagedState = record { pages = r.pages.items; page_size = r.page_size; options = r.options; most = r.most } in
    let number : c.len-page.result ≡ length c.self.inside.pages.items =
    omega (arith, c.len-page.ensures, c.self.inside.pages.ok.0) in
    rw (c.at_page.ensures, number, ← c.self.view_is)
    (anew_first s c.add_page-answer.new.pages.items c.args.size c.add_page-answer.result
    (rw (← c.self.view_is) at c.requires))

pub returns-clause-count : goal.returns-clause-count
returns-clause-count g c =
    let r = c.self.inside in
    let s : PagedState = record { pages = r.pages.items; page_size = r.page_size; options = r.options; most = r.most } in
    let number : c.len-page.result ≡ length c.self.inside.pages.items =
    omega (arith, c.len-page.ensures, c.self.inside.pages.ok.0) in
    rw (c.at_page.ensures, number, ← c.self.view_is)
    (anew_count s c.add_page-answer.new.pages.items c.args.size c.add_page-answer.result
    c.add_page-answer.ensures.joins)

pub returns-clause-spent : goal.returns-clause-spent
returns-clause-spent g c =
    let r = c.self.inside in
    let s : PagedState = record { pages = r.pages.items; page_size = r.page_size; options = r.options; most = r.most } in
    let number : c.len-page.result ≡ length c.self.inside.pages.items =
    omega (arith, c.len-page.ensures, c.self.inside.pages.ok.0) in
    rw (c.at_page.ensures, number, ← c.self.view_is)
    (anew_spent s c.add_page-answer.new.pages.items c.args.size c.add_page-answer.result
    (rw (← c.self.view_is) at c.requires) c.add_page-answer.ensures.none)

pub returns-clause-none : goal.returns-clause-none
returns-clause-none g c =
    let r = c.self.inside in
    let s : PagedState = record { pages = r.pages.items; page_size = r.page_size; options = r.options; most = r.most } in
    let number : c.len-page.result ≡ length c.self.inside.pages.items =
    omega (arith, c.len-page.ensures, c.self.inside.pages.ok.0) in
    rw (c.at_page.ensures, number, ← c.self.view_is)
    (anew_none s c.add_page-answer.new.pages.items c.args.size c.add_page-answer.result
    c.add_page-answer.ensures.stays)

pub returns-clause-refused : goal.returns-clause-refused
returns-clause-refused g c =
    let r = c.self.inside in
    let s : PagedState = record { pages = r.pages.items; page_size = r.page_size; options = r.options; most = r.most } in
    let number : c.len-page.result ≡ length c.self.inside.pages.items =
    omega (arith, c.len-page.ensures, c.self.inside.pages.ok.0) in
    rw (c.at_page.ensures, number, ← c.self.view_is)
    (anew_refused s c.add_page-answer.new.pages.items c.args.size c.add_page-answer.result
    c.add_page-answer.ensures.refused)

pub returns-clause-fault : goal.returns-clause-fault
returns-clause-fault g c =
    let r = c.self.inside in
    let s : PagedState = record { pages = r.pages.items; page_size = r.page_size; options = r.options; most = r.most } in
    let number : c.len-page.result ≡ length c.self.inside.pages.items =
    omega (arith, c.len-page.ensures, c.self.inside.pages.ok.0) in
    rw (c.at_page.ensures, number, ← c.self.view_is)
    (anew_fault s c.add_page-answer.new.pages.items c.args.size c.add_page-answer.result
    (rw (← c.self.view_is) at c.requires) (omega (arith, number, c.if-page-self.false))
    c.add_page-answer.ensures.errors)

pub returns-clause-errors : goal.returns-clause-errors
returns-clause-errors g c =
    let r = c.self.inside in
    let s : PagedState = record { pages = r.pages.items; page_size = r.page_size; options = r.options; most = r.most } in
    let number : c.len-page.result ≡ length c.self.inside.pages.items =
    omega (arith, c.len-page.ensures, c.self.inside.pages.ok.0) in
    rw (c.at_page.ensures, number)
    (anew_errors s c.add_page-answer.new.pages.items c.args.size c.add_page-answer.result
    c.add_page-answer.ensures.errors)

pub invariant_of-self : goal.invariant_of-self
invariant_of-self g c =
    let r = c.self.inside in
    let s : PagedState = record { pages = r.pages.items; page_size = r.page_size; options = r.options; most = r.most } in
    let number : c.len-page.result ≡ length c.self.inside.pages.items =
    omega (arith, c.len-page.ensures, c.self.inside.pages.ok.0) in
    record {
      size = c.self.invariant.size;
      options = c.self.invariant.options;
      few = anew_few s c.add_page-answer.new.pages.items c.args.size c.add_page-answer.result
          c.add_page-answer.ensures.joins c.add_page-answer.ensures.stays c.add_page-answer.ensures.refused (omega
          (arith, number, c.if-page-self.false));
    }

pub returns-then-page-self-clause-spent : goal.returns-then-page-self-clause-spent
returns-then-page-self-clause-spent g c = λ none.
    rw (← c.self.view_is) (record {
      none = rw (← c.self.view_is) at c.requires;
      full = inl (omega
          (arith, c.len-page.ensures, c.self.inside.pages.ok.0, c.if-page-self.true, c.self.invariant.few));
    })
