use Rattle.std.proofs.Common.{◌≡◌, arith, false, subst, true, IsSome}
use Rattle.atlas_pages.specs.Paged.{PagedState}
use Rattle.atlas_pages.proofs.PagedLemmas.{freeing_steps}
use Rattle.atlas_pages.proofs.paged.PagedAtlas.deallocate.Goals as goal
use Rattle.guillotiere.proofs.Callers.{no_rectangle_off, leaves_off_pages}

pub returns-then-len-page-clause-ok : goal.returns-then-len-page-clause-ok
returns-then-len-page-clause-ok g c =
    rw (← c.self.view_is) (
      λ same. absurd cc,
      λ some. absurd (let no : false ≡ true = subst IsSome
          (no_rectangle_off c.self.inside.pages.items c.args.page c.args.id
          (omega (arith, c.if-len-page.true, c.len.ensures, c.self.inside.pages.ok.0))) some in cc),
    )

pub returns-then-len-page-clause-leaves : goal.returns-then-len-page-clause-leaves
returns-then-len-page-clause-leaves g c =
    rw (← c.self.view_is) (leaves_off_pages c.self.inside.pages.items c.args.page c.args.id
    (omega (arith, c.if-len-page.true, c.len.ensures, c.self.inside.pages.ok.0)))

pub returns-clause-step : goal.returns-clause-step
returns-clause-step g c =
    let r = c.self.inside in
    let s : PagedState = record { pages = r.pages.items; page_size = r.page_size; options = r.options; most = r.most } in
    rw (← c.self.view_is) (freeing_steps s c.free_at.new.pages.items c.args.page c.args.id c.free_at.result
    c.free_at.ensures.step)

pub returns-clause-ok : goal.returns-clause-ok
returns-clause-ok g c = rw (← c.self.view_is) c.free_at.ensures.ok
