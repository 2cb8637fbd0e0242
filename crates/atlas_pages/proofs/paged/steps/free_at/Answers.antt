use Rattle.std.proofs.Common.{◌≡◌, ◌↔◌, length, subst, IsSome, Ok, OnErr}
use Rattle.guillotiere.specs.Pages.{rectangle_on, LeavesNoBoxOn}
use Rattle.guillotiere.specs.Replies.{done_reply}
use Rattle.guillotiere.specs.Steps.AtlasCall.{Deallocate}
use Rattle.atlas_pages.specs.Paged.{StepsAt}
use Rattle.atlas_pages.proofs.PagedLemmas.{written}
use Rattle.atlas_pages.proofs.paged.steps.free_at.Goals as goal

pub returns-clause-step : goal.returns-clause-step
returns-clause-step g c =
    written c.args.pages.now _ _ c.deref_mut.ensures.value c.free_on.ensures.length
    (λ old new. StepsAt old new c.args.page (Deallocate c.args.id) (done_reply c.free_on.result)) c.free_on.ensures.step

pub returns-clause-leaves : goal.returns-clause-leaves
returns-clause-leaves g c =
    written c.args.pages.now _ _ c.deref_mut.ensures.value c.free_on.ensures.length
    (λ old new. LeavesNoBoxOn old new c.args.page c.args.id) c.free_on.ensures.leaves

pub returns-clause-refused : goal.returns-clause-refused
returns-clause-refused g c =
    written c.args.pages.now _ _ c.deref_mut.ensures.value c.free_on.ensures.length
    (λ old new. OnErr c.free_on.result (new ≡ old)) c.free_on.ensures.refused

pub returns-clause-length : goal.returns-clause-length
returns-clause-length g c =
    written c.args.pages.now _ _ c.deref_mut.ensures.value c.free_on.ensures.length
    (λ old new. length new ≡ length old) c.free_on.ensures.length

pub returns-clause-ok : goal.returns-clause-ok
returns-clause-ok g c =
    subst (λ pages. (c.free_on.result ≡ Ok tt) ↔ IsSome (rectangle_on pages c.args.page c.args.id)) c.deref_mut.ensures.value
    c.free_on.ensures.ok
