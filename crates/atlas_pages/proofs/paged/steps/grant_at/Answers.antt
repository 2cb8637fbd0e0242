use Rattle.std.proofs.Common.{◌≡◌, None, Ok, length, IfOk, IfSome, OnErr}
use Rattle.guillotiere.specs.Pages.{AddsBoxOn}
use Rattle.guillotiere.specs.Pixels.{sides_of}
use Rattle.guillotiere.specs.Replies.{allocate_reply}
use Rattle.guillotiere.specs.Steps.AtlasCall.{Allocate}
use Rattle.atlas_pages.specs.Paged.{StepsAt}
use Rattle.atlas_pages.proofs.PagedLemmas.{written}
use Rattle.atlas_pages.proofs.paged.steps.grant_at.Goals as goal

pub returns-clause-step : goal.returns-clause-step
returns-clause-step g c =
    written c.args.pages.now _ _ c.deref_mut.ensures.value c.grant_on.ensures.length
    (λ old new. StepsAt old new c.args.page (Allocate (sides_of c.args.size)) (allocate_reply c.grant_on.result)) c.grant_on.ensures.step

pub returns-clause-adds : goal.returns-clause-adds
returns-clause-adds g c =
    written c.args.pages.now _ _ c.deref_mut.ensures.value c.grant_on.ensures.length
    (λ old new. IfOk c.grant_on.result (λ granted. IfSome granted (λ a. AddsBoxOn old new c.args.page a.id a.rectangle)))
    c.grant_on.ensures.adds

pub returns-clause-none : goal.returns-clause-none
returns-clause-none g c =
    written c.args.pages.now _ _ c.deref_mut.ensures.value c.grant_on.ensures.length
    (λ old new. c.grant_on.result ≡ Ok None → new ≡ old) c.grant_on.ensures.none

pub returns-clause-refused : goal.returns-clause-refused
returns-clause-refused g c =
    written c.args.pages.now _ _ c.deref_mut.ensures.value c.grant_on.ensures.length
    (λ old new. OnErr c.grant_on.result (new ≡ old)) c.grant_on.ensures.refused

pub returns-clause-length : goal.returns-clause-length
returns-clause-length g c =
    written c.args.pages.now _ _ c.deref_mut.ensures.value c.grant_on.ensures.length
    (λ old new. length new ≡ length old) c.grant_on.ensures.length
