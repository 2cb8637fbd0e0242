use Rattle.std.proofs.Common.{◌≡◌, length, OnErr, OnOk}
use Rattle.guillotiere.specs.Pixels.{sides_of}
use Rattle.guillotiere.specs.Steps.AtlasCall.{Grow}
use Rattle.guillotiere.specs.Steps.AtlasReply.{Done}
use Rattle.atlas_pages.specs.Paged.{GrowsOn, StepsAt}
use Rattle.atlas_pages.proofs.PagedLemmas.{written}
use Rattle.atlas_pages.proofs.paged.steps.grow_at.Goals as goal

pub returns-clause-step : goal.returns-clause-step
returns-clause-step g c =
    written c.args.pages.now _ _ c.deref_mut.ensures.value c.grow_on.ensures.length
    (λ old new. OnOk c.grow_on.result (StepsAt old new c.args.page (Grow (sides_of c.args.size)) Done)) c.grow_on.ensures.step

pub returns-clause-grows : goal.returns-clause-grows
returns-clause-grows g c =
    written c.args.pages.now _ _ c.deref_mut.ensures.value c.grow_on.ensures.length
    (λ old new. OnOk c.grow_on.result (GrowsOn old new c.args.page c.args.size)) c.grow_on.ensures.grows

pub returns-clause-refused : goal.returns-clause-refused
returns-clause-refused g c =
    written c.args.pages.now _ _ c.deref_mut.ensures.value c.grow_on.ensures.length
    (λ old new. OnErr c.grow_on.result (new ≡ old)) c.grow_on.ensures.refused

pub returns-clause-length : goal.returns-clause-length
returns-clause-length g c =
    written c.args.pages.now _ _ c.deref_mut.ensures.value c.grow_on.ensures.length
    (λ old new. length new ≡ length old) c.grow_on.ensures.length
