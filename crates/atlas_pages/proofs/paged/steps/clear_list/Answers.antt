use Rattle.std.proofs.Common.{◌≡◌, ◌<◌, ℕ, length}
use Rattle.guillotiere.specs.Pages.{page_sizes}
use Rattle.guillotiere.specs.Steps.AtlasCall.{Clear}
use Rattle.guillotiere.specs.Steps.AtlasReply.{Done}
use Rattle.atlas_pages.specs.Paged.{AreIdleAmong, StepsAt}
use Rattle.atlas_pages.proofs.PagedLemmas.{written}
use Rattle.atlas_pages.proofs.paged.steps.clear_list.Goals as goal

pub returns-clause-each : goal.returns-clause-each
returns-clause-each g c =
    written c.args.pages.now _ _ c.deref_mut.ensures.value c.clear_all.ensures.length
    (λ old new. (page : ℕ) → page < length old → StepsAt old new page Clear Done) c.clear_all.ensures.each

pub returns-clause-idle : goal.returns-clause-idle
returns-clause-idle g c =
    written c.args.pages.now _ _ c.deref_mut.ensures.value c.clear_all.ensures.length
    (λ old new. AreIdleAmong new 0 (length new)) c.clear_all.ensures.idle

pub returns-clause-sizes : goal.returns-clause-sizes
returns-clause-sizes g c =
    written c.args.pages.now _ _ c.deref_mut.ensures.value c.clear_all.ensures.length
    (λ old new. page_sizes new ≡ page_sizes old) c.clear_all.ensures.sizes

pub returns-clause-length : goal.returns-clause-length
returns-clause-length g c =
    written c.args.pages.now _ _ c.deref_mut.ensures.value c.clear_all.ensures.length
    (λ old new. length new ≡ length old) c.clear_all.ensures.length
