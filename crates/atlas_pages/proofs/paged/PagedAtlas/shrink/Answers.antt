use Rattle.std.proofs.Common.{length, subst}
use Rattle.atlas_pages.specs.Paged.{AreIdleAmong, IsLastBusy}
use Rattle.atlas_pages.proofs.PagedLemmas.{idle_go}
use Rattle.atlas_pages.proofs.paged.PagedAtlas.shrink.Goals as goal

pub returns-clause-idle : goal.returns-clause-idle
returns-clause-idle g c =
    rw (c.number.ensures, ← c.self.view_is)
    (subst (λ pages. AreIdleAmong pages c.busy_pages-busy.result (length pages)) c.deref.ensures.value c.busy_pages-busy.ensures.idle)

pub returns-clause-busy : goal.returns-clause-busy
returns-clause-busy g c =
    rw (c.number.ensures, ← c.self.view_is)
    (subst (λ pages. IsLastBusy pages c.busy_pages-busy.result) c.deref.ensures.value c.busy_pages-busy.ensures.busy)

pub returns-clause-same : goal.returns-clause-same
returns-clause-same g c =
    rw (c.truncate.ensures.items, ← c.self.view_is)
    (idle_go c.self.inside.pages.items c.busy_pages-busy.result
    (subst (λ pages. AreIdleAmong pages c.busy_pages-busy.result (length pages)) c.deref.ensures.value c.busy_pages-busy.ensures.idle))
