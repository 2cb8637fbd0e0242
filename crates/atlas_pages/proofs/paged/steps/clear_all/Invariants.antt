use Rattle.std.proofs.Common.{◌≡◌, ◌<◌, ◌≤◌, ℕ, length, slice_get}
use Rattle.guillotiere.specs.Pages.{page_sizes}
use Rattle.guillotiere.specs.Steps.AtlasCall.{Clear}
use Rattle.guillotiere.specs.Steps.AtlasReply.{Done}
use Rattle.atlas_pages.specs.Paged.{AreIdleAmong, StepsAt}
use Rattle.atlas_pages.proofs.paged.steps.clear_all.Given as goal

abbrev pub invariant-loop-page : goal.invariant-loop-page
invariant-loop-page g l =
    record {
      each : (k : ℕ) → k < l.page → StepsAt l.fn.pages l.pages k Clear Done;
      rest : (k : ℕ) → l.page ≤ k → slice_get l.pages k ≡ slice_get l.fn.pages k;
      idle : AreIdleAmong l.pages 0 l.page;
      same : length l.pages ≡ l.page-end;
      sizes : page_sizes l.pages ≡ page_sizes l.fn.pages;
    }
