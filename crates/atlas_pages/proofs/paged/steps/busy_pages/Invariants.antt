use Rattle.std.proofs.Common.{◌≤◌}
use Rattle.atlas_pages.specs.Paged.{AreIdleAmong, IsLastBusy}
use Rattle.atlas_pages.proofs.paged.steps.busy_pages.Given as goal

abbrev pub invariant-loop-page : goal.invariant-loop-page
invariant-loop-page g l =
    record {
      few : l.busy ≤ l.page;
      idle : AreIdleAmong l.pages l.busy l.page;
      last : IsLastBusy l.pages l.busy;
    }
