use Rattle.std.proofs.Common.{◌≡◌, length}
use Rattle.guillotiere.specs.Pages.{NoneHasRoomBelow}
use Rattle.atlas_pages.proofs.paged.steps.grant_first.Given as goal

abbrev pub invariant-loop-page : goal.invariant-loop-page
invariant-loop-page g l =
    record {
      none : NoneHasRoomBelow l.size l.fn.pages.items l.page;
      stays : l.pages.items ≡ l.fn.pages.items;
      end : l.page-end ≡ length l.fn.pages.items;
    }
