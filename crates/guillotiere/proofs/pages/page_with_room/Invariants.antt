use Rattle.guillotiere.specs.Pages.{NoneHasRoomBelow}
use Rattle.guillotiere.proofs.pages.page_with_room.Given as goal

abbrev pub invariant-loop-page : goal.invariant-loop-page
invariant-loop-page g l = NoneHasRoomBelow l.size l.pages l.page
