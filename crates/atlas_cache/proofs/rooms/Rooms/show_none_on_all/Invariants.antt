use Rattle.atlas_cache.proofs.ShownLemmas.{AreShownBelow}
use Rattle.atlas_cache.proofs.rooms.Rooms.show_none_on_all.Given as goal

abbrev pub invariant-loop-page : goal.invariant-loop-page
invariant-loop-page g l = AreShownBelow l.self.pages l.marks.items l.page
