use Rattle.std.proofs.Common.{◌≡◌, length}
use Rattle.atlas_cache.proofs.rooms.Rooms.add_marks.Given as goal

abbrev pub invariant-loop-page : goal.invariant-loop-page
invariant-loop-page g l = l._page ≡ length l.marks.items
