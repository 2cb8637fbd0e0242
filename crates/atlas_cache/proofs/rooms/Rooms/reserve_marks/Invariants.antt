use Rattle.std.proofs.Common.{◌≤◌, length}
use Rattle.atlas_cache.proofs.rooms.Rooms.reserve_marks.Given as goal

abbrev pub invariant-loop-page : goal.invariant-loop-page
invariant-loop-page g l = length l.self.pages ≤ length l.marks.items
