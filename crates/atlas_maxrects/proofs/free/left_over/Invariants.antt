use Rattle.atlas_maxrects.proofs.LeftOvers.{AreLeaving}
use Rattle.atlas_maxrects.proofs.free.left_over.Given as goal

abbrev pub invariant-loop-whole : goal.invariant-loop-whole
invariant-loop-whole g l = AreLeaving l.free l.taken l.whole-index l.left.items l.near.items
