use Rattle.atlas_maxrects.proofs.LeftOvers.{AreWithout}
use Rattle.atlas_maxrects.proofs.free.without.Given as goal

abbrev pub invariant-loop-other : goal.invariant-loop-other
invariant-loop-other g l = AreWithout l.boxes l.part l.other-index l.kept.items
