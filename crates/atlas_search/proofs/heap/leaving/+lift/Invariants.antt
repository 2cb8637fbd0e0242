use Rattle.std.proofs.Common.{map}
use Rattle.atlas_search.proofs.HeapLemmas.Leaving.{hanging_both}
use Rattle.atlas_search.proofs.heap.leaving.+lift.Given as goal

abbrev pub decreases-lift : goal.decreases-lift
decreases-lift g l = hanging_both (map g.E.Entry.item l.entries.now) l.left.number l.right.number
