use Rattle.guillotiere.proofs.SimpleLemmas.ApartSteps.{IsStackedTo}
use Rattle.guillotiere.proofs.simple.apart.are_stacked.Given as goal

abbrev pub invariant-loop-area : goal.invariant-loop-area
invariant-loop-area l = IsStackedTo l.slab.low l.slab.high l.boxes l.area-index l.all l.full
