use Rattle.guillotiere.proofs.SimpleLemmas.ApartTold.{columns}
use Rattle.guillotiere.proofs.simple.apart.+are_apart_in.Given as goal

abbrev pub decreases-are_apart_in : goal.decreases-are_apart_in
decreases-are_apart_in g l = columns l.slab.low l.slab.high
