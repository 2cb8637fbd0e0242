use Rattle.atlas_model.proofs.SimpleLemmas.SimpleRuns.{guarded_are_disjoint}
use Rattle.atlas_model.proofs.laws.guarded_are_disjoint.Goals as goal

pub returns : goal.returns
returns c = guarded_are_disjoint
