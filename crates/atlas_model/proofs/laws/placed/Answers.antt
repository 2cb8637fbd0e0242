use Rattle.atlas_model.proofs.StepLemmas.RefittedTrees.{placings_keep_trees}
use Rattle.atlas_model.proofs.laws.placed.Goals as goal

pub returns : goal.returns
returns c = placings_keep_trees
