use Rattle.atlas_model.proofs.StepLemmas.StepEffects.{freeings_remove_one}
use Rattle.atlas_model.proofs.laws.freeings_remove_one.Goals as goal

pub returns : goal.returns
returns c = freeings_remove_one
