use Rattle.atlas_model.proofs.StepLemmas.StepEffects.{picks_are_one}
use Rattle.atlas_model.proofs.laws.picks_are_one.Goals as goal

pub returns : goal.returns
returns c = picks_are_one
