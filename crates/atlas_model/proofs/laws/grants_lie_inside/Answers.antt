use Rattle.atlas_model.proofs.StepLemmas.StepEffects.{grants_lie_inside}
use Rattle.atlas_model.proofs.laws.grants_lie_inside.Goals as goal

pub returns : goal.returns
returns c = grants_lie_inside
