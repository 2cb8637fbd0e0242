use Rattle.atlas_model.proofs.StepLemmas.RunOrder.{runs_keep_order}
use Rattle.atlas_model.proofs.laws.runs_keep_order.Goals as goal

pub returns : goal.returns
returns c = runs_keep_order
