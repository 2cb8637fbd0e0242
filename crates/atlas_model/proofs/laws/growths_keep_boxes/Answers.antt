use Rattle.atlas_model.proofs.StepLemmas.StepEffects.{growths_keep_boxes}
use Rattle.atlas_model.proofs.laws.growths_keep_boxes.Goals as goal

pub returns : goal.returns
returns c = growths_keep_boxes
