use Rattle.atlas_model.proofs.StepLemmas.FreedRoom.{nothing_shown}
use Rattle.atlas_model.proofs.laws.nothing_shown.Goals as goal

pub returns : goal.returns
returns c = nothing_shown
