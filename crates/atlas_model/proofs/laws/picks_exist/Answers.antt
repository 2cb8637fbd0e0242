use Rattle.atlas_model.proofs.ChoiceLemmas.PickExistence.{picks_exist}
use Rattle.atlas_model.proofs.laws.picks_exist.Goals as goal

pub returns : goal.returns
returns c = picks_exist
