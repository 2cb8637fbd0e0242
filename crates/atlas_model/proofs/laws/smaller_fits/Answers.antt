use Rattle.atlas_model.proofs.ChoiceLemmas.PickExistence.{smaller_fits}
use Rattle.atlas_model.proofs.laws.smaller_fits.Goals as goal

pub returns : goal.returns
returns c = smaller_fits
