use Rattle.atlas_model.proofs.StepLemmas.FreedRoom.{room_grows}
use Rattle.atlas_model.proofs.laws.room_grows.Goals as goal

pub returns : goal.returns
returns c = room_grows
