use Rattle.atlas_model.proofs.StepLemmas.FreedRoom.{room_is_around}
use Rattle.atlas_model.proofs.laws.room_is_around.Goals as goal

pub returns : goal.returns
returns c = room_is_around
