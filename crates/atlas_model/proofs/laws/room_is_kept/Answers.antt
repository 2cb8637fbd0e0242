use Rattle.atlas_model.proofs.StepLemmas.FreedRoom.{room_is_kept}
use Rattle.atlas_model.proofs.laws.room_is_kept.Goals as goal

pub returns : goal.returns
returns c = room_is_kept
