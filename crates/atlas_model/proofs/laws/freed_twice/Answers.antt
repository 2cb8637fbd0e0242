use Rattle.atlas_model.proofs.StepLemmas.FreedRoom.{freed_twice}
use Rattle.atlas_model.proofs.laws.freed_twice.Goals as goal

pub returns : goal.returns
returns c = freed_twice
