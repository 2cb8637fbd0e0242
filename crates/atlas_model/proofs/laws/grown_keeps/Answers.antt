use Rattle.atlas_model.proofs.TreeLemmas.TreeRoom.{grown_keeps}
use Rattle.atlas_model.proofs.laws.grown_keeps.Goals as goal

pub returns : goal.returns
returns c = grown_keeps
