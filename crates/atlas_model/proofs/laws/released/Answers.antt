use Rattle.atlas_model.proofs.TreeLemmas.TreeKept.{release_keeps}
use Rattle.atlas_model.proofs.laws.released.Goals as goal

pub returns : goal.returns
returns c = release_keeps
