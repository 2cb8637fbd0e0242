use Rattle.atlas_model.proofs.TreeLemmas.TreeInside.{freeing_makes_one_box}
use Rattle.atlas_model.proofs.laws.freeing_makes_one_box.Goals as goal

pub returns : goal.returns
returns c = freeing_makes_one_box
