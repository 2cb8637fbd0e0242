use Rattle.atlas_model.proofs.TreeLemmas.TreeInside.{one_free_box_around}
use Rattle.atlas_model.proofs.laws.one_free_box_around.Goals as goal

pub returns : goal.returns
returns c = one_free_box_around
