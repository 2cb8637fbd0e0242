use Rattle.atlas_model.proofs.TreeLemmas.TreeInside.{room_comes_from_inside}
use Rattle.atlas_model.proofs.laws.room_comes_from_inside.Goals as goal

pub returns : goal.returns
returns c = room_comes_from_inside
