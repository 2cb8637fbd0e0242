use Rattle.atlas_search.proofs.SearchLemmas.MaskBits.{none-has}
use Rattle.atlas_search.proofs.masks.Mask.none.Goals as goal

pub returns-clause-none : goal.returns-clause-none
returns-clause-none c = none-has
