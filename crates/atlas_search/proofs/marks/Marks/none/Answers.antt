use Rattle.atlas_search.proofs.SearchLemmas.MarkWrites.{no_mark, no-marks}
use Rattle.atlas_search.proofs.marks.Marks.none.Goals as goal

pub invariant_of-result : goal.invariant_of-result
invariant_of-result c = no-marks c.none-none.result c.none-none.ensures.none

pub returns : goal.returns
returns c = no_mark c.none-none.result c.none-none.ensures.none
