use Rattle.std.proofs.Common.{arith}
use Rattle.atlas_search.proofs.SearchLemmas.BandLaws.{border_of-most}
use Rattle.atlas_search.proofs.bands.Scale.end_after.Goals as goal

pub returns-then-first-self-clause-most : goal.returns-then-first-self-clause-most
returns-then-first-self-clause-most c = grind (arith, border_of-most)

pub returns-then-first-self-2-clause-most : goal.returns-then-first-self-2-clause-most
returns-then-first-self-2-clause-most c = grind (arith, border_of-most)
