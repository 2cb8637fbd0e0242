use Rattle.std.proofs.Common.{arith}
use Rattle.atlas_search.proofs.SearchLemmas.SearchesBefore.{rows-next}
use Rattle.atlas_search.proofs.search.rows_with.Goals as goal

pub loop-column-init : goal.loop-column-init
loop-column-init g c = λ i j h from before used. absurd (omega (arith, from, before))

pub loop-column-preserved : goal.loop-column-preserved
loop-column-preserved g c = grind (arith, rows-next)

pub returns : goal.returns
returns g c = λ i j h from before used. c.loop-column.invariant i j h from (omega (arith, before, c.loop-column-test.false)) used
