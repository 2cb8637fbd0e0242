use Rattle.std.proofs.Common.{arith}
use Rattle.std.proofs.lemmas.Grind.{common_steps}
use Rattle.atlas_store.proofs.slots.walks.gather_allocated.Goals as goal

pub loop-number-preserved : goal.loop-number-preserved
loop-number-preserved g c = grind (arith, common_steps)

pub returns-clause-list : goal.returns-clause-list
returns-clause-list g c = grind (arith, common_steps)
