use Rattle.std.proofs.Common.{arith}
use Rattle.atlas_model.proofs.SimpleLemmas.SimpleSteps.{none-guarded}
use Rattle.guillotiere.proofs.SimpleLemmas.SimpleStarts.{restarted-stored}
use Rattle.guillotiere.proofs.simple.SimpleAtlasAllocator.reset.Goals as goal

pub invariant_of-self : goal.invariant_of-self
invariant_of-self g c = grind (arith, restarted-stored)

pub returns-clause-simple : goal.returns-clause-simple
returns-clause-simple g c = grind (arith, restarted-stored)

pub returns-clause-guarded : goal.returns-clause-guarded
returns-clause-guarded g c = grind (arith, none-guarded, restarted-stored)
