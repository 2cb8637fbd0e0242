use Rattle.std.proofs.Common.{arith}
use Rattle.std.proofs.lemmas.Bool.{eqb-true, eq-eqb}
use Rattle.atlas_store.proofs.WalkLemmas.HiddenSlots.{named-hidden, slots-same}
use Rattle.atlas_store.proofs.slots.batch.are_named_once.Goals as goal

pub returns-clause-named : goal.returns-clause-named
returns-clause-named c = grind (arith, named-hidden, eqb-true, eq-eqb)

pub returns-clause-same : goal.returns-clause-same
returns-clause-same c = grind (arith, slots-same)
