use Rattle.std.proofs.Common.{arith}
use Rattle.std.proofs.lemmas.List.{with_items_is}
use Rattle.atlas_store.proofs.StoreLemmas.TakenSlots.{takes-fresh, takes-again}
use Rattle.atlas_store.proofs.slots.lists.take_slot.Goals as goal

pub returns-then-at-clause-taken : goal.returns-then-at-clause-taken
returns-then-at-clause-taken g c = grind (arith, takes-fresh)

pub returns-else-at-clause-taken : goal.returns-else-at-clause-taken
returns-else-at-clause-taken g c = grind (arith, takes-again, with_items_is)
