use Rattle.std.proofs.Common.{◌≡◌, map, take}
use Rattle.atlas_store.specs.Store.Restoring.{made_slot}
use Rattle.atlas_store.proofs.store.restoring.slots_of.Given as goal

abbrev pub invariant-loop-node : goal.invariant-loop-node
invariant-loop-node g l = l.slots.items ≡ map made_slot (take l.node-index l.nodes)
