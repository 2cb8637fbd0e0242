use Rattle.std.proofs.Common.{◌≡◌, map, take}
use Rattle.atlas_store.specs.Store.Restoring.{image_node}
use Rattle.atlas_store.proofs.store.restoring.images_of.Given as goal

abbrev pub invariant-loop-slot : goal.invariant-loop-slot
invariant-loop-slot g l = l.nodes.items ≡ map image_node (take l.slot-index l.slots)
