use Rattle.std.proofs.Common.{◌-◌, length}
use Rattle.atlas_tree.proofs.FreeingLemmas.{IsUnderway}
use Rattle.atlas_tree.proofs.freeing.free_leaf.Given as goal

abbrev pub invariant-loop-container : goal.invariant-loop-container
invariant-loop-container g l = IsUnderway l.fn.store l.store l.fn.slot.number l.at.number l.given

abbrev pub decreases-loop-container : goal.decreases-loop-container
decreases-loop-container g l = length l.fn.store.slots.items - l.given
