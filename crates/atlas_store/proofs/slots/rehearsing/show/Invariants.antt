use Rattle.atlas_store.specs.Slots.{nodes}
use Rattle.atlas_store.proofs.SlotLemmas.Climbs.{IsClimbing, unmarked}
use Rattle.atlas_store.proofs.slots.rehearsing.show.Given as goal

abbrev pub invariant-loop-low : goal.invariant-loop-low
invariant-loop-low l = IsClimbing (nodes l.slots) l.fn.marks l.marks l.fn.leaf.number l.at.number

abbrev pub decreases-loop-low : goal.decreases-loop-low
decreases-loop-low l = unmarked l.marks
