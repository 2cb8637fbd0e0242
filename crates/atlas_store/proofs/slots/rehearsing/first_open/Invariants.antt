use Rattle.std.proofs.Common.{ℕ, length}
use Rattle.atlas_store.specs.Slots.{nodes}
use Rattle.atlas_store.specs.Slots.Rehearsing.{IsUsedAt, OpenLine, is_open}
use Rattle.atlas_store.proofs.SlotLemmas.OpenWalks.{leaders}
use Rattle.atlas_store.proofs.slots.rehearsing.first_open.Given as goal

abbrev pub invariant-loop-before : goal.invariant-loop-before
invariant-loop-before l = record {
  used : IsUsedAt (nodes l.slots) l.low.number;
  line : (count : ℕ) × OpenLine (nodes l.slots) (is_open (nodes l.slots) l.marks) count l.low.number l.fn.at.number;
}

abbrev pub decreases-loop-before : goal.decreases-loop-before
decreases-loop-before l = leaders (length (nodes l.slots)) (nodes l.slots) l.low.number
