use Rattle.std.proofs.Common.{◌≡◌, ℕ, length, true}
use Rattle.atlas_store.specs.Slots.{nodes}
use Rattle.atlas_store.specs.Slots.Rehearsing.{IsUsedAt, OpenLine, is_open}
use Rattle.atlas_store.proofs.SlotLemmas.Followers.{followers}
use Rattle.atlas_store.proofs.slots.rehearsing.last_open.Given as goal

abbrev pub invariant-loop-after : goal.invariant-loop-after
invariant-loop-after l = record {
  used : IsUsedAt (nodes l.slots) l.high.number;
  line : (count : ℕ) × OpenLine (nodes l.slots) (is_open (nodes l.slots) l.marks) count l.fn.at.number l.high.number;
  last : is_open (nodes l.slots) l.marks l.high.number ≡ true;
}

abbrev pub decreases-loop-after : goal.decreases-loop-after
decreases-loop-after l = followers (length (nodes l.slots)) (nodes l.slots) l.high.number
