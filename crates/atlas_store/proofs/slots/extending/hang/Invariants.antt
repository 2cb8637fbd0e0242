use Rattle.std.proofs.Common.{◌≡◌, ℕ, length}
use Rattle.atlas_store.specs.Slots.{nodes, rings, node_at, KeepsUse}
use Rattle.atlas_store.specs.Slots.Numbered.{Numbered}
use Rattle.atlas_store.specs.Slots.Standing.{Sequence}
use Rattle.atlas_store.specs.Slots.SlotCalls.{BeginsAt}
use Rattle.atlas_store.proofs.SlotLemmas.Followers.{followers}
use Rattle.atlas_store.proofs.SlotLemmas.NestedTops.{IsHanging}
use Rattle.atlas_store.proofs.slots.extending.hang.Given as goal

abbrev pub invariant-loop-at : goal.invariant-loop-at
invariant-loop-at l = record {
  hanging : (s : Sequence) (n : Numbered) → BeginsAt (nodes l.fn.slots) l.fn.first.number s n
      → IsHanging (nodes l.slots) l.container.number l.at.number s n;
  uses : (k : ℕ) → KeepsUse (node_at (nodes l.fn.slots) k) (node_at (nodes l.slots) k);
  same_rings : rings l.slots ≡ rings l.fn.slots;
}

abbrev pub decreases-loop-at : goal.decreases-loop-at
decreases-loop-at l = followers (length (nodes l.slots)) (nodes l.slots) l.at.number
