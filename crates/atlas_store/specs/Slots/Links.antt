-- What the calls on lists of slots make of rings, lists and marks. No public clause cites this module.
use Rattle.std.specs.Prelude.{ℕ, ◌+◌, ◌%◌, ◌≡◌, ◌≢◌, ◌<◌, ◌==◌, Bool, true, false, if◌then◌else◌}
use Rattle.std.specs.Prelude.{List, [], ◌∷◌, ◌++◌, length, slice_set}
use Rattle.atlas_store.specs.declared.slots.Slot.{Slot}
use Rattle.atlas_search.specs.declared.link.Link.{Link}
use Rattle.atlas_store.specs.declared.slots.Node.{Node}
use Rattle.atlas_store.specs.declared.slots.Ring.{Ring}
use Rattle.atlas_store.specs.declared.slots.NodeKind.TheVariants as kind
use Rattle.atlas_store.specs.declared.slots.lists.Recent.{Recent}
use Rattle.atlas_model.specs.Choice.{Options}
use Rattle.atlas_store.specs.Slots.{nodes, rings, node_at, ring_at, blank_slot, AreTakenOnce}
use Rattle.atlas_store.specs.Slots.Lists.{AreFiled, IsRecent, Line, Places}
use Rattle.atlas_search.specs.Numbers.{front, lists_with, no_slot, without}

-- `link` is on the right of slot i.
abbrev pub with_right : List Ring → ℕ → Link → List Ring
with_right rs i link = slice_set rs i (record (ring_at rs i) { right = link })

-- The mark of slot i is `mark`, and the others stay.
abbrev pub with_mark : (ℕ → Bool) → ℕ → Bool → ℕ → Bool
with_mark detached i mark k = if k == i then mark else detached k

-- The count of slot i is n, and the others stay.
abbrev pub with_count : (ℕ → ℕ) → ℕ → ℕ → ℕ → ℕ
with_count claimed i n k = if k == i then n else claimed k

-- Slot i is gone from each list.
abbrev pub lists_without : (ℕ → List ℕ) → ℕ → ℕ → List ℕ
lists_without free_lists i k = without i (free_lists k)

-- The lists are in order, and slot i is not detached.
pub record IsFiledSlot (o : Options) (slots : List Slot) (heads : List Link) (i : ℕ) : Type 0 where
  pub unused : Link
  pub places : Places
  pub filed : AreFiled o (nodes slots) (rings slots) heads unused places
  pub kept : places.detached i ≡ false

-- The lists are in order, slot i is detached, and the slot that was listed last stands in its list.
pub record IsDetachedSlot (o : Options) (slots : List Slot) (heads : List Link) (recent : Recent) (i : ℕ) : Type 0 where
  pub unused : Link
  pub places : Places
  pub is_recent : IsRecent recent places.free_lists
  pub filed : AreFiled o (nodes slots) (rings slots) heads unused places
  pub is_detached : places.detached i ≡ true

-- The list but for its first.
abbrev pub tail_of : List ℕ → List ℕ
tail_of [] = []
tail_of (x ∷ xs) = xs

-- Slot i has left its list, and is detached.
abbrev pub unlisted : Places → ℕ → Places
unlisted p i = record p { free_lists = lists_without p.free_lists i; detached = with_mark p.detached i true }

-- Slot i stands first in list m, and is no longer detached.
abbrev pub listed : Places → (m i : ℕ) → Places
listed p m i = record p { free_lists = lists_with p.free_lists m i; detached = with_mark p.detached i false }

-- The first unused slot, if there was one, is gone, and slot i is claimed.
abbrev pub with_claimed : Places → ℕ → Places
with_claimed p i = record p { unused_list = tail_of p.unused_list; claimed = with_count p.claimed i 1 }

-- Slot i, which was claimed, is the first unused one.
abbrev pub given_back : Places → ℕ → Places
given_back p i = record p { unused_list = i ∷ p.unused_list; claimed = with_count p.claimed i 0 }

-- The node of an unused slot once it is taken again.
abbrev pub renewed : Node → Node
renewed n = record n { generation = (n.generation + 1) % 256 }

-- Slot `at` was taken: it is claimed, no longer unused, not used, and none of those that were claimed.
pub record IsTaken (o : Options) (old new : List Slot) (heads : List Link) (unused' : Link) (p : Places)
    (at : ℕ) : Type 0 where
  pub filed : AreFiled o (nodes new) (rings new) heads unused' (with_claimed p at)
  pub inside : at < length new
  pub was_unused : (node_at (nodes old) at).kind ≡ kind.Unused
  pub is_unused : (node_at (nodes new) at).kind ≡ kind.Unused
  pub apart : (k : ℕ) → k < length old → 0 < p.claimed k → at ≡ k → ⊥

-- The first of the unused slots can be taken, or else there is room for a new one.
pub record CanTake (slots : List Slot) (capacity : ℕ) (unused : Link) : Type 0 where
  pub line : (unused_list : List ℕ) × Line (rings slots) unused_list × (unused.number ≡ front unused_list)
  pub room : unused.number ≡ no_slot → length slots < capacity
  pub short : length slots < no_slot

-- The first of the unused slots was taken, in its next generation, or else a new one.
pub record TakesFirst (old new : List Slot) (unused unused' at : Link) : Type 0 where
  pub taken : (o : Options) (heads : List Link) (p : Places) → AreFiled o (nodes old) (rings old) heads unused p
      → IsTaken o old new heads unused' p at.number
  pub others : (k : ℕ) → k ≢ at.number → node_at (nodes new) k ≡ node_at (nodes old) k
  pub again : unused.number ≢ no_slot
      → (at ≡ unused) × (nodes new ≡ slice_set (nodes old) at.number (renewed (node_at (nodes old) at.number)))
  pub fresh : unused.number ≡ no_slot → (at.number ≡ length old) × (new ≡ old ++ blank_slot ∷ [])
  pub once : AreTakenOnce (nodes old) unused → AreTakenOnce (nodes new) unused'
