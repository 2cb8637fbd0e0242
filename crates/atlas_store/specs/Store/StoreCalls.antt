-- What each call of the store does, in one word. No public clause cites this module.
use Rattle.std.specs.Prelude.{ℕ, ◌+◌, ◌-◌, ◌<◌, ◌≤◌, ◌≡◌, ◌≢◌, ◌⊎◌, List, [], ◌∷◌, length, true, false}
use Rattle.atlas_store.specs.declared.store.Store.{Store}
use Rattle.atlas_search.specs.declared.link.Link.{Link}
use Rattle.atlas_store.specs.declared.slots.placing.Parts.{Parts}
use Rattle.atlas_store.specs.declared.slots.placing.Plan.{Plan}
use Rattle.atlas_store.specs.declared.slots.NodeKind.TheVariants as kind
use Rattle.atlas_store.specs.Slots.Calm.{IsCalmAt, IsCalmBut}
use Rattle.atlas_store.specs.Slots.Links.{with_count}
use Rattle.atlas_search.specs.Numbers.{occurs}
use Rattle.atlas_store.specs.Slots.Parts.{joined_node}
use Rattle.atlas_store.specs.Slots.Placing.{across_of, granted_by, left_by, slots_of, IsFeasible}
use Rattle.atlas_store.specs.Slots.Reading.{extent_of}
use Rattle.atlas_store.specs.Slots.{nodes}
use Rattle.atlas_store.specs.Stored.{Holding, Holds, HoldsWith, IsDetachedOnly}
use Rattle.atlas_store.specs.Store.Holdings.{
  shelf_of,
  node_in,
  HasSlotsFor,
  IsDetachedLeaf,
  KeepsRoom,
  OnlyTakes,
  with_detached,
  with_free_lists,
  with_unused_list,
  after_take,
  after_place,
  after_mark,
  after_join,
  after_lift,
}

-- Slot i is a detached leaf.
abbrev pub IsDetached : {A : Type 0} → Store A → (i : ℕ) → Type 0
IsDetached s i = (h : Holding) × IsDetachedLeaf (shelf_of s) i h

-- Slot i is unused.
pub record IsUnusedSlot {A : Type 0} (s : Store A) (i : ℕ) : Type 0 where
  pub unused : (node_in (shelf_of s) i).kind ≡ kind.Unused
  pub inside : i < length s.slots.items

-- The free leaf of slot i left its list.
pub record UnlistsLeaf {A : Type 0} (old new : Store A) (i : ℕ) : Type 0 where
  pub kept : (h : Holding) → Holds (shelf_of old) h → h.detached i ≡ false
      → (free_lists : ℕ → List ℕ) × Holds (shelf_of new) (with_detached i true (with_free_lists free_lists h))
  pub nodes : nodes new.slots.items ≡ nodes old.slots.items
  pub slots : length new.slots.items ≡ length old.slots.items
  pub takes : OnlyTakes old new

-- The detached leaf of slot i stands in its list.
pub record ListsLeaf {A : Type 0} (old new : Store A) (i : ℕ) : Type 0 where
  pub kept : (h : Holding) → IsDetachedLeaf (shelf_of old) i h
      → (free_lists : ℕ → List ℕ) × Holds (shelf_of new) (with_detached i false (with_free_lists free_lists h))
  pub nodes : nodes new.slots.items ≡ nodes old.slots.items
  pub slots : length new.slots.items ≡ length old.slots.items
  pub takes : OnlyTakes old new

-- Slot k was unused, and is claimed.
pub record IsSlotTaken {A : Type 0} (old new : Store A) (k : ℕ) : Type 0 where
  pub taken : (h : Holding) (claimed : ℕ → ℕ) → HoldsWith claimed (shelf_of old) h
      → HoldsWith (with_count claimed k 1) (shelf_of new) (after_take h)
  pub slots : (h : Holding) (claimed : ℕ → ℕ) (n : ℕ) → HoldsWith claimed (shelf_of old) h → HasSlotsFor (n + 1) old h
      → HasSlotsFor n new (after_take h)
  pub apart : (h : Holding) (claimed : ℕ → ℕ) (j : ℕ) → HoldsWith claimed (shelf_of old) h → 0 < claimed j
      → j < length old.slots.items → k ≢ j
  pub was_unused : (node_in (shelf_of old) k).kind ≡ kind.Unused
  pub fresh : IsUnusedSlot new k
  pub longer : length old.slots.items ≤ length new.slots.items
  pub others : (j : ℕ) → j ≢ k → node_in (shelf_of new) j ≡ node_in (shelf_of old) j
  pub takes : OnlyTakes old new

-- What is held once slots were taken as `after` tells: m slots of those for which there was room.
abbrev pub TakesSlots : {A : Type 0} → (old new : Store A) → (m : ℕ) → (before : Holding → Type 0)
    → (after : Holding → Holding) → Type 0
TakesSlots old new m before after =
    (h : Holding) (n : ℕ) → before h → HasSlotsFor (n + m) old h
    → (unused_list : List ℕ) × Holds (shelf_of new) (with_unused_list unused_list (after h))
    × HasSlotsFor n new (with_unused_list unused_list h)
    × (length unused_list ≡ length h.unused_list - m)

-- The slots ks were unused, and are claimed, the first of them taken last.
pub record AreSlotsTaken {A : Type 0} (old new : Store A) (ks : List ℕ) : Type 0 where
  pub taken : (h : Holding) (n : ℕ) → Holds (shelf_of old) h → HasSlotsFor (n + length ks) old h
      → (unused_list : List ℕ) × HoldsWith (λ i. occurs i ks) (shelf_of new) (with_unused_list unused_list h)
      × HasSlotsFor n new (with_unused_list unused_list h)
      × (length unused_list ≡ length h.unused_list - length ks)
  pub was_unused : (k : ℕ) → 0 < occurs k ks → (node_in (shelf_of old) k).kind ≡ kind.Unused
  pub fresh : (k : ℕ) → 0 < occurs k ks → IsUnusedSlot new k
  pub others : (j : ℕ) → occurs j ks ≡ 0 → node_in (shelf_of new) j ≡ node_in (shelf_of old) j
  pub takes : OnlyTakes old new

-- Slot `at` is a detached leaf, the only one, in which a plan can be carried out, and there are slots for it.
pub record CanCarryOut {A : Type 0} (s : Store A) (at : ℕ) (p : Plan) (h : Holding) : Type 0 where
  pub leaf : IsDetachedLeaf (shelf_of s) at h
  pub only : IsDetachedOnly (at ∷ []) h
  pub feasible : IsFeasible p (extent_of (node_in (shelf_of s) at)) (across_of (node_in (shelf_of s) at))
  pub slots : HasSlotsFor (slots_of p) s h

-- A plan was carried out in the detached leaf of slot `at`, in the slots of its parts; what is left free is detached.
pub record IsLeafPlaced {A : Type 0} (old new : Store A) (at : ℕ) (p : Plan) (t : Parts) : Type 0 where
  pub kept : (h : Holding) → CanCarryOut old at p h
      → (unused_list : List ℕ) × Holds (shelf_of new) (with_unused_list unused_list
      (after_place p t at (node_in (shelf_of new) (granted_by p t at)).generation h))
      × (length unused_list ≡ length h.unused_list - slots_of p)
  pub granted : (node_in (shelf_of new) (granted_by p t at)).kind ≡ kind.Alloc
  pub left : (k : ℕ) → 0 < occurs k (left_by p t) → (node_in (shelf_of new) k).kind ≡ kind.Free
  pub apart : (k : ℕ) → occurs k (left_by p t) ≤ 1
  pub takes : OnlyTakes old new

-- The granted leaf of slot i is free, and detached; a turn was taken.
pub record IsMarkedFree {A : Type 0} (old new : Store A) (i : ℕ) : Type 0 where
  pub kept : (h : Holding) → Holds (shelf_of old) h → Holds (shelf_of new) (after_mark i h)
  pub calm : ((k : ℕ) → IsCalmAt (nodes old.slots.items) k) → IsCalmBut (nodes new.slots.items) i
  pub free : node_in (shelf_of new) i ≡ record (node_in (shelf_of old) i) { kind = kind.Free }
  pub room : KeepsRoom old new
  pub turns : new.turns.count ≡ old.turns.count + 1

-- The detached leaf of slot i took in the next one, of slot j; a turn was taken.
pub record IsJoined {A : Type 0} (old new : Store A) (i j : ℕ) : Type 0 where
  pub kept : (h : Holding) → IsDetachedLeaf (shelf_of old) i h → h.detached j ≡ true
      → Holds (shelf_of new) (after_join i j h)
  pub calm : (k : ℕ) → IsCalmBut (nodes old.slots.items) k → (k ≡ i) ⊎ (k ≡ j) → IsCalmBut (nodes new.slots.items) i
  pub leaf : node_in (shelf_of new) i ≡ joined_node (node_in (shelf_of old) i) (node_in (shelf_of old) j)
  pub frees : (k : ℕ) → (node_in (shelf_of new) k).kind ≡ kind.Free → (node_in (shelf_of old) k).kind ≡ kind.Free
  pub room : KeepsRoom old new
  pub turns : new.turns.count ≡ old.turns.count + 1

-- The detached leaf of slot i, alone in its container, took its place at slot `to`; a turn was taken.
pub record IsLifted {A : Type 0} (old new : Store A) (i : ℕ) (to : Link) : Type 0 where
  pub kept : (h : Holding) → IsDetachedLeaf (shelf_of old) i h → Holds (shelf_of new) (after_lift to.number i h)
  pub calm : IsCalmBut (nodes old.slots.items) i → IsCalmBut (nodes new.slots.items) to.number
  pub parent : to ≡ (node_in (shelf_of old) i).parent
  pub free : (node_in (shelf_of new) to.number).kind ≡ kind.Free
  pub room : KeepsRoom old new
  pub turns : new.turns.count ≡ old.turns.count + 1
