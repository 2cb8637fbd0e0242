-- How the calls on slots and lists change what they hold. No public clause cites this module, but for that of `store_of`,
-- which `guillotiere` keeps to itself.
use Rattle.std.specs.Prelude.{ℕ, ◌+◌, ◌≡◌, ◌≤◌, ◌⊎◌, Bool, true, false, List, ◌∷◌, length, vec_capacity}
use Rattle.atlas_store.specs.declared.store.Store.{Store}
use Rattle.atlas_store.specs.declared.store.turns.Turns.{Turns}
use Rattle.atlas_store.specs.declared.slots.Node.{Node}
use Rattle.atlas_store.specs.declared.slots.placing.Parts.{Parts}
use Rattle.atlas_store.specs.declared.slots.placing.Plan.{Plan}
use Rattle.atlas_store.specs.declared.slots.NodeKind.TheVariants as kind
use Rattle.atlas_model.specs.Trees.{most_slots}
use Rattle.atlas_store.specs.Slots.{nodes, node_at, AreTakenOnce}
use Rattle.atlas_store.specs.Slots.Links.{with_mark, tail_of}
use Rattle.atlas_store.specs.Slots.Numbered.{Numbered, marked, joined, lifted}
use Rattle.atlas_store.specs.Slots.Placing.{left_by, marks_of, planned}
use Rattle.atlas_store.specs.Stored.{Shelf, Holding, Holds}

-- The stored part of a store.
abbrev pub shelf_of : {A : Type 0} → Store A → Shelf
shelf_of s =
    record { slots = s.slots.items; heads = s.lists.heads; unused = s.unused; recent = s.recent; options = s.options }

-- For how many slots there is memory.
abbrev pub capacity_in : {A : Type 0} → Store A → ℕ
capacity_in s = vec_capacity s.slots

-- The turns that were taken.
abbrev pub turns_in : {A : Type 0} → Store A → Turns
turns_in s = s.turns

-- Slot i is detached, or isn't.
abbrev pub with_detached : (i : ℕ) → Bool → Holding → Holding
with_detached i b h = record h { detached = with_mark h.detached i b }

abbrev pub with_numbered : Numbered → Holding → Holding
with_numbered n h = record h { tree = n }

abbrev pub with_free_lists : (ℕ → List ℕ) → Holding → Holding
with_free_lists free_lists h = record h { free_lists = free_lists }

abbrev pub with_unused_list : List ℕ → Holding → Holding
with_unused_list unused_list h = record h { unused_list = unused_list }

-- n slots can be taken without memory: as many are unused, or there is room for the others.
abbrev pub HasSlotsFor : {A : Type 0} → (n : ℕ) → Store A → Holding → Type 0
HasSlotsFor n s h =
    (n ≤ length h.unused_list)
    ⊎ ((length s.slots.items + n ≤ length h.unused_list + vec_capacity s.slots)
    × (length s.slots.items + n ≤ length h.unused_list + most_slots))

-- The node at slot i.
abbrev pub node_in : Shelf → ℕ → Node
node_in v i = node_at (nodes v.slots) i

-- The slots hold some tree.
abbrev pub IsHeld : Shelf → Type 0
IsHeld v = (h : Holding) × Holds v h

-- Slot i is a free leaf that stands in no list.
pub record IsDetachedLeaf (v : Shelf) (i : ℕ) (h : Holding) : Type 0 where
  pub holds : Holds v h
  pub kind : (node_in v i).kind ≡ kind.Free
  pub detached : h.detached i ≡ true

-- There are as many slots, and room for as many.
pub record KeepsRoom {A : Type 0} (old new : Store A) : Type 0 where
  pub slots : length new.slots.items ≡ length old.slots.items
  pub capacity : vec_capacity new.slots ≡ vec_capacity old.slots
  pub options : new.options ≡ old.options

-- Each slot was taken once.
abbrev pub IsTakenOnce : {A : Type 0} → Store A → Type 0
IsTakenOnce s = AreTakenOnce (nodes s.slots.items) s.unused

-- Slots may be taken, and none is given back or taken again. Options, memory and turns stay.
pub record OnlyTakes {A : Type 0} (old new : Store A) : Type 0 where
  pub options : new.options ≡ old.options
  pub capacity : vec_capacity new.slots ≡ vec_capacity old.slots
  pub turns : new.turns ≡ old.turns
  pub once : IsTakenOnce old → IsTakenOnce new

-- The first unused slot is gone, if there was one.
abbrev pub after_take : Holding → Holding
after_take h = with_unused_list (tail_of h.unused_list) h

-- The detached leaf of slot i, the only one, gives way to what a plan says, under generation g.
abbrev pub after_place : Plan → Parts → (i g : ℕ) → Holding → Holding
after_place p t i g h = record h { tree = planned p t i g h.sequence.width h.tree; detached = marks_of (left_by p t) }

-- The granted leaf of slot i is free, and detached.
abbrev pub after_mark : (i : ℕ) → Holding → Holding
after_mark i h = with_detached i true (with_numbered (marked i h.tree) h)

-- The detached leaf of slot i has taken in that of slot j, which is unused.
abbrev pub after_join : (i j : ℕ) → Holding → Holding
after_join i j h = with_unused_list (j ∷ h.unused_list) (with_detached j false (with_numbered (joined i h.tree) h))

-- The container of slot i has given way to its lone child of slot c, which is unused.
abbrev pub after_lift : (i c : ℕ) → Holding → Holding
after_lift i c h =
    with_unused_list (c ∷ h.unused_list) (with_detached c false
    (with_detached i true (with_numbered (lifted i h.tree) h)))
