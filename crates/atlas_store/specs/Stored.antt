-- What an atlas stores, and that it stands for a state. Public clauses speak of `state_of`; where one speaks of `AtlasValue`
-- itself, docs/MODEL.md lists it.
use Rattle.std.specs.Prelude.{ℕ, ◌≡◌, ◌+◌, ◌<◌, ◌≤◌, ◌^◌, Bool, false, List, [], length}
use Rattle.atlas_store.specs.declared.slots.Slot.{Slot}
use Rattle.atlas_search.specs.declared.link.Link.{Link}
use Rattle.atlas_store.specs.declared.slots.lists.Recent.{Recent}
use Rattle.atlas_model.specs.declared.geometry.Size.{Size}
use Rattle.atlas_model.specs.declared.options.AllocatorOptions.{AllocatorOptions}
use Rattle.atlas_model.specs.Boxes.{other, side}
use Rattle.atlas_model.specs.Pixels.{sides_of, size_of, options_of}
use Rattle.atlas_model.specs.Choice.{AreValid}
use Rattle.atlas_model.specs.Trees.{IsCut, total, most_slots}
use Rattle.atlas_model.specs.States.{State, IsSound}
use Rattle.atlas_store.specs.Slots.{nodes, rings}
use Rattle.atlas_search.specs.Numbers.{no_slot, occurs}
use Rattle.atlas_store.specs.Slots.Numbered.{Numbered, erase, first_slot, numbers}
use Rattle.atlas_store.specs.Slots.Standing.{Sequence, Stands}
use Rattle.atlas_store.specs.Slots.Lists.{AreFiled, IsRecent, Places}
use Rattle.atlas_store.specs.Slots.Reading.{tree_of}

-- The slots with their lists, and the slot that was listed last.
pub record Shelf : Type 0 where
  pub slots : List Slot
  pub heads : List Link
  pub unused : Link
  pub recent : Recent
  pub options : AllocatorOptions

-- The fields of an atlas; `first` is the first slot of the top sequence, and `used` counts the slots that are used.
pub record Stored : Type 0 where
  pub shelf : Shelf
  pub first : Link
  pub used : ℕ
  pub size : Size
  pub limit : ℕ

-- What contracts see of an atlas: what it stores, how many turns it took, and for how many slots it has memory.
pub record AtlasValue : Type 0 where
  pub stored : Stored
  pub turns : ℕ
  pub capacity : ℕ

-- The state that an atlas stands for.
abbrev pub state_of : AtlasValue → State
state_of v =
    record {
      tree = tree_of (nodes v.stored.shelf.slots);
      size = sides_of v.stored.size;
      options = options_of v.stored.shelf.options;
      limit = v.stored.limit;
      kept = length v.stored.shelf.slots;
    }

-- The numbered tree that slots stand for, and the lists that run through them: `unused_list` has the unused slots,
-- `free_lists k` those of list k, and `detached` the free slots that stand in no list.
pub record Holding : Type 0 where
  pub sequence : Sequence
  pub tree : Numbered
  pub unused_list : List ℕ
  pub free_lists : ℕ → List ℕ
  pub detached : ℕ → Bool

-- Where slots stand, once `claimed i` counts a slot that is taken and not used yet.
abbrev pub places_of : (claimed : ℕ → ℕ) → Holding → Places
places_of claimed h =
    record { unused_list = h.unused_list; free_lists = h.free_lists; claimed = claimed; detached = h.detached }

-- The slots stand for a tree, and the lists are in order; `claimed i` counts a slot that is taken and not used yet.
pub record HoldsWith (claimed : ℕ → ℕ) (v : Shelf) (h : Holding) : Type 0 where
  pub top : h.sequence.parent ≡ no_slot
  pub stands : Stands (nodes v.slots) h.sequence h.tree
  pub filed : AreFiled (options_of v.options) (nodes v.slots) (rings v.slots) v.heads v.unused (places_of claimed h)
  pub is_recent : IsRecent v.recent h.free_lists
  pub short : length v.slots ≤ most_slots
  pub valid : AreValid (options_of v.options)
  -- Extents are positive, and no box passes what an `i32` holds.
  pub cut : IsCut h.sequence.width (erase h.tree)
  pub wide : 0 < h.sequence.width
  pub across : h.sequence.start + h.sequence.width < 2 ^ 31
  pub along : total (erase h.tree) < 2 ^ 31

-- The same with nothing claimed.
abbrev pub Holds : Shelf → Holding → Type 0
Holds v h = HoldsWith (λ i. 0) v h

-- No free slot is detached but for these.
abbrev pub IsDetachedOnly : List ℕ → Holding → Type 0
IsDetachedOnly ks h = (i : ℕ) → occurs i ks ≡ 0 → h.detached i ≡ false

-- What each stored atlas keeps.
pub record IsAtlas (v : Stored) : Type 0 where
  pub holding : Holding
  pub holds : Holds v.shelf holding
  pub at_rest : IsDetachedOnly [] holding
  pub start : holding.sequence.start ≡ 0
  pub across : holding.sequence.width ≡ side (other holding.sequence.axis) (sides_of v.size)
  pub first : v.first.number ≡ first_slot holding.tree
  pub used : v.used ≡ numbers holding.tree
  pub sound : IsSound (state_of (record { stored = v; turns = 0; capacity = 0 }))
  pub exact : v.size ≡ size_of (sides_of v.size)
  pub limited : v.limit ≤ most_slots
