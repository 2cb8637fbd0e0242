-- The two parts of stored slots. No public clause cites this module, but for that of `store_of`, which `guillotiere` keeps to
-- itself.
pub mod Numbered
pub mod Standing
pub mod Entries
pub mod Lists
pub mod Reading
pub mod Parts
pub mod Calm
pub mod Links
pub mod Areas
pub mod Growing
pub mod SlotCalls
pub mod Placing
pub mod Picks
pub mod Rehearsing
use Rattle.std.specs.Prelude.{ℕ, ◌≡◌, false, List, map, pos, slice_index_or}
use Rattle.atlas_store.specs.declared.slots.Slot.{Slot}
use Rattle.atlas_search.specs.declared.link.Link.{Link}
use Rattle.atlas_store.specs.declared.slots.Node.{Node}
use Rattle.atlas_store.specs.declared.slots.Ring.{Ring}
use Rattle.atlas_store.specs.declared.slots.NodeKind.{NodeKind}
use Rattle.atlas_store.specs.declared.slots.NodeKind.TheVariants as kind
use Rattle.atlas_search.specs.declared.cut.Orientation.TheVariants as orientation
use Rattle.atlas_search.specs.Numbers.{no_slot}
pub use Rattle.atlas_search.specs.Rectangles.{axis_of}

-- The tree's part of a slot, and the lists' part.
abbrev pub node_of : Slot → Node
node_of s =
    record {
      parent = s.parent;
      previous = s.previous;
      next = s.next;
      area = s.area;
      kind = s.kind;
      axis = s.axis;
      generation = s.generation;
    }

abbrev pub ring_of : Slot → Ring
ring_of s = record { up = s.up; left = s.left; right = s.right; is_fork = s.is_fork }

-- The tree's part of each slot.
abbrev pub nodes : List Slot → List Node
nodes slots = map node_of slots

-- The lists' part of each slot.
abbrev pub rings : List Slot → List Ring
rings slots = map ring_of slots

-- What stands for a slot past the end: it is unused.
abbrev pub blank_node : Node
blank_node =
    record {
      parent = record { number = 0 };
      previous = record { number = 0 };
      next = record { number = 0 };
      area = record { min = record { x = pos 0; y = pos 0 }; max = record { x = pos 0; y = pos 0 } };
      kind = kind.Unused;
      axis = orientation.Vertical;
      generation = 0;
    }

abbrev pub blank_ring : Ring
blank_ring =
    record { up = record { number = 0 }; left = record { number = 0 }; right = record { number = 0 }; is_fork = false }

abbrev pub blank_slot : Slot
blank_slot =
    record {
      parent = record { number = 0 };
      previous = record { number = 0 };
      next = record { number = 0 };
      area = record { min = record { x = pos 0; y = pos 0 }; max = record { x = pos 0; y = pos 0 } };
      up = record { number = 0 };
      left = record { number = 0 };
      right = record { number = 0 };
      kind = kind.Unused;
      axis = orientation.Vertical;
      generation = 0;
      is_fork = false;
    }

abbrev pub node_at : List Node → ℕ → Node
node_at ns i = slice_index_or ns i blank_node

abbrev pub ring_at : List Ring → ℕ → Ring
ring_at rs i = slice_index_or rs i blank_ring

-- 1 if a slot of this kind is used.
abbrev pub use_count : NodeKind → ℕ
use_count kind.Container = 1
use_count kind.Alloc = 1
use_count kind.Free = 1
use_count kind.Unused = 0

-- What a slot is used for, its rectangle and its generation stay.
pub record KeepsUse (old new : Node) : Type 0 where
  pub kind : new.kind ≡ old.kind
  pub area : new.area ≡ old.area
  pub generation : new.generation ≡ old.generation

-- Each slot was taken once: none is unused, and each is in its first generation.
pub record AreTakenOnce (ns : List Node) (unused : Link) : Type 0 where
  pub none : unused.number ≡ no_slot
  pub generations : (i : ℕ) → (node_at ns i).generation ≡ 0
