-- A store as plain nodes, and a store made of them. No public clause cites this module, but for the words of an image.
use Rattle.std.specs.Prelude.{ℕ, ◌+◌, ◌<◌, ◌≤◌, ◌≡◌, ◌^◌, true, false, List, [], ◌∷◌, length, map}
use Rattle.atlas_store.specs.declared.store.Store.{Store}
use Rattle.atlas_store.specs.declared.slots.Slot.{Slot}
use Rattle.atlas_store.specs.declared.slots.Node.{Node}
use Rattle.atlas_store.specs.declared.slots.NodeKind.{NodeKind}
use Rattle.atlas_store.specs.declared.slots.NodeKind.TheVariants as kind
use Rattle.atlas_search.specs.declared.link.Link.{Link}
use Rattle.atlas_model.specs.declared.options.AllocatorOptions.{AllocatorOptions}
use Rattle.atlas_model.specs.Choice.{AreValid}
use Rattle.atlas_model.specs.Pixels.{options_of}
use Rattle.atlas_model.specs.Trees.{IsCut, total, most_slots}
use Rattle.atlas_search.specs.Numbers.{front, no_slot, occurs}
use Rattle.atlas_store.specs.Slots.{node_of, nodes, node_at, use_count}
use Rattle.atlas_store.specs.Slots.Numbered.{Numbered, erase}
use Rattle.atlas_store.specs.Slots.Standing.{Sequence, Stands}
use Rattle.atlas_store.specs.Stored.{Holding, Holds, IsDetachedOnly, Shelf}
use Rattle.atlas_store.specs.Store.Holdings.{shelf_of, node_in, OnlyTakes}

-- What comes after a slot: the next unused one, where it is unused.
abbrev pub next_of : NodeKind → Slot → Link
next_of kind.Unused s = s.right
next_of k s = s.next

-- The node of a slot, of which that of an unused one says which unused one comes next.
abbrev pub image_node : Slot → Node
image_node s = record (node_of s) { next = next_of s.kind s }

abbrev pub link_to_none : Link
link_to_none = record { number = no_slot }

-- A slot of such a node, in no list of free slots.
abbrev pub made_slot : Node → Slot
made_slot n =
    record {
      parent = n.parent;
      previous = n.previous;
      next = n.next;
      area = n.area;
      up = link_to_none;
      left = link_to_none;
      right = n.next;
      kind = n.kind;
      axis = n.axis;
      generation = n.generation;
      is_fork = false;
    }

-- From one unused slot to the next, by what follows each.
abbrev pub NodeLine : List Node → List ℕ → Type 0
NodeLine ns [] = Unit {0}
NodeLine ns (x ∷ xs) = (x < length ns) × ((node_at ns x).next.number ≡ front xs) × NodeLine ns xs

-- The list xs of unused slots, which begins at this one, has each once.
pub record IsUnusedLine (ns : List Node) (unused : ℕ) (xs : List ℕ) : Type 0 where
  pub line : NodeLine ns xs
  pub begins : unused ≡ front xs
  pub each : (i : ℕ) → i < length ns → occurs i xs + use_count (node_at ns i).kind ≡ 1

-- Nodes stand for a whole tree, as a holding needs it.
pub record StandWhole (ns : List Node) (s : Sequence) (n : Numbered) : Type 0 where
  pub top : s.parent ≡ no_slot
  pub stands : Stands ns s n
  pub cut : IsCut s.width (erase n)
  pub wide : 0 < s.width
  pub across : s.start + s.width < 2 ^ 31
  pub along : total (erase n) < 2 ^ 31

-- What can be made a store of.
pub record CanRestore (ns : List Node) (unused : Link) (options : AllocatorOptions) : Type 0 where
  pub tree : (s : Sequence) × (n : Numbered) × StandWhole ns s n
  pub line : (xs : List ℕ) × IsUnusedLine ns unused.number xs
  pub valid : AreValid (options_of options)
  pub short : length ns ≤ most_slots

-- Each free slot from slot i on is detached, and no other slot.
pub record IsListedFrom (i : ℕ) (v : Shelf) (h : Holding) : Type 0 where
  pub holds : Holds v h
  pub free : (k : ℕ) → i ≤ k → (node_in v k).kind ≡ kind.Free → h.detached k ≡ true
  pub from : (k : ℕ) → h.detached k ≡ true → i ≤ k
  pub only : (k : ℕ) → h.detached k ≡ true → (node_in v k).kind ≡ kind.Free

-- The tree and the list of unused slots are the same.
pub record HoldsSame (h g : Holding) : Type 0 where
  pub sequence : g.sequence ≡ h.sequence
  pub tree : g.tree ≡ h.tree
  pub unused_list : g.unused_list ≡ h.unused_list

-- Each free slot stands in its list.
pub record ListsAll {A : Type 0} (old new : Store A) : Type 0 where
  pub listed : (h : Holding) → IsListedFrom 0 (shelf_of old) h
      → (g : Holding) × Holds (shelf_of new) g × IsDetachedOnly [] g × HoldsSame h g
  pub nodes : nodes new.slots.items ≡ nodes old.slots.items
  pub slots : length new.slots.items ≡ length old.slots.items
  pub takes : OnlyTakes old new

-- The store has these nodes, and each free slot stands in its list.
pub record IsRestored {A : Type 0} (new : Store A) (ns : List Node) (first : Link) (given : AllocatorOptions)
    : Type 0 where
  pub nodes : nodes new.slots.items ≡ ns
  pub images : map image_node new.slots.items ≡ ns
  pub holds : (s : Sequence) (n : Numbered) → StandWhole ns s n
      → (h : Holding) × Holds (shelf_of new) h × IsDetachedOnly [] h × (h.sequence ≡ s) × (h.tree ≡ n)
  pub unused : new.unused ≡ first
  pub options : new.options ≡ given
