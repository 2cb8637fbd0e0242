-- Slots as entries of a search, and what it needs of them. No public clause cites this module.
use Rattle.std.specs.Prelude.{ℕ, ◌≡◌, ◌≤◌, false, List, Contains, length}
use Rattle.atlas_store.specs.declared.slots.Slot.{Slot}
use Rattle.atlas_search.specs.declared.link.Link.{Link}
use Rattle.atlas_store.specs.declared.slots.Node.{Node}
use Rattle.atlas_store.specs.declared.slots.NodeKind.TheVariants as kind
use Rattle.atlas_model.specs.Boxes.{Box}
use Rattle.atlas_model.specs.Pixels.{box_of}
use Rattle.atlas_model.specs.Choice.{Options, AreValid}
use Rattle.atlas_model.specs.Trees.{most_slots}
use Rattle.atlas_store.specs.Slots.{nodes, rings, node_at}
use Rattle.atlas_store.specs.Slots.Lists.{AreFiled, Places}
pub use Rattle.atlas_store.specs.Slots.Entries.{item_of, slot_item, unlinked_slot}
use Rattle.atlas_search.specs.Rectangles.{IsSolid}

abbrev pub node_box : Node → Box
node_box n = box_of n.area

abbrev pub IsFreeSlot : List Node → ℕ → Type 0
IsFreeSlot ns i = (node_at ns i).kind ≡ kind.Free

-- Each free slot has an exact rectangle.
abbrev pub AreExact : List Node → Type 0
AreExact ns = (i : ℕ) → IsFreeSlot ns i → IsSolid (node_at ns i).area

-- The lists are in order, each free slot stands in one, and has an exact rectangle.
pub record IsSearchable (o : Options) (slots : List Slot) (heads : List Link) : Type 0 where
  pub unused : Link
  pub places : Places
  pub filed : AreFiled o (nodes slots) (rings slots) heads unused places
  pub all_listed : (i : ℕ) → places.detached i ≡ false
  pub exact : AreExact (nodes slots)
  pub short : length slots ≤ most_slots
  pub valid : AreValid o

-- The boxes are those of the free slots.
pub record AreFreeBoxes (ns : List Node) (free : List Box) : Type 0 where
  pub of_slot : (b : Box) → Contains free b → (i : ℕ) × IsFreeSlot ns i × (node_box (node_at ns i) ≡ b)
  pub of_box : (i : ℕ) → IsFreeSlot ns i → Contains free (node_box (node_at ns i))
