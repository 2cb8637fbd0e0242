-- The tree that slots hold, read from the slots. No public clause cites this module.
use Rattle.std.specs.Prelude.{ℕ, ◌==◌, ◌&&◌, Bool, List, length, nat_lt, zero, suc}
use Rattle.std.specs.List.{position_or_len}
use Rattle.atlas_store.specs.declared.slots.Node.{Node}
use Rattle.atlas_store.specs.declared.slots.NodeKind.{NodeKind}
use Rattle.atlas_store.specs.declared.slots.NodeKind.TheVariants as kind
use Rattle.atlas_model.specs.Boxes.{side, box_sides}
use Rattle.atlas_model.specs.Pixels.{box_of}
use Rattle.atlas_model.specs.Trees.{Tree}
use Rattle.atlas_store.specs.Slots.{node_at, use_count, axis_of}
use Rattle.atlas_search.specs.Numbers.{no_slot}
use Rattle.atlas_store.specs.Slots.Numbered.{Numbered, erase, End, Free, Alloc, Seq}

-- The extent of a slot along the axis of its sequence.
abbrev pub extent_of : Node → ℕ
extent_of n = side (axis_of n.axis) (box_sides (box_of n.area))

-- Whether a node is used and comes first in the sequence of slot c.
abbrev pub begins_in : ℕ → Node → Bool
begins_in c n = nat_lt 0 (use_count n.kind) && (n.parent.number == c && n.previous.number == no_slot)

-- The slot of the first member of the sequence of c, or no slot.
abbrev pub first_member_of : List Node → ℕ → ℕ
first_member_of ns c = position_or_len (begins_in c) ns

abbrev pub built : NodeKind → ℕ → Node → Numbered → Numbered → Numbered
built kind.Container i n inner rest = Seq i (extent_of n) inner rest
built kind.Alloc i n inner rest = Alloc i n.generation (extent_of n) rest
built kind.Free i n inner rest = Free i (extent_of n) rest
built kind.Unused i n inner rest = End

-- The members from slot i on, read in so many steps.
abbrev pub read : ℕ → List Node → ℕ → Numbered
read zero ns i = End
read (suc fuel) ns i =
    built (node_at ns i).kind i (node_at ns i) (read fuel ns (first_member_of ns i))
    (read fuel ns (node_at ns i).next.number)

-- The numbered tree of the slots.
abbrev pub numbered_of : List Node → Numbered
numbered_of ns = read (length ns) ns (first_member_of ns no_slot)

-- The tree of the slots.
abbrev pub tree_of : List Node → Tree
tree_of ns = record { axis = axis_of (node_at ns (first_member_of ns no_slot)).axis; members = erase (numbered_of ns) }
