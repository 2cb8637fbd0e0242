-- Slots as the entries that a search reads. No public clause cites this module.
use Rattle.std.specs.Prelude.{Bool, true, false, List, [], ◌∷◌}
use Rattle.atlas_store.specs.declared.slots.Slot.{Slot}
use Rattle.atlas_store.specs.declared.slots.Node.{Node}
use Rattle.atlas_store.specs.declared.slots.Ring.{Ring}
use Rattle.atlas_store.specs.declared.slots.NodeKind.{NodeKind}
use Rattle.atlas_store.specs.declared.slots.NodeKind.TheVariants as kind
use Rattle.atlas_search.specs.Items.{Item}
use Rattle.atlas_store.specs.Slots.{blank_node, node_of, ring_of}

abbrev pub is_free : NodeKind → Bool
is_free kind.Free = true
is_free _ = false

-- What a search reads of a slot with this node and this ring.
abbrev pub item_of : Node → Ring → Item
item_of n r =
    record {
      area = n.area;
      up = r.up.number;
      left = r.left.number;
      right = r.right.number;
      is_fork = r.is_fork;
      is_free = is_free n.kind;
    }

-- A slot as an entry of a list.
abbrev pub slot_item : Slot → Item
slot_item s = item_of (node_of s) (ring_of s)

-- A slot without its links.
abbrev pub unlinked_slot : Slot → Slot
unlinked_slot s =
    record s { up = record { number = 0 }; left = record { number = 0 }; right = record { number = 0 }; is_fork = false }

-- The entries that nodes and rings make together.
abbrev pub entries : List Node → List Ring → List Item
entries ns [] = []
entries [] (r ∷ rs) = item_of blank_node r ∷ entries [] rs
entries (n ∷ ns) (r ∷ rs) = item_of n r ∷ entries ns rs
