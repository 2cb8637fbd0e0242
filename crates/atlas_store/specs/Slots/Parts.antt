-- What a free leaf becomes where a request is placed. No public clause cites this module.
use Rattle.std.specs.Prelude.{ℕ, ◌+◌}
use Rattle.atlas_search.specs.declared.link.Link.{Link}
use Rattle.atlas_store.specs.declared.slots.Node.{Node}
use Rattle.atlas_store.specs.declared.slots.NodeKind.TheVariants as kind
use Rattle.atlas_model.specs.Boxes.{Axis, Box}
use Rattle.atlas_model.specs.Boxes.Axis.{Horizontal, Vertical}
use Rattle.atlas_model.specs.Pixels.{box_of, rectangle_of}
use Rattle.atlas_store.specs.Slots.{axis_of}
use Rattle.atlas_search.specs.Numbers.{no_slot}
use Rattle.atlas_search.specs.Rectangles.{flipped}

-- The first p of a box along an axis.
abbrev pub front_part : Axis → (p : ℕ) → Box → Box
front_part Horizontal p b = record { min = b.min; max = record { x = b.min.x + p; y = b.max.y } }
front_part Vertical p b = record { min = b.min; max = record { x = b.max.x; y = b.min.y + p } }

-- What is left of a box after the first p along an axis.
abbrev pub back_part : Axis → (p : ℕ) → Box → Box
back_part Horizontal p b = record { min = record { x = b.min.x + p; y = b.min.y }; max = b.max }
back_part Vertical p b = record { min = record { x = b.min.x; y = b.min.y + p }; max = b.max }

-- A leaf that keeps p of its extent, and that `after` follows.
abbrev pub front_node : Node → (p : ℕ) → (after : Link) → Node
front_node leaf p after =
    record leaf { next = after; area = rectangle_of (front_part (axis_of leaf.axis) p (box_of leaf.area)) }

-- The free leaf after it, in a slot that was unused.
abbrev pub back_node : (leaf : Node) → (p : ℕ) → (before : Link) → (unused : Node) → Node
back_node leaf p before unused =
    record {
      parent = leaf.parent;
      previous = before;
      next = leaf.next;
      area = rectangle_of (back_part (axis_of leaf.axis) p (box_of leaf.area));
      kind = kind.Free;
      axis = leaf.axis;
      generation = unused.generation;
    }

-- The lone free leaf inside a container, in a slot that was unused.
abbrev pub inner_node : (container : Node) → (at : Link) → (unused : Node) → Node
inner_node container at unused =
    record {
      parent = at;
      previous = record { number = no_slot };
      next = record { number = no_slot };
      area = container.area;
      kind = kind.Free;
      axis = flipped container.axis;
      generation = unused.generation;
    }

-- A leaf that has taken in the next one.
abbrev pub joined_node : (leaf next : Node) → Node
joined_node leaf next =
    record leaf { next = next.next; area = record leaf.area { max = next.area.max } }
