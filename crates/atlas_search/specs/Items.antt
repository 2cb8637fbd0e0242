-- The entries that a search reads: each has a rectangle, and links to others of its list. No public clause cites this module.
use Rattle.std.specs.Prelude.{ℕ, pos, Bool, false, List, map, slice_index_or}
use Rattle.atlas_model.specs.declared.geometry.Rectangle.{Rectangle}
use Rattle.atlas_model.specs.Boxes.{Sides, Box, box_sides}
use Rattle.atlas_model.specs.Pixels.{box_of}
use Rattle.atlas_search.specs.Searches.{Shown, shown_at}

-- An entry: its rectangle, what stands above it in the heap of its list, the numbers of the entries that hang below it to the
-- left and to the right, whether those are divided by size, and whether it is a free box.
pub record Item : Type 0 where
  pub area : Rectangle
  pub up : ℕ
  pub left : ℕ
  pub right : ℕ
  pub is_fork : Bool
  pub is_free : Bool

-- The same entry with these links.
abbrev pub linked : Item → (up left right : ℕ) → Item
linked e up left right =
    record { area = e.area; up = up; left = left; right = right; is_fork = e.is_fork; is_free = e.is_free }

-- The same entry, a fork or none.
abbrev pub forked : Item → (is_fork : Bool) → Item
forked e is_fork =
    record { area = e.area; up = e.up; left = e.left; right = e.right; is_fork = is_fork; is_free = e.is_free }

-- What stands for an entry past the end.
abbrev pub no_item : Item
no_item =
    record {
      area = record { min = record { x = pos 0; y = pos 0 }; max = record { x = pos 0; y = pos 0 } };
      up = 0;
      left = 0;
      right = 0;
      is_fork = false;
      is_free = false;
    }

abbrev pub item_at : List Item → ℕ → Item
item_at es i = slice_index_or es i no_item

abbrev pub item_box : Item → Box
item_box e = box_of e.area

abbrev pub item_sides : Item → Sides
item_sides e = box_sides (item_box e)

-- The box of an entry, with its number.
abbrev pub shown_item : List Item → ℕ → Shown
shown_item es i = shown_at (item_box (item_at es i)) i

-- The boxes of these entries, each with its number.
abbrev pub shown_items : List Item → List ℕ → List Shown
shown_items es xs = map (shown_item es) xs
