-- Rectangles of the code, whose coordinates may lie below 0: the unit squares that they hold, and how one is cut.
use Rattle.std.specs.Prelude.{◌≡◌, ℤ, pos, ◌+ℤ◌, ◌-ℤ◌, ◌≤ℤ◌, ◌<ℤ◌, int_le, int_lt, Bool, ◌&&◌, List, [], ◌∷◌, count_by}
use Rattle.atlas_model.specs.declared.geometry.Size.{Size}
use Rattle.atlas_model.specs.declared.geometry.Rectangle.{Rectangle}
use Rattle.atlas_search.specs.declared.cut.Orientation.{Orientation}
use Rattle.atlas_search.specs.declared.cut.Orientation.TheVariants as orientation
use Rattle.atlas_search.specs.declared.cut.Rest.{Rest}
use Rattle.atlas_model.specs.Boxes.{Axis, IsNonempty, Sides, Box, box_sides}
use Rattle.atlas_model.specs.Boxes.Axis.{Horizontal, Vertical}
use Rattle.atlas_model.specs.Cuts.{cut_axis, split_along, leftover_along}
use Rattle.atlas_model.specs.Pixels.{box_of, rectangle_of}

abbrev pub axis_of : Orientation → Axis
axis_of orientation.Horizontal = Horizontal
axis_of orientation.Vertical = Vertical

-- The width and the height, below 0 where `max` lies before `min`.
abbrev pub measured : Rectangle → Size
measured r = record { width = r.max.x -ℤ r.min.x; height = r.max.y -ℤ r.min.y }

-- Both sides are above 0, and neither is greater than the rectangle's.
pub record FitsInto (s : Size) (r : Rectangle) : Type 0 where
  pub wide : pos 0 <ℤ s.width
  pub high : pos 0 <ℤ s.height
  pub width : s.width ≤ℤ (measured r).width
  pub height : s.height ≤ℤ (measured r).height

-- Whether the unit square (x, y) lies in the rectangle.
abbrev pub holds_square : (x y : ℤ) → Rectangle → Bool
holds_square x y r = (int_le r.min.x x && int_lt x r.max.x) && (int_le r.min.y y && int_lt y r.max.y)

-- Each unit square of the whole lies in exactly one of the parts, and no other unit square lies in any.
abbrev pub Tile : (parts : List Rectangle) (whole : Rectangle) → Type 0
Tile parts whole = (x y : ℤ) → count_by (holds_square x y) parts ≡ count_by (holds_square x y) (whole ∷ [])

-- The request, at the rectangle's `min`.
abbrev pub granted_in : Rectangle → Size → Rectangle
granted_in r s = record { min = r.min; max = record { x = r.min.x +ℤ s.width; y = r.min.y +ℤ s.height } }

-- What a request leaves of a rectangle: the split beyond it along an axis, as wide across as the rectangle, and the
-- leftover beside it, as long along the axis as the request.
abbrev pub rest_in : Orientation → Rectangle → Size → Rest
rest_in orientation.Horizontal r s =
    record {
      orientation = orientation.Horizontal;
      split = record { min = record { x = r.min.x +ℤ s.width; y = r.min.y }; max = r.max };
      leftover =
          record {
            min = record { x = r.min.x; y = r.min.y +ℤ s.height };
            max = record { x = r.min.x +ℤ s.width; y = r.max.y };
          };
    }
rest_in orientation.Vertical r s =
    record {
      orientation = orientation.Vertical;
      split = record { min = record { x = r.min.x; y = r.min.y +ℤ s.height }; max = r.max };
      leftover =
          record {
            min = record { x = r.min.x +ℤ s.width; y = r.min.y };
            max = record { x = r.max.x; y = r.min.y +ℤ s.height };
          };
    }

-- What a box of the model leaves that is cut for a request.
pub record IsRestOf (f : Box) (r : Sides) (rest : Rest) : Type 0 where
  pub axis : axis_of rest.orientation ≡ cut_axis (box_sides f) r
  pub split : rest.split ≡ rectangle_of (split_along (axis_of rest.orientation) f r)
  pub leftover : rest.leftover ≡ rectangle_of (leftover_along (axis_of rest.orientation) f r)

-- No coordinate lies below 0.
abbrev pub IsUnsigned : Rectangle → Type 0
IsUnsigned r = r ≡ rectangle_of (box_of r)

-- A rectangle with sides above 0, and no corner below 0.
pub record IsSolid (r : Rectangle) : Type 0 where
  pub unsigned : IsUnsigned r
  pub nonempty : IsNonempty (box_of r)

-- The other axis.
abbrev pub flipped : Orientation → Orientation
flipped orientation.Horizontal = orientation.Vertical
flipped orientation.Vertical = orientation.Horizontal

-- How long a rectangle is along an axis.
abbrev pub length_in : Orientation → Rectangle → ℤ
length_in orientation.Horizontal r = r.max.x -ℤ r.min.x
length_in orientation.Vertical r = r.max.y -ℤ r.min.y

-- The first e of a rectangle along an axis.
abbrev pub front_in : Orientation → (e : ℤ) → Rectangle → Rectangle
front_in orientation.Horizontal e r = record r { max = record r.max { x = r.min.x +ℤ e } }
front_in orientation.Vertical e r = record r { max = record r.max { y = r.min.y +ℤ e } }

-- What is left of a rectangle after the first e along an axis.
abbrev pub back_in : Orientation → (e : ℤ) → Rectangle → Rectangle
back_in orientation.Horizontal e r = record r { min = record r.min { x = r.min.x +ℤ e } }
back_in orientation.Vertical e r = record r { min = record r.min { y = r.min.y +ℤ e } }

-- What lies beyond a rectangle along an axis, to the far corner of a size.
abbrev pub beyond_in : Orientation → Rectangle → Size → Rectangle
beyond_in orientation.Horizontal r s =
    record { min = record { x = r.max.x; y = r.min.y }; max = record { x = s.width; y = s.height } }
beyond_in orientation.Vertical r s =
    record { min = record { x = r.min.x; y = r.max.y }; max = record { x = s.width; y = s.height } }
