-- Free boxes: what is stored in a packer.
use Rattle.std.specs.Prelude.{◌≡◌, ℕ, ◌≤◌, ◌⊎◌, List, map, All, Contains, Option, Some, None}
use Rattle.atlas_model.specs.declared.geometry.Rectangle.{Rectangle}
use Rattle.atlas_model.specs.Boxes.{Position, Sides, Box, AreDisjoint, IsInside, IsNonempty, IsWithin, box_at}
use Rattle.atlas_model.specs.Pixels.{box_of}
use Rattle.atlas_model.specs.Replies.{IsExact}
use Rattle.atlas_maxrects.specs.declared.free.FreeBox.{FreeBox}
use Rattle.atlas_maxrects.specs.declared.corners.Corner.{Corner}
use Rattle.atlas_maxrects.specs.Placing.{IsFree, LieApart, LiesBefore, Placing}

abbrev pub free_box : FreeBox → Box
free_box f = record { min = record { x = f.left; y = f.top }; max = record { x = f.right; y = f.bottom } }

abbrev pub corner_position : Corner → Position
corner_position c = record { x = c.x; y = c.y }

abbrev pub sides_by : (width height : ℕ) → Sides
sides_by width height = record { width = width; height = height }

-- The box lies inside one of the free boxes.
abbrev pub LiesInOne : List FreeBox → Box → Type 0
LiesInOne free b = (f : FreeBox) × Contains free f × IsInside b (free_box f)

-- A box inside a free box that is apart from a taken one.
abbrev pub IsPart : FreeBox → FreeBox → FreeBox → Type 0
IsPart whole taken f = IsInside (free_box f) (free_box whole) × LieApart (free_box f) (free_box taken)

-- What is left of a free box is added to others.
pub record AddsParts (old : List FreeBox) (whole taken : FreeBox) (new : List FreeBox) : Type 0 where
  pub kept : (b : Box) → LiesInOne old b → LiesInOne new b
  pub added : (b : Box) → IsNonempty b → IsInside b (free_box whole) → LieApart b (free_box taken) → LiesInOne new b
  pub every : All (λ f. Contains old f ⊎ IsPart whole taken f) new

-- A box inside one of the free boxes, apart from a taken one.
abbrev pub IsLeftOver : List FreeBox → FreeBox → Box → Type 0
IsLeftOver free taken b = LiesInOne free b × LieApart b (free_box taken)

-- What is left of free boxes: each is left, and all that is left lies inside one of them.
pub record AreLeftOver (free : List FreeBox) (taken : FreeBox) (left : List FreeBox) : Type 0 where
  pub every : All (λ f. IsLeftOver free taken (free_box f)) left
  pub complete : (b : Box) → IsNonempty b → IsLeftOver free taken b → LiesInOne left b

-- The better of a corner, if there is one, and another.
abbrev pub IsBetter : Option Corner → Corner → Corner → Type 0
IsBetter None other best = best ≡ other
IsBetter (Some one) other best = ((best ≡ one) × LiesBefore (corner_position one) (corner_position other))
    ⊎ ((best ≡ other) × (LiesBefore (corner_position one) (corner_position other) → ⊥))

-- Of all corners at which a box of these sides lies inside a free box, the topmost, and of these the leftmost; or none.
abbrev pub IsBestCorner : List FreeBox → Sides → Option Corner → Type 0
IsBestCorner free s None = (q : Position) → LiesInOne free (box_at q s) → ⊥
IsBestCorner free s (Some c) = LiesInOne free (box_at (corner_position c) s)
    × ((q : Position) → LiesInOne free (box_at q s) → LiesBefore (corner_position c) q)

-- A sheet with what lies in it.
abbrev pub placing : Sides → List Rectangle → Placing
placing sheet placed = record { sheet = sheet; placed = map box_of placed }

-- What a packer stores: the free boxes may lie in the sheet, and all that may lies inside one of them. The placed boxes
-- lie in the sheet, and no pixel lies in two.
pub record IsStored (sheet : Sides) (free : List FreeBox) (placed : List Rectangle) : Type 0 where
  pub every : All (λ f. IsFree (placing sheet placed) (free_box f)) free
  pub complete : (b : Box) → IsNonempty b → IsFree (placing sheet placed) b → LiesInOne free b
  pub small : (sheet.width ≤ 2147483647) × (sheet.height ≤ 2147483647)
  pub within : All (λ r. IsWithin sheet (box_of r)) placed
  pub apart : AreDisjoint (map box_of placed)
  pub exact : All IsExact placed
