-- Positions, sides, boxes and axes, in whole numbers of pixels without a bound.
use Rattle.std.specs.Prelude.{◌≡◌, ℕ, ◌+◌, ◌-◌, ◌*◌, ◌<◌, ◌≤◌, ◌==◌, nat_le, nat_lt, Bool, true, false, ◌&&◌, List}
use Rattle.std.specs.Prelude.{count_by}

pub record Position : Type 0 where
  pub x : ℕ
  pub y : ℕ

-- The width and the height of a request, of a box or of an atlas.
pub record Sides : Type 0 where
  pub width : ℕ
  pub height : ℕ

-- The unit squares (x, y) with min.x ≤ x < max.x and min.y ≤ y < max.y.
pub record Box : Type 0 where
  pub min : Position
  pub max : Position

pub data Axis : Type 0 where
  Horizontal : Axis
  Vertical : Axis

abbrev pub other : Axis → Axis
other Horizontal = Vertical
other Vertical = Horizontal

abbrev pub same_axis : Axis → Axis → Bool
same_axis Horizontal Horizontal = true
same_axis Vertical Vertical = true
same_axis Horizontal Vertical = false
same_axis Vertical Horizontal = false

-- The side along an axis.
abbrev pub side : Axis → Sides → ℕ
side Horizontal s = s.width
side Vertical s = s.height

-- The sides that are `along` along an axis and `across` along the other.
abbrev pub sized : Axis → (along across : ℕ) → Sides
sized Horizontal along across = record { width = along; height = across }
sized Vertical along across = record { width = across; height = along }

-- A position moved along an axis.
abbrev pub moved : Axis → Position → ℕ → Position
moved Horizontal o d = record { x = o.x + d; y = o.y }
moved Vertical o d = record { x = o.x; y = o.y + d }

abbrev pub origin : Position
origin = record { x = 0; y = 0 }

-- The box with these sides at a position.
abbrev pub box_at : Position → Sides → Box
box_at o s = record { min = o; max = record { x = o.x + s.width; y = o.y + s.height } }

-- The box of a whole atlas.
abbrev pub whole_box : Sides → Box
whole_box s = box_at origin s

abbrev pub box_sides : Box → Sides
box_sides b = record { width = b.max.x - b.min.x; height = b.max.y - b.min.y }

abbrev pub area : Box → ℕ
area b = (box_sides b).width * (box_sides b).height

-- Neither side of the first is greater.
abbrev pub Fits : Sides → Sides → Type 0
Fits r s = (r.width ≤ s.width) × (r.height ≤ s.height)

-- Both sides are above 0.
abbrev pub IsPositive : Sides → Type 0
IsPositive s = (0 < s.width) × (0 < s.height)

abbrev pub IsNonempty : Box → Type 0
IsNonempty b = (b.min.x < b.max.x) × (b.min.y < b.max.y)

-- The box doesn't pass the sides of the atlas.
abbrev pub IsWithin : Sides → Box → Type 0
IsWithin s b = (b.max.x ≤ s.width) × (b.max.y ≤ s.height)

-- The first box lies inside the second.
abbrev pub IsInside : Box → Box → Type 0
IsInside b c = (c.min.x ≤ b.min.x) × (c.min.y ≤ b.min.y) × (b.max.x ≤ c.max.x) × (b.max.y ≤ c.max.y)

-- Whether the unit square (x, y) lies in the box.
abbrev pub covers : (x y : ℕ) → Box → Bool
covers x y b = (nat_le b.min.x x && nat_lt x b.max.x) && (nat_le b.min.y y && nat_lt y b.max.y)

-- No unit square lies in two of the boxes.
abbrev pub AreDisjoint : List Box → Type 0
AreDisjoint boxes = (x y : ℕ) → count_by (covers x y) boxes ≤ 1

abbrev pub same_box : Box → Box → Bool
same_box b c = ((b.min.x == c.min.x) && (b.min.y == c.min.y)) && ((b.max.x == c.max.x) && (b.max.y == c.max.y))

-- The same boxes, each as often, in whatever order.
abbrev pub AreSameBoxes : List Box → List Box → Type 0
AreSameBoxes bs cs = (p : Box → Bool) → count_by p bs ≡ count_by p cs
