-- How much of what is free is of no use for a request, and the largest of the free boxes.
use Rattle.std.specs.Prelude.{ℕ, ◌≡◌, ◌<◌, Bool, ◌&&◌, nat_le, nat_lt, if◌then◌else◌, ◌⊎◌, List, ◌∷◌, sum_by, All, Contains}
use Rattle.std.specs.Prelude.{Option, Some, None}
use Rattle.atlas_model.specs.declared.geometry.Rectangle.{Rectangle}
use Rattle.atlas_model.specs.Boxes.{Sides, Box, area, box_sides}
use Rattle.atlas_model.specs.Choice.{Options, rounded, ComesFirst}
use Rattle.atlas_model.specs.Pixels.{box_of}

-- Neither side passes those of a box.
abbrev pub fits_box : Sides → Box → Bool
fits_box r b = nat_le r.width (box_sides b).width && nat_le r.height (box_sides b).height

-- The area of a box, if these sides don't fit it.
abbrev pub lost : Sides → Box → ℕ
lost r b = if fits_box r b then 0 else area b

-- The area of a free box, if a request has no room there: it is empty or, rounded up, doesn't fit.
abbrev pub unusable : Options → Sides → Box → ℕ
unusable o s b = if nat_lt 0 s.width && nat_lt 0 s.height then lost (rounded o s) b else area b

-- b has the larger area, or the same, and then it lies above c, or at the same height and not right of it.
abbrev pub Precedes : (b c : Box) → Type 0
Precedes b c = (area c < area b) ⊎ ((area c ≡ area b) × ComesFirst b c)

-- The free box that precedes all others.
pub record IsLargest (free : List Box) (b : Box) : Type 0 where
  pub is_free : Contains free b
  pub precedes : All (Precedes b) free

-- What follows isn't cited by a public clause.

-- The areas of those rectangles that these sides don't fit, added up.
abbrev pub lost_area : Sides → List Rectangle → ℕ
lost_area r areas = sum_by (λ a. lost r (box_of a)) areas

pub record IsLargestOf (areas : List Rectangle) (r : Rectangle) : Type 0 where
  pub is_listed : Contains areas r
  pub precedes : All (λ c. Precedes (box_of r) (box_of c)) areas

-- A list with one before it, if there is one.
abbrev pub and_maybe : Option Rectangle → List Rectangle → List Rectangle
and_maybe (Some r) areas = r ∷ areas
and_maybe None areas = areas
