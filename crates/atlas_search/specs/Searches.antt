-- The search for the box that a request takes: the best of the boxes that it was shown, in any order.
use Rattle.std.specs.Prelude.{◌≡◌, ℕ, ◌≤◌, Bool, true, false, ◌⊎◌, List, Contains}
use Rattle.atlas_model.specs.Boxes.{Sides, Box, box_sides, Fits}
use Rattle.atlas_model.specs.Choice.{Options, class_of, least_margin, HasEqualSide, IsFitting, ComesFirst}

-- A box, and the number by which who shows it finds it again.
pub record Shown : Type 0 where
  pub box : Box
  pub at : ℕ

abbrev pub shown_at : Box → ℕ → Shown
shown_at b at = record { box = b; at = at }

-- b is as good as c for a request: of the boxes that a large one fits those with an equal side are best, and else those
-- with the greater least margin; any other request wants the smaller least margin.
abbrev pub IsAsGood : (is_large : Bool) (r : Sides) (b c : Box) → Type 0
IsAsGood true r b c = HasEqualSide r b ⊎ ((HasEqualSide r c → ⊥) × (least_margin r c ≤ least_margin r b))
IsAsGood false r b c = least_margin r b ≤ least_margin r c

-- f is the best of the boxes shown that the request fits, and of the best ones the first.
pub record IsBestShown (is_large : Bool) (r : Sides) (shown : List Shown) (f : Shown) : Type 0 where
  pub is_shown : Contains shown f
  pub fits : Fits r (box_sides f.box)
  pub best : (c : Shown) → Contains shown c → Fits r (box_sides c.box) → IsAsGood is_large r f.box c.box
  pub first : (c : Shown) → Contains shown c → Fits r (box_sides c.box) → IsAsGood is_large r c.box f.box
      → ComesFirst f.box c.box

-- The request fits none of the boxes shown.
abbrev pub FitsNone : (r : Sides) (shown : List Shown) → Type 0
FitsNone r shown = (c : Shown) → Contains shown c → Fits r (box_sides c.box) → ⊥

-- Each free box that the request fits has at least this class.
abbrev pub FitsOnlyFrom : (class : ℕ) (free : List Box) → Options → (r : Sides) → Type 0
FitsOnlyFrom class free o r = (b : Box) → IsFitting free r b → class ≤ class_of o (box_sides b)

-- The boxes shown are free boxes of at most this class, and among them is each one of it that the request fits.
pub record AreOfClass (class : ℕ) (free : List Box) (o : Options) (r : Sides) (shown : List Shown) : Type 0 where
  pub of_class : (c : Shown) → Contains shown c → Contains free c.box × (class_of o (box_sides c.box) ≤ class)
  pub each : (b : Box) → IsFitting free r b → class_of o (box_sides b) ≡ class
      → (at : ℕ) × Contains shown (shown_at b at)
