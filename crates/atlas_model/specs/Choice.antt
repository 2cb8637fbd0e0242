-- Options, rounding, classes, and the free box that a request takes.
use Rattle.std.specs.Prelude.{◌≡◌, ℕ, ◌+◌, ◌-◌, ◌*◌, ◌/◌, ◌<◌, ◌≤◌, min, ℤ, pos, ◌≤ℤ◌, int_le, Bool, ◌||◌, ◌⊎◌}
use Rattle.std.specs.Prelude.{if◌then◌else◌, List, Contains}
use Rattle.atlas_model.specs.Boxes.{Sides, Box, box_sides, Fits, IsPositive}

pub record Options : Type 0 where
  pub alignment : Sides
  pub small_threshold : ℤ
  pub large_threshold : ℤ

-- Both alignments are above 0, and the thresholds are in order.
abbrev pub AreValid : Options → Type 0
AreValid o = IsPositive o.alignment × (o.small_threshold ≤ℤ o.large_threshold)

-- The least multiple of a that is at least n.
abbrev pub up : (n a : ℕ) → ℕ
up n a = (n + (a - 1)) / a * a

-- Both sides rounded up to multiples of the alignment.
abbrev pub rounded : Options → Sides → Sides
rounded o s = record { width = up s.width o.alignment.width; height = up s.height o.alignment.height }

-- Whether a side is at least the threshold.
abbrev pub reaches : ℤ → Sides → Bool
reaches threshold s = int_le threshold (pos s.width) || int_le threshold (pos s.height)

-- 2 is large, 1 is medium, 0 is small.
abbrev pub class_of : Options → Sides → ℕ
class_of o s = if reaches o.large_threshold s then 2 else if reaches o.small_threshold s then 1 else 0

-- The smaller of the two side differences.
abbrev pub least_margin : Sides → Box → ℕ
least_margin r b = min ((box_sides b).width - r.width) ((box_sides b).height - r.height)

-- A side of the box equals the request's same side.
abbrev pub HasEqualSide : Sides → Box → Type 0
HasEqualSide r b = ((box_sides b).width ≡ r.width) ⊎ ((box_sides b).height ≡ r.height)

-- A free box that the request fits.
pub record IsFitting (free : List Box) (r : Sides) (b : Box) : Type 0 where
  pub is_free : Contains free b
  pub fits : Fits r (box_sides b)

-- A fitting box of the lowest class that has one.
pub record IsCandidate (free : List Box) (o : Options) (r : Sides) (b : Box) : Type 0 where
  pub fitting : IsFitting free r b
  pub lowest : (c : Box) → IsFitting free r c → class_of o (box_sides b) ≤ class_of o (box_sides c)

-- b's least margin is as good as c's: a large request wants it great, any other small.
abbrev pub HasBetterMargin : Options → Sides → (b c : Box) → Type 0
HasBetterMargin o r b c =
    (class_of o r ≡ 2 → least_margin r c ≤ least_margin r b)
    × (class_of o r < 2 → least_margin r b ≤ least_margin r c)

-- A candidate with an equal side, if there is one, and else with the best least margin.
pub record IsBest (free : List Box) (o : Options) (r : Sides) (b : Box) : Type 0 where
  pub candidate : IsCandidate free o r b
  pub equal_side : (c : Box) → IsCandidate free o r c → HasEqualSide r c → HasEqualSide r b
  pub margin : (c : Box) → IsCandidate free o r c → HasEqualSide r b ⊎ HasBetterMargin o r b c

-- b lies above c, or at the same height and not right of it.
abbrev pub ComesFirst : (b c : Box) → Type 0
ComesFirst b c = (b.min.y < c.min.y) ⊎ ((b.min.y ≡ c.min.y) × (b.min.x ≤ c.min.x))

-- The free box that a request of these rounded sides takes: of the best ones the first.
pub record IsPick (free : List Box) (o : Options) (r : Sides) (f : Box) : Type 0 where
  pub best : IsBest free o r f
  pub first : (b : Box) → IsBest free o r b → ComesFirst f b

-- A positive request whose rounded sides fit a free box.
pub record HasRoom (free : List Box) (o : Options) (s : Sides) : Type 0 where
  pub positive : IsPositive s
  pub box : Box
  pub fitting : IsFitting free (rounded o s) box

abbrev pub HasNoRoom : (free : List Box) → Options → Sides → Type 0
HasNoRoom free o s = HasRoom free o s → ⊥
