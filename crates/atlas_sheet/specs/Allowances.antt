-- The sheets that are allowed, and which of them are looked at before another.
use Rattle.std.specs.Prelude.{◌≡◌, ℕ, ◌+◌, ◌-◌, ◌*◌, ◌/◌, ◌^◌, ◌<◌, ◌≤◌, ◌⊎◌, ⊤}
use Rattle.guillotiere.specs.Boxes.{Sides, Fits, IsPositive}
use Rattle.guillotiere.specs.Pixels.{natural, sides_of}
use Rattle.atlas_sheet.specs.declared.allowed.Allowed.{Allowed}
use Rattle.atlas_sheet.specs.declared.allowed.Allowed.TheVariants as allowed
use Rattle.atlas_sheet.specs.declared.error.SheetError.{SheetError}
use Rattle.atlas_sheet.specs.declared.error.SheetError.TheVariants as error

abbrev pub least_sides : Allowed → Sides
least_sides (allowed.One size) = sides_of size
least_sides (allowed.Squares least greatest) = record { width = natural least; height = natural least }
least_sides (allowed.Powers greatest) = record { width = 1; height = 1 }
least_sides (allowed.Heights width greatest) = record { width = natural width; height = 1 }

abbrev pub greatest_sides : Allowed → Sides
greatest_sides (allowed.One size) = sides_of size
greatest_sides (allowed.Squares least greatest) = record { width = natural greatest; height = natural greatest }
greatest_sides (allowed.Powers greatest) = record { width = natural greatest; height = natural greatest }
greatest_sides (allowed.Heights width greatest) = record { width = natural width; height = natural greatest }

abbrev pub IsPowerOfTwo : ℕ → Type 0
IsPowerOfTwo n = (k : ℕ) × (n ≡ 2 ^ k)

-- The squares are as wide as high, and powers of two have such sides.
abbrev pub HasShape : Allowed → Sides → Type 0
HasShape (allowed.Squares least greatest) s = s.width ≡ s.height
HasShape (allowed.Powers greatest) s = IsPowerOfTwo s.width × IsPowerOfTwo s.height
HasShape _ s = ⊤

-- A sheet that is allowed.
pub record IsAllowed (by : Allowed) (sheet : Sides) : Type 0 where
  pub least : Fits (least_sides by) sheet
  pub greatest : Fits sheet (greatest_sides by)
  pub shape : HasShape by sheet

-- The allowed sheet whose sides no other passes.
pub record IsGreatest (by : Allowed) (sheet : Sides) : Type 0 where
  pub allowed : IsAllowed by sheet
  pub greatest : (s : Sides) → IsAllowed by s → Fits s sheet

-- How many pixels a sheet has.
abbrev pub pixels : Sides → ℕ
pixels s = s.width * s.height

-- Of two sheets with as many pixels one comes before the other: both its sides are shorter than one of the other's, so it is
-- nearer to a square; or it is the other one turned, and wider than high.
abbrev pub IsShapedBefore : Sides → Sides → Type 0
IsShapedBefore s sheet =
    ((s.width < sheet.width) × (s.height < sheet.width))
    ⊎ (((s.width < sheet.height) × (s.height < sheet.height))
    ⊎ ((s.width ≡ sheet.height) × (s.height ≡ sheet.width) × (s.height < s.width)))

-- What is looked at before a sheet: of powers of two each with fewer pixels, and of those with as many each that is nearer to
-- a square, and the wide one before the high one; else the one that is a pixel lower.
abbrev pub ComesBefore : Allowed → Sides → Sides → Type 0
ComesBefore (allowed.Powers greatest) s sheet =
    (pixels s < pixels sheet) ⊎ ((pixels s ≡ pixels sheet) × IsShapedBefore s sheet)
ComesBefore _ s sheet = s.height + 1 ≡ sheet.height

-- Neither is the least sheet empty, nor the greatest less.
abbrev pub IsUsable : Allowed → Type 0
IsUsable by = IsPositive (least_sides by) × Fits (least_sides by) (greatest_sides by)

-- Not powers of two: each size is a pixel higher than the one before it.
abbrev pub IsRow : Allowed → Type 0
IsRow (allowed.Powers greatest) = ⊥
IsRow _ = ⊤

-- How many sizes such a row has.
abbrev pub row_length : Allowed → ℕ
row_length by = (greatest_sides by).height + 1 - (least_sides by).height

-- The size that is k pixels higher than the least.
abbrev pub nth_sides : Allowed → (k : ℕ) → Sides
nth_sides (allowed.Squares least greatest) k = record { width = natural least + k; height = natural least + k }
nth_sides by k = record { width = (least_sides by).width; height = (least_sides by).height + k }

-- Powers of two as sides.
abbrev pub power_sides : (wide high : ℕ) → Sides
power_sides wide high = record { width = 2 ^ wide; height = 2 ^ high }

-- The longer side, of a square the width, is half of the other sheet's, which is above 1, and the other side is the same.
abbrev pub HasHalfOf : Sides → Sides → Type 0
HasHalfOf t s =
    ((1 < s.width) × (s.height ≤ s.width) × (t.width ≡ s.width / 2) × (t.height ≡ s.height))
    ⊎ ((1 < s.height) × (s.width < s.height) × (t.width ≡ s.width) × (t.height ≡ s.height / 2))

-- The sheet that is one step smaller: a pixel lower, or with half of the longer side among powers of two.
abbrev pub IsNextSmaller : Allowed → (sheet smaller : Sides) → Type 0
IsNextSmaller (allowed.Powers greatest) sheet smaller = HasHalfOf smaller sheet
IsNextSmaller _ sheet smaller = smaller.height + 1 ≡ sheet.height

-- No allowed sheet is one step smaller.
abbrev pub HasNoSmaller : Allowed → Sides → Type 0
HasNoSmaller by sheet = (s : Sides) → IsAllowed by s → IsNextSmaller by sheet s → ⊥

-- What is wrong with what is allowed: the first thing that is.
abbrev pub IsAllowanceFault : Allowed → SheetError → Type 0
IsAllowanceFault by error.EmptySheet = IsPositive (least_sides by) → ⊥
IsAllowanceFault by error.EmptyRange =
    IsPositive (least_sides by) × (Fits (least_sides by) (greatest_sides by) → ⊥)
IsAllowanceFault by e = ⊥
