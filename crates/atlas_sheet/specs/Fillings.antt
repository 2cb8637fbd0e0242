-- The best of several ways to fill a sheet, and what is wrong with what was asked.
use Rattle.std.specs.Prelude.{◌≡◌, ℕ, pos, ◌/◌, ◌<◌, ◌≤◌, max, min, map, take, List, length, All, Contains, Option}
use Rattle.std.specs.Prelude.{slice_index_or}
use Rattle.guillotiere.specs.declared.Size.{Size}
use Rattle.guillotiere.specs.declared.Rectangle.{Rectangle}
use Rattle.guillotiere.specs.Boxes.{Sides, IsPositive}
use Rattle.guillotiere.specs.Pixels.{sides_of}
use Rattle.atlas_sheet.specs.declared.options.Spacing.{Spacing}
use Rattle.atlas_sheet.specs.declared.error.SheetError.{SheetError}
use Rattle.atlas_sheet.specs.declared.error.SheetError.TheVariants as error
use Rattle.atlas_sheet.specs.declared.ways.Way.{Way}
use Rattle.atlas_sheet.specs.Firsts.{StandsBefore}
use Rattle.atlas_sheet.specs.Sheets.{AreFoundBy, IsPackable, used_area}

-- What a way finds has no more pixels than this.
abbrev pub IsNoBetter : (sheet : Sides) (spacing : Spacing) → List Size → (area : ℕ) → Way → Type 0
IsNoBetter sheet spacing sprites area way =
    (order : List (ℕ × Size)) × (others : List (Option Rectangle))
    × AreFoundBy sheet spacing sprites way order others × (used_area others ≤ area)

-- What a way finds has fewer pixels than this.
abbrev pub FindsFewer : (sheet : Sides) (spacing : Spacing) → List Size → (area : ℕ) → Way → Type 0
FindsFewer sheet spacing sprites area way =
    (order : List (ℕ × Size)) × (others : List (Option Rectangle))
    × AreFoundBy sheet spacing sprites way order others × (used_area others < area)

-- This one of the ways finds these places in this order, none finds more pixels, and each after it fewer.
pub record AreBest (ways : List Way) (sheet : Sides) (spacing : Spacing) (sprites : List Size) (way : Way)
    (order : List (ℕ × Size)) (places : List (Option Rectangle)) : Type 0 where
  pub tried : Contains ways way
  pub found : AreFoundBy sheet spacing sprites way order places
  pub best : All (IsNoBetter sheet spacing sprites (used_area places)) ways
  pub last : StandsBefore (FindsFewer sheet spacing sprites (used_area places)) ways way

-- The sprite with a number.
abbrev pub sprite_at : List Size → ℕ → Size
sprite_at sprites k = slice_index_or sprites k (record { width = pos 0; height = pos 0 })

-- What an error says of a sprite with this number.
abbrev pub IsSpriteFault : (spacing : Spacing) (number : ℕ) → Size → SheetError → Type 0
IsSpriteFault spacing number sprite (error.EmptySprite k) = (k ≡ number) × (IsPositive (sides_of sprite) → ⊥)
IsSpriteFault spacing number sprite (error.GreatSprite k) =
    (k ≡ number) × IsPositive (sides_of sprite) × (IsPackable spacing sprite → ⊥)
IsSpriteFault spacing number sprite _ = ⊥

-- The first sprite that can't be placed has the fault that an error says.
abbrev pub HasFault : (spacing : Spacing) → List Size → SheetError → Type 0
HasFault spacing sprites e =
    (k : ℕ) × (k < length sprites) × All (IsPackable spacing) (take k sprites)
    × IsSpriteFault spacing k (sprite_at sprites k) e

-- How many of the ways a sheet with so many sprites is filled by: from 1 to 10.
abbrev pub ways_tried : ℕ → ℕ
ways_tried sprites = max 1 (min (12000 / max sprites 1) 10)

-- Places that the best of the ways finds, in the order of these numbers.
abbrev pub IsBestFound : List Way → (sheet : Sides) (spacing : Spacing) → List Size → (order : List ℕ)
    → List (Option Rectangle) → Type 0
IsBestFound ways sheet spacing sprites order places =
    (way : Way) × (numbered : List (ℕ × Size)) × AreBest ways sheet spacing sprites way numbered places
    × (map (λ s. s.0) numbered ≡ order)
