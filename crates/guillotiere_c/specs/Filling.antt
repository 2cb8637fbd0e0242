-- What the filling of one sheet answers, and what it writes.
use Rattle.std.specs.Prelude.{◌≡◌, ◌≤◌, ℕ, suc, min, List, [], ◌∷◌, length, take, All, Option, Some, None}
use Rattle.guillotiere.specs.declared.Size.{Size}
use Rattle.guillotiere.specs.Pixels.{sides_of}
use Rattle.atlas_sheet.specs.declared.options.SheetOptions.{SheetOptions}
use Rattle.atlas_sheet.specs.declared.placed.Placed.{Placed}
use Rattle.atlas_sheet.specs.declared.ways.TheConstants.{WAYS}
use Rattle.atlas_sheet.specs.Allowances.{IsGreatest}
use Rattle.atlas_sheet.specs.Fillings.{FindsFewer, IsBestFound, IsNoBetter, ways_tried}
use Rattle.atlas_sheet.specs.Lying.{IsShown, areas_of}
use Rattle.atlas_sheet.specs.Settings.{spacing_of}
use Rattle.atlas_sheet.specs.Sheets.{used_area}
use Rattle.atlas_sheet.specs.Turnings.{InEach, InFirst, InOne}
use Rattle.guillotiere_c.specs.declared.plain_sheet.PlainMaybePlaced.{PlainMaybePlaced}
use Rattle.guillotiere_c.specs.SheetNumbers.{maybe_placed_in, IsMaybeToldByBit}
use Rattle.guillotiere_c.specs.Writing.{AreFirst, IsWritten}

-- How many sprites have no place.
abbrev pub unplaced : List (Option Placed) → ℕ
unplaced [] = 0
unplaced (None ∷ places) = suc (unplaced places)
unplaced (Some p ∷ places) = unplaced places

-- The greatest sheet that is allowed, with a place or none for each sprite, as `atlas_sheet::fill` finds them.
pub record IsFilledSheet (o : SheetOptions) (sprites : List Size) (sheet : Size) (placed : List (Option Placed))
    : Type 0 where
  pub order : List ℕ
  pub greatest : IsGreatest o.allowed (sides_of sheet)
  pub shown : IsShown (sides_of sheet) (spacing_of o) o.turn sprites order placed
  pub best : InEach o sprites
      (λ lying. All (IsNoBetter (sides_of sheet) (spacing_of o) lying (used_area (areas_of placed)))
      (take (ways_tried (length sprites)) WAYS))
  pub plain : o.effort ≡ 0 → InOne o sprites (λ lying. IsBestFound (take (ways_tried (length sprites)) WAYS)
      (sides_of sheet) (spacing_of o) lying order (areas_of placed))
  pub earliest : o.effort ≡ 0 → InFirst o sprites
      (λ lying. IsBestFound (take (ways_tried (length sprites)) WAYS) (sides_of sheet) (spacing_of o) lying order
      (areas_of placed))
      (λ lying. All (FindsFewer (sides_of sheet) (spacing_of o) lying (used_area (areas_of placed)))
      (take (ways_tried (length sprites)) WAYS))

-- These places stand at the start of an array, which has room for them, and those that are missing are counted.
pub record IsFillingWritten (o : SheetOptions) (sprites : List Size) (sheet : Size) (left : ℕ)
    (old new : List PlainMaybePlaced) : Type 0 where
  pub placed : List (Option Placed)
  pub room : length sprites ≤ length old
  pub filled : IsFilledSheet o sprites sheet placed
  pub written : IsWritten maybe_placed_in placed old new
  pub bits : AreFirst IsMaybeToldByBit (min (length placed) (length old)) new
  pub count : left ≡ unplaced placed
