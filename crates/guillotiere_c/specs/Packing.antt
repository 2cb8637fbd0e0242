-- What a packing answers, and what it writes.
use Rattle.std.specs.Prelude.{◌≡◌, ◌≤◌, ℕ, min, List, length, map, Some}
use Rattle.guillotiere.specs.declared.Size.{Size}
use Rattle.guillotiere.specs.Pixels.{sides_of}
use Rattle.atlas_sheet.specs.declared.options.SheetOptions.{SheetOptions}
use Rattle.atlas_sheet.specs.declared.placed.Placed.{Placed}
use Rattle.atlas_sheet.specs.declared.ways.TheConstants.{WAYS}
use Rattle.atlas_sheet.specs.Allowances.{IsAllowed}
use Rattle.atlas_sheet.specs.Lying.{IsShown, areas_of}
use Rattle.atlas_sheet.specs.Packings.{IsFirstFound, IsNoLarger, IsSmaller, NoneIsFound}
use Rattle.atlas_sheet.specs.Settings.{spacing_of}
use Rattle.atlas_sheet.specs.Turnings.{InEach, InFirst, InOne}
use Rattle.guillotiere_c.specs.declared.plain_sheet.PlainPlaced.{PlainPlaced}
use Rattle.guillotiere_c.specs.SheetNumbers.{placed_in, IsToldByBit}
use Rattle.guillotiere_c.specs.Writing.{AreFirst, IsWritten}

-- A sheet that takes all sprites, as `atlas_sheet::pack` finds it, with their places in the order of the sprites.
pub record IsPackedSheet (o : SheetOptions) (sprites : List Size) (sheet : Size) (placed : List Placed) : Type 0 where
  pub order : List ℕ
  pub allowed : IsAllowed o.allowed (sides_of sheet)
  pub shown : IsShown (sides_of sheet) (spacing_of o) o.turn sprites order (map Some placed)
  pub first : o.effort ≡ 0 → InOne o sprites (λ lying.
      IsFirstFound WAYS o.allowed (spacing_of o) lying (sides_of sheet) order (areas_of (map Some placed)))
  pub earliest : o.effort ≡ 0 → InFirst o sprites
      (λ lying. IsFirstFound WAYS o.allowed (spacing_of o) lying (sides_of sheet) order (areas_of (map Some placed)))
      (λ lying. IsSmaller WAYS o.allowed (spacing_of o) lying (sides_of sheet))
  pub larger : InEach o sprites (λ lying. IsNoLarger WAYS o.allowed (spacing_of o) lying (sides_of sheet))

-- The places of such a sheet stand at the start of an array, which has room for them.
pub record IsSheetWritten (o : SheetOptions) (sprites : List Size) (sheet : Size) (old new : List PlainPlaced)
    : Type 0 where
  pub placed : List Placed
  pub room : length sprites ≤ length old
  pub packed : IsPackedSheet o sprites sheet placed
  pub written : IsWritten placed_in placed old new
  pub bits : AreFirst IsToldByBit (min (length placed) (length old)) new

-- No way packs these sprites into the greatest sheet that is allowed.
abbrev pub HasNoSheet : SheetOptions → List Size → Type 0
HasNoSheet o sprites = InEach o sprites (λ lying. NoneIsFound WAYS o.allowed (spacing_of o) lying)
