-- What a packing with no guillotine cuts answers, and what it writes.
use Rattle.std.specs.Prelude.{ℕ, ◌≤◌, min, List, length, map, Some}
use Rattle.guillotiere.specs.declared.Size.{Size}
use Rattle.guillotiere.specs.Pixels.{sides_of}
use Rattle.atlas_sheet.specs.declared.options.SheetOptions.{SheetOptions}
use Rattle.atlas_sheet.specs.declared.placed.Placed.{Placed}
use Rattle.atlas_sheet.specs.Allowances.{IsAllowed}
use Rattle.atlas_sheet.specs.Dense.{AreAllPlaced, ArePaddedApart, IsLeastDense, IsNoLargerThanWays, IsPackedOrDense, NoneIsDense}
use Rattle.atlas_sheet.specs.Settings.{spacing_of}
use Rattle.guillotiere_c.specs.declared.plain_sheet.PlainPlaced.{PlainPlaced}
use Rattle.guillotiere_c.specs.Packing.{HasNoSheet}
use Rattle.guillotiere_c.specs.SheetNumbers.{placed_in, IsToldByBit}
use Rattle.guillotiere_c.specs.Writing.{AreFirst, IsWritten}

-- A sheet that takes all sprites, as `atlas_sheet::pack_dense` finds it, with their places in the order of the sprites: they
-- lie apart with their padding, and the sheet has no more pixels than the first one that a way of `pack` finds. They lie as
-- `pack` places them, or each, the highest first, as high up as it can and there as far left.
pub record IsDenseSheet (o : SheetOptions) (sprites : List Size) (sheet : Size) (placed : List Placed) : Type 0 where
  pub allowed : IsAllowed o.allowed (sides_of sheet)
  pub each : AreAllPlaced o (sides_of sheet) sprites (map Some placed)
  pub padded : ArePaddedApart (spacing_of o) (map Some placed)
  pub larger : IsNoLargerThanWays o sprites (sides_of sheet)
  pub order : List ℕ
  pub way : IsPackedOrDense o sprites (sides_of sheet) order placed
  pub least : IsLeastDense o sprites (sides_of sheet)

-- Neither a way of `pack` packs these sprites into the greatest sheet that is allowed, nor do they find places there so.
abbrev pub HasNoDenseSheet : SheetOptions → List Size → Type 0
HasNoDenseSheet o sprites = HasNoSheet o sprites × NoneIsDense o sprites

-- The places of such a sheet stand at the start of an array, which has room for them.
pub record IsDenseSheetWritten (o : SheetOptions) (sprites : List Size) (sheet : Size) (old new : List PlainPlaced)
    : Type 0 where
  pub placed : List Placed
  pub room : length sprites ≤ length old
  pub packed : IsDenseSheet o sprites sheet placed
  pub written : IsWritten placed_in placed old new
  pub bits : AreFirst IsToldByBit (min (length placed) (length old)) new
