-- What is read out of the options, and what is wrong with what was asked.
use Rattle.std.specs.Prelude.{⊤, pos, List}
use Rattle.guillotiere.specs.declared.Size.{Size}
use Rattle.guillotiere.specs.Boxes.{IsPositive}
use Rattle.guillotiere.specs.Pixels.{sides_of}
use Rattle.atlas_sheet.specs.declared.error.SheetError.{SheetError}
use Rattle.atlas_sheet.specs.declared.error.SheetError.TheVariants as error
use Rattle.atlas_sheet.specs.declared.options.SheetOptions.{SheetOptions}
use Rattle.atlas_sheet.specs.declared.options.Spacing.{Spacing}
use Rattle.atlas_sheet.specs.Allowances.{IsAllowanceFault, IsUsable}
use Rattle.atlas_sheet.specs.Fillings.{HasFault}
use Rattle.atlas_sheet.specs.Sheets.{ArePackable}

-- The padding and the alignment.
abbrev pub spacing_of : SheetOptions → Spacing
spacing_of o = record { padding = o.padding; alignment = o.alignment }

-- No padding, and places that begin anywhere.
abbrev pub plain_spacing : Spacing
plain_spacing = record { padding = 0; alignment = record { width = pos 1; height = pos 1 } }

-- A sheet is allowed, and the sprites are packable.
pub record CanPack (o : SheetOptions) (sprites : List Size) : Type 0 where
  pub usable : IsUsable o.allowed
  pub placing : ArePackable (spacing_of o) sprites

-- What an error says of the options or of a sprite: the first thing that is wrong, in the order of these lines.
abbrev pub IsSheetFault : SheetOptions → List Size → SheetError → Type 0
IsSheetFault o sprites error.Memory = ⊤
IsSheetFault o sprites error.EmptySheet = IsAllowanceFault o.allowed error.EmptySheet
IsSheetFault o sprites error.EmptyRange = IsAllowanceFault o.allowed error.EmptyRange
IsSheetFault o sprites error.EmptyAlignment = IsUsable o.allowed × (IsPositive (sides_of o.alignment) → ⊥)
IsSheetFault o sprites e = IsUsable o.allowed × IsPositive (sides_of o.alignment) × HasFault (spacing_of o) sprites e
