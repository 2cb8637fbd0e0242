-- What the structs of numbers of a sheet mean.
use Rattle.std.specs.Prelude.{ℕ, pos, Bool, true, false, ◌≡◌, ◌≤◌, ◌==◌, nat_le, if◌then◌else◌, Option, Some, None, option_map}
use Rattle.guillotiere_c.specs.declared.plain.TheConstants.{MEMORY, EMPTY_SHEET, EMPTY_RANGE, EMPTY_ALIGNMENT}
use Rattle.guillotiere_c.specs.declared.plain.TheConstants.{EMPTY_SPRITE, GREAT_SPRITE, ONE_SIZE, SQUARES, POWERS}
use Rattle.guillotiere_c.specs.declared.plain.TheConstants.{HEIGHTS}
use Rattle.guillotiere_c.specs.declared.plain_sheet.PlainMaybePlaced.{PlainMaybePlaced}
use Rattle.guillotiere_c.specs.declared.plain_sheet.PlainOnPage.{PlainOnPage}
use Rattle.guillotiere_c.specs.declared.plain_sheet.PlainPlaced.{PlainPlaced}
use Rattle.guillotiere_c.specs.declared.plain_sheet.PlainSheetOptions.{PlainSheetOptions}
use Rattle.guillotiere_c.specs.Numbers.{corners_in}
use Rattle.atlas_sheet.specs.declared.allowed.Allowed.{Allowed}
use Rattle.atlas_sheet.specs.declared.allowed.Allowed.TheVariants as allowed
use Rattle.atlas_sheet.specs.declared.error.SheetError.{SheetError}
use Rattle.atlas_sheet.specs.declared.error.SheetError.TheVariants as error
use Rattle.atlas_sheet.specs.declared.options.SheetOptions.{SheetOptions}
use Rattle.atlas_sheet.specs.declared.paging.OnPage.{OnPage}
use Rattle.atlas_sheet.specs.declared.placed.Placed.{Placed}

-- Every number but 0 stands for yes.
abbrev pub truth_in : ℕ → Bool
truth_in n = if n == 0 then false else true

abbrev pub placed_in : PlainPlaced → Placed
placed_in p = record { area = corners_in p.area; turned = truth_in p.turned }

abbrev pub maybe_placed_in : PlainMaybePlaced → Option Placed
maybe_placed_in p = if truth_in p.is_placed then Some (placed_in p.placed) else None

-- Whether it is turned is told by 1 or 0.
abbrev pub IsToldByBit : PlainPlaced → Type 0
IsToldByBit p = p.turned ≤ 1

-- The numbers of no place: each is 0.
abbrev pub nowhere : PlainPlaced
nowhere = record { area = record { min_x = pos 0; min_y = pos 0; max_x = pos 0; max_y = pos 0 }; turned = 0 }

-- Whether there is a place is told by 1 or 0, and where there is none, its numbers are 0.
pub record IsMaybeToldByBit (p : PlainMaybePlaced) : Type 0 where
  pub bit : p.is_placed ≤ 1
  pub turned : IsToldByBit p.placed
  pub none : p.is_placed ≡ 0 → p.placed ≡ nowhere

abbrev pub on_page_in : PlainOnPage → OnPage
on_page_in p = record { page = p.page; placed = placed_in p.placed }

-- The same of a place on one of several sheets.
abbrev pub IsPageToldByBit : PlainOnPage → Type 0
IsPageToldByBit p = IsToldByBit p.placed

-- The sheets that are allowed, if they are of one of the four kinds.
abbrev pub allowed_in : PlainSheetOptions → Option Allowed
allowed_in o =
    if o.allowed == ONE_SIZE then Some (allowed.One (record { width = o.width; height = o.height }))
    else (if o.allowed == SQUARES then Some (allowed.Squares o.least o.greatest)
    else (if o.allowed == POWERS then Some (allowed.Powers o.greatest)
    else (if o.allowed == HEIGHTS then Some (allowed.Heights o.width o.greatest) else None)))

abbrev pub options_over : PlainSheetOptions → Allowed → SheetOptions
options_over o allowed =
    record {
      allowed = allowed;
      padding = o.padding;
      alignment = record { width = o.alignment_width; height = o.alignment_height };
      turn = truth_in o.turn;
      effort = o.effort;
      seed = o.seed;
    }

-- The options of these numbers, if the padding is at most 65535 and the sheets are of one of the four kinds.
abbrev pub sheet_options_in : PlainSheetOptions → Option SheetOptions
sheet_options_in o = if nat_le o.padding 65535 then option_map (options_over o) (allowed_in o) else None

-- The error that a status tells, with the number of a sprite where it names one.
abbrev pub sheet_error : (status sprite : ℕ) → Option SheetError
sheet_error status sprite =
    if status == MEMORY then Some error.Memory
    else (if status == EMPTY_SHEET then Some error.EmptySheet
    else (if status == EMPTY_RANGE then Some error.EmptyRange
    else (if status == EMPTY_ALIGNMENT then Some error.EmptyAlignment
    else (if status == EMPTY_SPRITE then Some (error.EmptySprite sprite)
    else (if status == GREAT_SPRITE then Some (error.GreatSprite sprite) else None)))))
