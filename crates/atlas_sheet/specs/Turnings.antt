-- How sprites that may be turned lie where the ways are tried with them.
use Rattle.std.specs.Prelude.{◌≡◌, Bool, true, false, not, ◌&&◌, nat_le, int_lt, if◌then◌else◌, List, [], ◌∷◌, map, All}
use Rattle.std.specs.Prelude.{Contains}
use Rattle.guillotiere.specs.declared.Size.{Size}
use Rattle.guillotiere.specs.Boxes.{Sides}
use Rattle.guillotiere.specs.Choice.{up}
use Rattle.guillotiere.specs.Pixels.{sides_of}
use Rattle.atlas_sheet.specs.declared.options.SheetOptions.{SheetOptions}
use Rattle.atlas_sheet.specs.declared.options.Spacing.{Spacing}
use Rattle.atlas_sheet.specs.declared.turnings.Turning.{Turning}
use Rattle.atlas_sheet.specs.declared.turnings.Turning.TheVariants as turning
use Rattle.atlas_sheet.specs.Allowances.{IsGreatest}
use Rattle.atlas_sheet.specs.Firsts.{StandsAfter}
use Rattle.atlas_sheet.specs.Lying.{turned_size}
use Rattle.atlas_sheet.specs.Settings.{spacing_of}
use Rattle.atlas_sheet.specs.Sheets.{asked_sides, inner_sides}

-- Whether a sprite that lies so has room in an empty sheet: its sides with the padding at its left and above, rounded up to
-- the alignment, are no longer than what is left of the sheet without the padding at its right and below.
abbrev pub has_room : (sheet : Sides) (spacing : Spacing) → Size → Bool
has_room sheet spacing lying =
    nat_le (up (asked_sides spacing.padding lying).width (sides_of spacing.alignment).width) (inner_sides spacing sheet).width
    && nat_le (up (asked_sides spacing.padding lying).height (sides_of spacing.alignment).height)
    (inner_sides spacing sheet).height

-- A sprite as it is given, as wide as it can lie, or as high.
abbrev pub turned_to : Turning → Size → Size
turned_to turning.AsGiven s = s
turned_to turning.Wide s = if int_lt s.width s.height then turned_size s else s
turned_to turning.High s = if int_lt s.height s.width then turned_size s else s

-- The other way where it has room in the sheet only so.
abbrev pub fitted : (sheet : Sides) (spacing : Spacing) → Size → Size
fitted sheet spacing s = if not (has_room sheet spacing s) && has_room sheet spacing (turned_size s) then turned_size s else s

-- All sprites so; as they are given where none may be turned.
abbrev pub laid : (turn : Bool) (sheet : Sides) (spacing : Spacing) → Turning → List Size → List Size
laid false sheet spacing how sprites = sprites
laid true sheet spacing how sprites = map (λ s. fitted sheet spacing (turned_to how s)) sprites

-- Sprites as the ways are tried with them: they have room in the greatest sheet, if they have it at all.
pub record AreLaid (o : SheetOptions) (how : Turning) (sprites lying : List Size) : Type 0 where
  pub sheet : Sides
  pub greatest : IsGreatest o.allowed sheet
  pub lie : lying ≡ laid o.turn sheet (spacing_of o) how sprites

-- How the ways are tried.
abbrev pub turnings : (turn : Bool) → List Turning
turnings false = turning.AsGiven ∷ []
turnings true = turning.AsGiven ∷ turning.Wide ∷ turning.High ∷ []

-- Something holds of the sprites, however they are laid.
abbrev pub InEach : SheetOptions → List Size → (List Size → Type 0) → Type 0
InEach o sprites P = All (λ how. (lying : List Size) × AreLaid o how sprites lying × P lying) (turnings o.turn)

-- Something holds of the sprites as they are laid once.
abbrev pub InOne : SheetOptions → List Size → (List Size → Type 0) → Type 0
InOne o sprites P =
    (how : Turning) × Contains (turnings o.turn) how × (lying : List Size) × AreLaid o how sprites lying × P lying

-- Something holds of the sprites as they are laid so.
abbrev pub IsLaidSo : SheetOptions → List Size → (List Size → Type 0) → Turning → Type 0
IsLaidSo o sprites P how = (lying : List Size) × AreLaid o how sprites lying × P lying

-- Something holds of the sprites as they are laid once, and another thing as they are laid each time before.
abbrev pub InFirst : SheetOptions → List Size → (now before : List Size → Type 0) → Type 0
InFirst o sprites now before =
    (how : Turning) × IsLaidSo o sprites now how × StandsAfter (IsLaidSo o sprites before) (turnings o.turn) how
