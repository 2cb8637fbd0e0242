-- From the lines that are read to the text that is written.
use Rattle.std.specs.Prelude.{◌≡◌, ℕ, ◌+◌, ◌<◌, ◌≤◌, ◌⊎◌, ⊤, Bool, true, false, if◌then◌else◌, Option, Some, None, List, [], ◌∷◌}
use Rattle.std.specs.Prelude.{option_map}
use Rattle.std.specs.Prelude.{map, flat_map, length, take, All, IsNone}
use Rattle.std.specs.List.{zip}
use Rattle.std.specs.Io.KnownBytes.{Appends}
use Rattle.atlas_model.specs.declared.geometry.Size.{Size}
use Rattle.atlas_model.specs.Pixels.{sides_of}
use Rattle.atlas_sheet.specs.declared.allowed.Allowed.{Allowed}
use Rattle.atlas_sheet.specs.declared.allowed.Allowed.TheVariants as allowed
use Rattle.atlas_sheet.specs.declared.error.SheetError.TheVariants as sheet_error
use Rattle.atlas_sheet.specs.declared.options.SheetOptions.{SheetOptions}
use Rattle.atlas_sheet.specs.declared.paging.OnPage.{OnPage}
use Rattle.atlas_sheet.specs.declared.placed.Placed.{Placed}
use Rattle.atlas_sheet.specs.declared.ways.TheConstants.{WAYS}
use Rattle.atlas_sheet.specs.Allowances.{IsAllowed, IsGreatest}
use Rattle.atlas_sheet.specs.Dense.{AreAllPlaced, ArePaddedApart, IsAsPacked, IsLeastDense, IsNoLargerThanWays, IsPackedOrDense}
use Rattle.atlas_sheet.specs.Dense.{NoWayFinds, NoneIsDense}
use Rattle.atlas_sheet.specs.Fillings.{FindsFewer, IsBestFound, IsNoBetter, ways_tried}
use Rattle.atlas_sheet.specs.Grouping.{AreGroupPages, AreGroupSheets, LieTogether, members, padded_to}
use Rattle.atlas_sheet.specs.Lying.{IsShown, areas_of}
use Rattle.atlas_sheet.specs.Paging.{ArePages, OneIsTooLarge}
use Rattle.atlas_sheet.specs.Settings.{IsSheetFault, spacing_of}
use Rattle.atlas_sheet.specs.Sheets.{used_area}
use Rattle.atlas_sheet.specs.Turnings.{InEach, InFirst, InOne}
use Rattle.atlas_words.specs.Devices.{HoldsBytes}
use Rattle.atlas_pack.specs.declared.error.PackError.{PackError}
use Rattle.atlas_pack.specs.declared.error.PackError.TheVariants as error
use Rattle.atlas_pack.specs.declared.frames.Frame.{Frame}
use Rattle.atlas_pack.specs.declared.pages.PageFrame.{PageFrame}
use Rattle.atlas_pack.specs.declared.settings.Settings.{Settings}
use Rattle.atlas_pack.specs.declared.settings.Sheets.{Sheets}
use Rattle.atlas_pack.specs.declared.settings.Sheets.TheVariants as sheets
use Rattle.atlas_pack.specs.declared.sprites.Sprite.{Sprite}
use Rattle.atlas_pack.specs.Folders.{folder_groups}
use Rattle.atlas_pack.specs.Jobs.{AsksFor, IsJobFault}
use Rattle.atlas_pack.specs.Json.{json_of}
use Rattle.atlas_pack.specs.Pages.{pages_text_of}
use Rattle.atlas_pack.specs.Texts.{text_of}

abbrev pub allowed_of : Sheets → Allowed
allowed_of (sheets.One size) = allowed.One size
allowed_of (sheets.Squares least greatest) = allowed.Squares least greatest
allowed_of (sheets.Powers greatest) = allowed.Powers greatest
allowed_of (sheets.Heights width greatest) = allowed.Heights width greatest

-- The library's options for these settings.
abbrev pub sheet_options : Settings → SheetOptions
sheet_options s =
    record {
      allowed = allowed_of s.sheets;
      padding = s.padding;
      alignment = s.alignment;
      turn = s.turn;
      effort = s.effort;
      seed = s.seed;
    }

-- A sprite in its place.
abbrev pub frame_of : Sprite → Placed → Frame
frame_of sprite placed = record { sprite = sprite; corner = placed.area.min; turned = placed.turned }

abbrev pub frame_in : Sprite × Option Placed → List Frame
frame_in (sprite, Some placed) = frame_of sprite placed ∷ []
frame_in (sprite, None) = []

abbrev pub left_in : Sprite × Option Placed → List Sprite
left_in (sprite, Some placed) = []
left_in (sprite, None) = sprite ∷ []

-- The sprites that have places, in them, in order.
abbrev pub frames_of : List Sprite → List (Option Placed) → List Frame
frames_of sprites places = flat_map frame_in (zip sprites places)

-- The sprites that have none, in order.
abbrev pub left_of : List Sprite → List (Option Placed) → List Sprite
left_of sprites places = flat_map left_in (zip sprites places)

-- The text of a sheet, as JSON or as lines.
abbrev pub written : (json : Bool) → Size → List Frame → (left : List Sprite) → List ℕ
written json sheet frames left = if json then json_of sheet frames left else text_of sheet frames left

-- What `pack` answers: an allowed sheet with a place for each sprite, no larger than what the ways find; without effort it is that which
-- they find first.
pub record IsFoundSheet (o : SheetOptions) (sizes : List Size) (sheet : Size) (places : List (Option Placed)) : Type 0 where
  pub allowed : IsAllowed o.allowed (sides_of sheet)
  pub all : List Placed
  pub whole : places ≡ map Some all
  pub larger : IsNoLargerThanWays o sizes (sides_of sheet)
  pub order : List ℕ
  pub way : IsAsPacked o sizes (sides_of sheet) order all

-- What `pack_dense` answers: an allowed sheet with a place for each sprite, in which they lie apart, no larger than what
-- the ways find; and which sheet it is.
pub record IsFoundDense (o : SheetOptions) (sizes : List Size) (sheet : Size) (places : List (Option Placed)) : Type 0 where
  pub allowed : IsAllowed o.allowed (sides_of sheet)
  pub all : List Placed
  pub whole : places ≡ map Some all
  pub each : AreAllPlaced o (sides_of sheet) sizes places
  pub apart : ArePaddedApart (spacing_of o) places
  pub larger : IsNoLargerThanWays o sizes (sides_of sheet)
  pub order : List ℕ
  pub way : IsPackedOrDense o sizes (sides_of sheet) order all
  pub least : IsLeastDense o sizes (sides_of sheet)

-- What the library answers where all sprites are to be packed, also with no guillotine cuts or not.
abbrev pub IsAllPacked : (dense : Bool) → SheetOptions → List Size → (sheet : Size) → List (Option Placed) → Type 0
IsAllPacked true o sizes sheet places = IsFoundDense o sizes sheet places
IsAllPacked false o sizes sheet places = IsFoundSheet o sizes sheet places

-- What `fill` answers: the greatest sheet that is allowed, with a place or none for each sprite. The places have no fewer pixels than those
-- that any of the ways finds; without effort they are those of the best of these, and with sprites that may be turned the first such.
pub record IsFilled (o : SheetOptions) (sizes : List Size) (sheet : Size) (places : List (Option Placed)) : Type 0 where
  pub greatest : IsGreatest o.allowed (sides_of sheet)
  pub order : List ℕ
  pub shown : IsShown (sides_of sheet) (spacing_of o) o.turn sizes order places
  pub best : InEach o sizes (λ lying.
      All (IsNoBetter (sides_of sheet) (spacing_of o) lying (used_area (areas_of places))) (take (ways_tried (length sizes)) WAYS))
  pub plain : o.effort ≡ 0 → InOne o sizes (λ lying.
      IsBestFound (take (ways_tried (length sizes)) WAYS) (sides_of sheet) (spacing_of o) lying order (areas_of places))
  pub earliest : o.effort ≡ 0 → InFirst o sizes
      (λ lying. IsBestFound (take (ways_tried (length sizes)) WAYS) (sides_of sheet) (spacing_of o) lying order (areas_of places))
      (λ lying. All (FindsFewer (sides_of sheet) (spacing_of o) lying (used_area (areas_of places)))
      (take (ways_tried (length sizes)) WAYS))

-- What the library answers to these options, where it is to fill a sheet or not.
abbrev pub Answers : (fill dense : Bool) → SheetOptions → List Size → (sheet : Size) → List (Option Placed) → Type 0
Answers true dense options sizes sheet places = IsFilled options sizes sheet places
Answers false dense options sizes sheet places = IsAllPacked dense options sizes sheet places

-- The library answered with a sheet on which so many sprites have no place, and this is its text.
pub record IsOneSheet (settings : Settings) (sprites : List Sprite) (many : ℕ) (text : List ℕ) : Type 0 where
  pub sheet : Size
  pub places : List (Option Placed)
  pub answered : Answers settings.fill settings.dense
      (sheet_options settings) (map (λ sprite. sprite.size) sprites) sheet places
  pub left : many ≡ length (left_of sprites places)
  pub told : text ≡ written settings.json sheet (frames_of sprites places) (left_of sprites places)

-- A sprite in its place on one of several sheets.
abbrev pub page_frame_of : Sprite × OnPage → PageFrame
page_frame_of (sprite, place) = record { page = place.page; frame = frame_of sprite place.placed }

-- The sprites in their places, in order.
abbrev pub page_frames_of : List Sprite → List OnPage → List PageFrame
page_frames_of sprites places = map page_frame_of (zip sprites places)

-- The numbers of the sprites' folders, where these are to stay together.
abbrev pub groups_of : (group : Bool) → List Sprite → Option (List (Option ℕ))
groups_of true sprites = Some (folder_groups sprites)
groups_of false sprites = None

-- What `pack_groups` answers: one sheet after another, those of a group on one of them, unless no way packs them alone into one; without
-- groups the sheets are those of `pack_pages`.
pub record AreGrouped (o : SheetOptions) (groups : List (Option ℕ)) (sizes sheets : List Size) (places : List OnPage) : Type 0 where
  pub are : AreGroupPages WAYS o sizes sheets (map Some places)
  pub together : (group : ℕ) → LieTogether group groups places ⊎ NoWayFinds o (members group groups sizes)
  pub sheets_come : AreGroupSheets o sizes (padded_to (length sizes) groups) sheets (map Some places)
  pub plain : All IsNone groups → ArePages WAYS o sizes sheets (map Some places)

-- What the library answers where several sheets are to take all sprites, in groups or not.
abbrev pub AreSheets : (groups : Option (List (Option ℕ))) → SheetOptions → (sizes sheets : List Size) → List OnPage
    → Type 0
AreSheets None o sizes sheets places = ArePages WAYS o sizes sheets (map Some places)
AreSheets (Some groups) o sizes sheets places = AreGrouped o groups sizes sheets places

-- The library answered with no more sheets than these, on which each sprite has a place, and this is their text.
pub record AreSeveral (most : ℕ) (settings : Settings) (sprites : List Sprite) (many : ℕ) (text : List ℕ) : Type 0 where
  pub sheets : List Size
  pub places : List OnPage
  pub answered : AreSheets
      (groups_of settings.group sprites) (sheet_options settings) (map (λ sprite. sprite.size) sprites) sheets places
  pub few : length sheets ≤ most
  pub left : many ≡ 0
  pub told : text ≡ pages_text_of sheets (page_frames_of sprites places)

-- The library answered what the lines ask for, in one sheet or in several.
abbrev pub IsPackAnswer : (pages : Option ℕ) → Settings → List Sprite → (many : ℕ) → (text : List ℕ) → Type 0
IsPackAnswer None settings sprites many text = IsOneSheet settings sprites many text
IsPackAnswer (Some most) settings sprites many text = AreSeveral most settings sprites many text

-- The lines that were read ask for a sheet, on which so many sprites have no place, and its text was written.
pub record Packs (many : ℕ) (in_old out_old out_new : Option (List ℕ)) : Type 0 where
  pub input : List ℕ
  pub before : ℕ
  pub settings : Settings
  pub sprites : List Sprite
  pub text : List ℕ
  pub read : HoldsBytes in_old input
  pub asked : AsksFor input before settings sprites
  pub answered : IsPackAnswer settings.pages settings sprites many text
  pub told : Appends out_old out_new text

-- Several sheets: at most how many, and the groups whose sprites are to stay together, if any.
pub record Several : Type 0 where
  pub most : ℕ
  pub groups : Option (List (Option ℕ))

-- What is asked for where several sheets are; none where one is.
abbrev pub several_of : Settings → List Sprite → Option Several
several_of settings sprites = option_map (λ most. record { most = most; groups = groups_of settings.group sprites }) settings.pages

-- None of the ways finds a sheet, and with `dense` the greatest leaves a sprite without guillotine cuts too; of several, where not each
-- sprite has room in the greatest.
abbrev pub IsNoSheet : (fill dense : Bool) → Option Several → SheetOptions → List Size → Type 0
IsNoSheet fill dense None o sizes = (fill ≡ false) × NoWayFinds o sizes × (dense ≡ true → NoneIsDense o sizes)
IsNoSheet fill dense (Some several) o sizes = OneIsTooLarge o sizes

-- The library answered with more sheets than these.
abbrev pub AreMore : Option Several → SheetOptions → List Size → Type 0
AreMore None o sizes = ⊥
AreMore (Some several) o sizes =
    (sheets : List Size) × (places : List OnPage) × AreSheets several.groups o sizes sheets places × (several.most < length sheets)

-- What an error says of what the library was asked. The sprites' lines stand after `before` others.
abbrev pub IsPackFault : (fill dense : Bool) → (several : Option Several) → (before : ℕ) → SheetOptions → List Size
    → PackError → Type 0
IsPackFault fill dense several before o sizes error.EmptySheet = IsSheetFault o sizes sheet_error.EmptySheet
IsPackFault fill dense several before o sizes error.EmptyRange = IsSheetFault o sizes sheet_error.EmptyRange
IsPackFault fill dense several before o sizes error.EmptyAlignment = IsSheetFault o sizes sheet_error.EmptyAlignment
IsPackFault fill dense several before o sizes (error.EmptySprite line) =
    (k : ℕ) × (line ≡ before + k + 1) × IsSheetFault o sizes (sheet_error.EmptySprite k)
IsPackFault fill dense several before o sizes (error.GreatSprite line) =
    (k : ℕ) × (line ≡ before + k + 1) × IsSheetFault o sizes (sheet_error.GreatSprite k)
IsPackFault fill dense several before o sizes error.NoSheet = IsNoSheet fill dense several o sizes
IsPackFault fill dense several before o sizes error.MorePages = AreMore several o sizes
IsPackFault fill dense several before o sizes error.Memory = ⊤
IsPackFault fill dense several before o sizes e = ⊥

-- The lines ask for a sheet, and the library has none.
pub record HasPackFault (input : List ℕ) (e : PackError) : Type 0 where
  pub before : ℕ
  pub settings : Settings
  pub sprites : List Sprite
  pub asked : AsksFor input before settings sprites
  pub fault : IsPackFault settings.fill settings.dense (several_of settings sprites) before (sheet_options settings)
      (map (λ sprite. sprite.size) sprites) e

-- A device failed.
abbrev pub IsDeviceFault : PackError → Type 0
IsDeviceFault (error.Device d) = ⊤
IsDeviceFault e = ⊥

-- The lines that were read are bad.
pub record HasInputFault (in_old : Option (List ℕ)) (e : PackError) : Type 0 where
  pub input : List ℕ
  pub read : HoldsBytes in_old input
  pub fault : IsJobFault input e ⊎ HasPackFault input e

-- Why there is no sheet: memory or a device failed, or the lines are bad or ask for a sheet that isn't found.
abbrev pub IsRunFault : (in_old : Option (List ℕ)) → PackError → Type 0
IsRunFault in_old e = (e ≡ error.Memory) ⊎ (IsDeviceFault e ⊎ HasInputFault in_old e)
