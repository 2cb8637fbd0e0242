-- Sprites on several sheets.
use Rattle.std.specs.Prelude.{◌≡◌, ◌≢◌, ℕ, suc, pos, ◌+◌, ◌<◌, ◌==◌, ◌⊎◌, nat_le, if◌then◌else◌, Bool, true, List, [], ◌∷◌}
use Rattle.std.specs.Prelude.{length, take, All, Option, Some, None, IfSome, IsNone, IsSome, IsTrue, is_none, slice_index_or}
use Rattle.guillotiere.specs.declared.Size.{Size}
use Rattle.guillotiere.specs.Boxes.{Box, Sides, AreDisjoint}
use Rattle.guillotiere.specs.Pixels.{box_of, sides_of}
use Rattle.atlas_sheet.specs.declared.options.SheetOptions.{SheetOptions}
use Rattle.atlas_sheet.specs.declared.paging.OnPage.{OnPage}
use Rattle.atlas_sheet.specs.declared.placed.Placed.{Placed}
use Rattle.atlas_sheet.specs.declared.ways.Way.{Way}
use Rattle.atlas_sheet.specs.Allowances.{IsAllowed, IsGreatest}
use Rattle.atlas_sheet.specs.Fillings.{IsNoBetter, ways_tried}
use Rattle.atlas_sheet.specs.Lying.{IsPlacedFor, IsShown, MayLie, areas_of}
use Rattle.atlas_sheet.specs.Packings.{IsNoLarger}
use Rattle.atlas_sheet.specs.Settings.{spacing_of}
use Rattle.atlas_sheet.specs.Sheets.{used_area}
use Rattle.atlas_sheet.specs.Turnings.{InEach, has_room}

-- The sides of the sheet with a number.
abbrev pub page_sides : List Size → ℕ → Sides
page_sides sizes page = sides_of (slice_index_or sizes page (record { width = pos 0; height = pos 0 }))

-- Whether a sprite lies on this sheet or a later one, or has no place yet.
abbrev pub is_from : (page : ℕ) → Option OnPage → Bool
is_from page None = true
is_from page (Some p) = nat_le page p.page

-- A sprite's place, where it lies on this sheet.
abbrev pub place_on : (page : ℕ) → Option OnPage → Option Placed
place_on page None = None
place_on page (Some p) = if p.page == page then Some p.placed else None

-- The sprites whose places keep to a test.
abbrev pub sprites_by : (Option OnPage → Bool) → List Size → List (Option OnPage) → List Size
sprites_by test [] places = []
sprites_by test (s ∷ sprites) [] = []
sprites_by test (s ∷ sprites) (p ∷ places) =
    if test p then s ∷ sprites_by test sprites places else sprites_by test sprites places

-- The sprites that lie on no earlier sheet than this, in their order.
abbrev pub sprites_from : (page : ℕ) → List Size → List (Option OnPage) → List Size
sprites_from page = sprites_by (is_from page)

-- What each of them has on this sheet: a place or none.
abbrev pub places_on : (page : ℕ) → List (Option OnPage) → List (Option Placed)
places_on page [] = []
places_on page (p ∷ places) = if is_from page p then place_on page p ∷ places_on page places else places_on page places

-- The boxes of the places on a sheet.
abbrev pub boxes_on : (page : ℕ) → List OnPage → List Box
boxes_on page [] = []
boxes_on page (p ∷ places) = if p.page == page then box_of p.placed.area ∷ boxes_on page places else boxes_on page places

-- All of these sprites lie on this sheet, and it is no larger than one that a way packs them into first.
abbrev pub TakesAll : List Way → SheetOptions → List Size → Sides → List (Option Placed) → Type 0
TakesAll ways o sprites sheet placed =
    All IsSome placed × InEach o sprites (λ lying. IsNoLarger ways o.allowed (spacing_of o) lying sheet)

-- The greatest sheet that is allowed, and none of the first ways fills it with more pixels of these sprites; it doesn't
-- take them all.
abbrev pub IsFullSheet : List Way → SheetOptions → List Size → Sides → List (Option Placed) → Type 0
IsFullSheet ways o sprites sheet placed =
    IsGreatest o.allowed sheet
    × InEach o sprites (λ lying.
    All (IsNoBetter sheet (spacing_of o) lying (used_area (areas_of placed))) (take (ways_tried (length sprites)) ways))
    × (All IsSome placed → ⊥)

-- A sheet for sprites that lie on no earlier one. Those without a place asked, and found no room.
pub record IsPage (ways : List Way) (o : SheetOptions) (sprites : List Size) (sheet : Sides)
    (placed : List (Option Placed)) : Type 0 where
  pub order : List ℕ
  pub shown : IsShown sheet (spacing_of o) o.turn sprites order placed
  pub allowed : IsAllowed o.allowed sheet
  pub used : All IsNone placed → ⊥
  pub kind : TakesAll ways o sprites sheet placed ⊎ IsFullSheet ways o sprites sheet placed

-- One sheet after another, each of which keeps to a rule with the sprites that lie on no earlier one.
pub record ArePagesBy (rule : List Size → Sides → List (Option Placed) → Type 0) (sprites sizes : List Size)
    (places : List (Option OnPage)) : Type 0 where
  pub long : length places ≡ length sprites
  pub below : All (λ p. IfSome p (λ q. q.page < length sizes)) places
  pub pages : (page : ℕ) → page < length sizes
      → rule (sprites_from page sprites places) (page_sides sizes page) (places_on page places)

-- One sheet after another, each for the sprites that lie on no earlier one.
abbrev pub ArePages : List Way → SheetOptions → (sprites sizes : List Size) → List (Option OnPage) → Type 0
ArePages ways o = ArePagesBy (IsPage ways o)

-- A place for a sprite on one of the sheets.
abbrev pub IsOnPage : SheetOptions → (sizes : List Size) → Size → OnPage → Type 0
IsOnPage o sizes sprite p =
    (p.page < length sizes) × IsPlacedFor (page_sides sizes p.page) (spacing_of o) o.turn sprite p.placed

-- No two places on one sheet overlap.
abbrev pub NoPlacesOverlap : (sizes : List Size) → List OnPage → Type 0
NoPlacesOverlap sizes places = (page : ℕ) → page < length sizes → AreDisjoint (boxes_on page places)

-- On each sheet lies a sprite.
abbrev pub AreUsed : (sizes : List Size) → List OnPage → Type 0
AreUsed sizes places = (page : ℕ) → page < length sizes → All (λ p. p.page ≢ page) places → ⊥

-- Each sheet but the last is the greatest that is allowed.
abbrev pub AreGreatest : SheetOptions → (sizes : List Size) → Type 0
AreGreatest o sizes = (page : ℕ) → page + 1 < length sizes → IsGreatest o.allowed (page_sides sizes page)

-- Not each sprite has room in the greatest sheet, in one of the ways that it may lie.
pub record OneIsTooLarge (o : SheetOptions) (sprites : List Size) : Type 0 where
  pub sheet : Sides
  pub greatest : IsGreatest o.allowed sheet
  pub large : All (λ s. (lying : Size) × MayLie o.turn s lying × IsTrue (has_room sheet (spacing_of o) lying)) sprites
      → ⊥

-- How many sprites have no place.
abbrev pub holes : List (Option OnPage) → ℕ
holes [] = 0
holes (None ∷ places) = suc (holes places)
holes (Some p ∷ places) = holes places

-- The sprites that have no place.
abbrev pub sprites_left : List Size → List (Option OnPage) → List Size
sprites_left = sprites_by is_none

-- What was found on a sheet.
abbrev pub found_on : (page : ℕ) → Option Placed → Option OnPage
found_on page None = None
found_on page (Some placed) = Some (record { page = page; placed = placed })

-- The places with those that the sprites without one found on a sheet, in their order.
abbrev pub put_on : (page : ℕ) → List (Option OnPage) → List (Option Placed) → List (Option OnPage)
put_on page [] found = []
put_on page (Some p ∷ places) found = Some p ∷ put_on page places found
put_on page (None ∷ places) [] = None ∷ places
put_on page (None ∷ places) (f ∷ found) = found_on page f ∷ put_on page places found
