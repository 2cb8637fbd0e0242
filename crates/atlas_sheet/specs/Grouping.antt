-- Sprites in groups on several sheets.
use Rattle.std.specs.Prelude.{◌≡◌, ◌≢◌, ℕ, zero, suc, ◌==◌, ◌||◌, ◌⊎◌, if◌then◌else◌, Bool, true, false, List, [], ◌∷◌, ◌++◌}
use Rattle.std.specs.Prelude.{length, map, replicate, take, ◌+◌, ◌-◌, ◌*◌, All, Option, Some, None, is_none, is_some}
use Rattle.std.specs.Prelude.{◌<◌, IfSome, IsNone, IsSome, slice_get, slice_index_or}
use Rattle.std.specs.List.{AllZip, count_by, sum_by}
use Rattle.guillotiere.specs.declared.Size.{Size}
use Rattle.guillotiere.specs.Boxes.{Sides}
use Rattle.guillotiere.specs.Pixels.{sides_of}
use Rattle.atlas_sheet.specs.declared.choosing.Chosen.{Chosen}
use Rattle.atlas_sheet.specs.declared.groups.SoFar.{SoFar}
use Rattle.atlas_sheet.specs.declared.options.SheetOptions.{SheetOptions}
use Rattle.atlas_sheet.specs.declared.paging.OnPage.{OnPage}
use Rattle.atlas_sheet.specs.declared.placed.Placed.{Placed}
use Rattle.atlas_sheet.specs.declared.ways.TheConstants.{WAYS}
use Rattle.atlas_sheet.specs.declared.ways.Way.{Way}
use Rattle.atlas_sheet.specs.Allowances.{IsAllowed, IsGreatest, pixels}
use Rattle.atlas_sheet.specs.Dense.{NoWayFinds}
use Rattle.atlas_sheet.specs.Fillings.{IsNoBetter, ways_tried}
use Rattle.atlas_sheet.specs.Lying.{IsArranged}
use Rattle.atlas_sheet.specs.Paging.{ArePagesBy, IsPage, is_from, page_sides, places_on, sprites_from, sprites_left}
use Rattle.atlas_sheet.specs.Settings.{spacing_of}
use Rattle.atlas_sheet.specs.Turnings.{InEach}

-- What stands in a list where a row says so.
abbrev pub picked : {X : Type 0} → List Bool → List X → List X
picked [] xs = []
picked (b ∷ row) [] = []
picked (b ∷ row) (x ∷ xs) = if b then x ∷ picked row xs else picked row xs

-- Whether this is the number of a group.
abbrev pub is_in : (group : ℕ) → Option ℕ → Bool
is_in group None = false
is_in group (Some g) = g == group

-- What stands in a list at the sprites of a group.
abbrev pub members : {X : Type 0} → (group : ℕ) → List (Option ℕ) → List X → List X
members group groups xs = picked (map (is_in group) groups) xs

-- All sprites of a group lie on one sheet.
abbrev pub LieTogether : (group : ℕ) → List (Option ℕ) → List OnPage → Type 0
LieTogether group groups places = (page : ℕ) × All (λ p. p.page ≡ page) (members group groups places)

-- What stands in a list at the sprites that have a place.
abbrev pub those_placed : {X : Type 0} → List (Option Placed) → List X → List X
those_placed placed xs = picked (map is_some placed) xs

-- A sheet as for sprites in no group, or one on which no others asked than those that lie there.
abbrev pub IsGroupPage : List Way → SheetOptions → List Size → Sides → List (Option Placed) → Type 0
IsGroupPage ways o sprites sheet placed =
    IsPage ways o sprites sheet placed
    ⊎ ((length placed ≡ length sprites) × IsPage ways o (those_placed placed sprites) sheet (those_placed placed placed))

-- One such sheet after another, each for the sprites that lie on no earlier one.
abbrev pub AreGroupPages : List Way → SheetOptions → (sprites sizes : List Size) → List (Option OnPage) → Type 0
AreGroupPages ways o = ArePagesBy (IsGroupPage ways o)

-- The numbers of so many sprites, none where the list ends before.
abbrev pub padded_to : ℕ → List (Option ℕ) → List (Option ℕ)
padded_to count groups = take count groups ++ replicate (count - length groups) None

-- The numbers of the sprites that have no place.
abbrev pub waiting : List (Option ℕ) → List (Option OnPage) → List (Option ℕ)
waiting groups places = picked (map is_none places) groups

-- The numbers, without that of one group.
abbrev pub without_group : (group : ℕ) → List (Option ℕ) → List (Option ℕ)
without_group group groups = map (λ g. if is_in group g then None else g) groups

-- One of the sprites is in this group.
abbrev pub HasMember : (group : ℕ) → List (Option ℕ) → Type 0
HasMember group groups = All (λ g. g ≢ Some group) groups → ⊥

-- The group of the first sprite that is in one.
abbrev pub IsFirstGroup : (group : ℕ) → List (Option ℕ) → Type 0
IsFirstGroup group groups =
    (k : ℕ) × (k < length groups) × (slice_index_or groups k None ≡ Some group) × All IsNone (take k groups)

-- How many pixels sprites have together.
abbrev pub pixels_together : List Size → ℕ
pixels_together sprites = sum_by (λ s. pixels (sides_of s)) sprites

-- By none of the ways that are tried first so many pixels of the sprites find places in a sheet as they have together.
abbrev pub LeaveOne : SheetOptions → List Size → (sheet : Sides) → Type 0
LeaveOne o sprites sheet =
    (area : ℕ) × (area < pixels_together sprites)
    × InEach o sprites (λ lying. All (IsNoBetter sheet (spacing_of o) lying area) (take (ways_tried (length sprites)) WAYS))

-- The greatest sheet doesn't take all of these sprites: they have more pixels than it, or the ways that are tried first
-- leave one.
pub record AreTooMany (o : SheetOptions) (sprites : List Size) : Type 0 where
  pub sheet : Sides
  pub greatest : IsGreatest o.allowed sheet
  pub refused : (pixels sheet < pixels_together sprites) ⊎ LeaveOne o sprites sheet

-- Which sprites are chosen: those of the groups that are there, and the first so many of those in no group.
abbrev pub chosen_row : (there : ℕ → Bool) (many : ℕ) → List (Option ℕ) → List Bool
chosen_row there many [] = []
chosen_row there many (Some n ∷ numbers) = there n ∷ chosen_row there many numbers
chosen_row there zero (None ∷ numbers) = false ∷ chosen_row there zero numbers
chosen_row there (suc many) (None ∷ numbers) = true ∷ chosen_row there many numbers

-- The groups that are there, and one more.
abbrev pub with_one : (group : ℕ) → (ℕ → Bool) → ℕ → Bool
with_one group there n = there n || (n == group)

-- A group has a sprite before the first one of another group.
abbrev pub ComesEarlier : (n group : ℕ) → List (Option ℕ) → Type 0
ComesEarlier n group numbers = (k : ℕ) × HasMember n (take k numbers) × All (λ g. g ≢ Some group) (take k numbers)

-- A group that isn't on a sheet: it is too many beside the group that opens the sheet, and such others there as come
-- before it.
pub record IsLeftOut (o : SheetOptions) (sprites : List Size) (numbers : List (Option ℕ)) (first : ℕ) (there : ℕ → Bool)
    (group : ℕ) : Type 0 where
  pub beside : ℕ → Bool
  pub opened : beside first ≡ true
  pub earlier : (n : ℕ) → beside n ≡ true → (there n ≡ true) × ComesEarlier n group numbers
  pub many : AreTooMany o (picked (chosen_row (with_one group beside) 0 numbers) sprites)

-- The groups that are on a sheet: the first one, and each other one that isn't too many then.
pub record AreGroupsThere (o : SheetOptions) (sprites : List Size) (numbers : List (Option ℕ)) (there : ℕ → Bool)
    : Type 0 where
  pub first : ℕ
  pub is_first : IsFirstGroup first numbers
  pub opened : there first ≡ true
  pub others : (group : ℕ) → HasMember group numbers → there group ≡ false
      → IsLeftOut o sprites numbers first there group

-- The sprites on a sheet with groups: the groups that are there, and of those in no group the first ones, all of them or
-- so many that with the next one they are too many.
pub record AreSpritesThere (o : SheetOptions) (sprites : List Size) (numbers : List (Option ℕ)) (row : List Bool)
    : Type 0 where
  pub there : ℕ → Bool
  pub groups : AreGroupsThere o sprites numbers there
  pub many : ℕ
  pub chosen : row ≡ chosen_row there many numbers
  pub full : (many ≡ count_by is_none numbers) ⊎ AreTooMany o (picked (chosen_row there (suc many) numbers) sprites)

-- A sheet on which groups lie. No others asked there than those that lie there.
abbrev pub IsGroupSheet : SheetOptions → List Size → (numbers : List (Option ℕ)) → Sides → List (Option Placed) → Type 0
IsGroupSheet o sprites numbers sheet placed =
    AreSpritesThere o sprites numbers (map is_some placed)
    × IsPage WAYS o (those_placed placed sprites) sheet (those_placed placed placed)

-- The next sheet: with groups on it, as long as one waits.
abbrev pub IsNextSheet : SheetOptions → List Size → (numbers : List (Option ℕ)) → Sides → List (Option Placed) → Type 0
IsNextSheet o sprites numbers sheet placed =
    (All IsNone numbers × IsPage WAYS o sprites sheet placed) ⊎ IsGroupSheet o sprites numbers sheet placed

-- The numbers of the sprites that lie on no earlier sheet than this.
abbrev pub numbers_from : (page : ℕ) → List (Option ℕ) → List (Option OnPage) → List (Option ℕ)
numbers_from page numbers places = picked (map (is_from page) places) numbers

-- A group is kept, or no way packs it alone and none of its sprites counts as one of a group.
abbrev pub IsKept : SheetOptions → List Size → (groups kept : List (Option ℕ)) → (group : ℕ) → Type 0
IsKept o sprites groups kept group =
    (NoWayFinds o (members group groups sprites) × All (λ g. g ≢ Some group) kept)
    ⊎ (map (is_in group) kept ≡ map (is_in group) groups)

-- The numbers of the groups that are kept, none for the sprites of the others.
pub record AreKept (o : SheetOptions) (sprites : List Size) (groups kept : List (Option ℕ)) : Type 0 where
  pub long : length kept ≡ length groups
  pub each : (group : ℕ) → IsKept o sprites groups kept group

-- One such sheet after another, each for the sprites that lie on no earlier one.
abbrev pub AreNextSheets : SheetOptions → (sprites : List Size) → (kept : List (Option ℕ)) → (sizes : List Size)
    → List (Option OnPage) → Type 0
AreNextSheets o sprites kept sizes places =
    (page : ℕ) → page < length sizes
    → IsNextSheet o (sprites_from page sprites places) (numbers_from page kept places) (page_sides sizes page)
    (places_on page places)

-- Groups that no way packs alone are given up first; then comes one sheet after another for the others and for the
-- sprites in no group.
pub record AreGroupSheets (o : SheetOptions) (sprites : List Size) (groups : List (Option ℕ)) (sizes : List Size)
    (places : List (Option OnPage)) : Type 0 where
  pub kept : List (Option ℕ)
  pub are_kept : AreKept o sprites groups kept
  pub sheets : AreNextSheets o sprites kept sizes places

-- Where a group's number stands among numbers.
abbrev pub IsSlotIn : (sorted : List ℕ) → (number slot : Option ℕ) → Type 0
IsSlotIn sorted number slot = IfSome slot (λ s. slice_get sorted s ≡ number)

-- A row says the same of each sprite of a group.
abbrev pub SaysOf : (whether : ℕ → Bool) → Option ℕ → Bool → Type 0
SaysOf whether g b = IfSome g (λ n. b ≡ whether n)

-- A row that says the same of each sprite of a group, and yes of one group that there is.
pub record IsClosed (groups : List (Option ℕ)) (row : List Bool) : Type 0 where
  pub whether : ℕ → Bool
  pub same : AllZip (SaysOf whether) groups row
  pub first : ℕ
  pub there : HasMember first groups
  pub chosen : whether first ≡ true

-- The sprites where a row says so, and how all of them lie on one sheet.
pub record AreChosen {A : Type 0} (o : SheetOptions) (sprites : List Size) (groups : List (Option ℕ)) (chosen : Chosen A)
    : Type 0 where
  pub long : length chosen.row.items ≡ length sprites
  pub closed : IsClosed groups chosen.row.items
  pub arranged : IsArranged o (picked chosen.row.items sprites) chosen.page
  pub allowed : IsAllowed o.allowed (sides_of chosen.page.size)
  pub whole : All IsSome chosen.page.places.items

-- What was found, where a row says so.
abbrev pub spread : List Bool → (found : List (Option Placed)) → List (Option Placed)
spread [] found = []
spread (false ∷ row) found = None ∷ spread row found
spread (true ∷ row) [] = None ∷ spread row []
spread (true ∷ row) (f ∷ found) = f ∷ spread row found

-- The number of the sheet on which a sprite lies.
abbrev pub page_number : Option OnPage → Option ℕ
page_number None = None
page_number (Some p) = Some p.page

-- Where the sprites of a group lie, if they do.
abbrev pub LiesAs : (page_of : ℕ → Option ℕ) → Option ℕ → Option OnPage → Type 0
LiesAs page_of g p = IfSome g (λ n. page_number p ≡ page_of n)

-- Sheets for some of the sprites, so far. The groups that are still kept lie on one sheet or on none; each of the others
-- no way packs.
pub record AreSoFar (o : SheetOptions) (sprites : List Size) (groups : List (Option ℕ)) (sizes : List Size)
    (places : List (Option OnPage)) (left : List Size) (kept : List (Option ℕ)) : Type 0 where
  pub are : AreGroupPages WAYS o sprites sizes places
  pub rest : left ≡ sprites_left sprites places
  pub page_of : ℕ → Option ℕ
  pub same : AllZip (LiesAs page_of) kept places
  pub are_kept : AreKept o sprites groups kept
  pub sheets : AreNextSheets o sprites kept sizes places

-- The same, of sheets as they are kept.
abbrev pub IsSoFar : {A : Type 0} → SheetOptions → (sprites : List Size) → (groups : List (Option ℕ)) → SoFar A → Type 0
IsSoFar o sprites groups s = AreSoFar o sprites groups s.sizes.items s.places.items s.left.items s.kept.items

-- What is left to be done: sprites in groups, and for as many of these as there are sprites without a place.
abbrev pub to_do : (sprites left : List Size) (kept : List (Option ℕ)) → ℕ
to_do sprites left kept = count_by is_some kept * suc (length sprites) + length left
