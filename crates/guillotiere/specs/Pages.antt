-- Several atlases in a list, as pages of a texture array: what a call of one of them does to the list.
use Rattle.std.specs.Prelude.{◌≡◌, ◌≢◌, ◌<◌, ℕ, List, Option, Some, None, Result, map, slice_get}
use Rattle.std.specs.Option.{option_and_then}
use Rattle.atlas_model.specs.declared.allocation.Allocation.{Allocation}
use Rattle.atlas_model.specs.declared.error.AtlasError.{AtlasError}
use Rattle.atlas_model.specs.declared.geometry.Rectangle.{Rectangle}
use Rattle.atlas_model.specs.declared.geometry.Size.{Size}
use Rattle.atlas_model.specs.Boxes.{IsWithin}
use Rattle.atlas_model.specs.Choice.{HasRoom}
use Rattle.atlas_model.specs.Pixels.{box_of, sides_of, size_of}
use Rattle.atlas_model.specs.States.{free_in}
use Rattle.atlas_model.specs.Callers.{rectangle_in, AddsBox, IsAnswer, LeavesNoBox, RectanglesLieApart}
use Rattle.atlas_store.specs.Reserves.{HasReserve, UsesAtMost}
use Rattle.atlas_store.specs.Stored.{AtlasValue, state_of}

-- The rectangle of an id that is live on a page.
abbrev pub rectangle_on : List AtlasValue → (page id : ℕ) → Option Rectangle
rectangle_on pages page id = option_and_then (λ s. rectangle_in (state_of s) id) (slice_get pages page)

-- The size of a page, in pixels.
abbrev pub size_of_page : AtlasValue → Size
size_of_page s = size_of (state_of s).size

-- The sizes of all pages.
abbrev pub page_sizes : List AtlasValue → List Size
page_sizes pages = map size_of_page pages

-- Every page but one stays as it is.
abbrev pub KeepsPages : (old new : List AtlasValue) → (page : ℕ) → Type 0
KeepsPages old new page = (k : ℕ) → k ≢ page → slice_get new k ≡ slice_get old k

-- Each id of each page has the rectangle that it had.
abbrev pub HasSameRectangles : (old new : List AtlasValue) → Type 0
HasSameRectangles old new = (k i : ℕ) → rectangle_on new k i ≡ rectangle_on old k i

-- The same of each but one id of one page.
abbrev pub OthersHaveSame : (old new : List AtlasValue) → (page id : ℕ) → Type 0
OthersHaveSame old new page id = (k i : ℕ) → (k ≡ page → i ≢ id) → rectangle_on new k i ≡ rectangle_on old k i

-- On one page an id that wasn't live has this rectangle; all else stays.
pub record AddsBoxOn (old new : List AtlasValue) (page id : ℕ) (r : Rectangle) : Type 0 where
  pub adds : (s t : AtlasValue) → slice_get old page ≡ Some s → slice_get new page ≡ Some t
      → AddsBox (state_of s) (state_of t) id (box_of r)
  pub others : KeepsPages old new page
  pub unused : rectangle_on old page id ≡ None
  pub here : rectangle_on new page id ≡ Some r
  pub same : OthersHaveSame old new page id

-- On one page an id has no box; all else stays.
pub record LeavesNoBoxOn (old new : List AtlasValue) (page id : ℕ) : Type 0 where
  pub leaves : (s t : AtlasValue) → slice_get old page ≡ Some s → slice_get new page ≡ Some t
      → LeavesNoBox (state_of s) (state_of t) id
  pub others : KeepsPages old new page
  pub gone : rectangle_on new page id ≡ None
  pub same : OthersHaveSame old new page id

-- What a request to a page is answered.
abbrev pub IsAnswerOn : List AtlasValue → (page : ℕ) → Size → Result (Option Allocation) AtlasError → Type 0
IsAnswerOn pages page request result =
    (s : AtlasValue) → slice_get pages page ≡ Some s → IsAnswer (state_of s) request result

-- A page has so many slots in reserve.
abbrev pub HasReserveOn : ℕ → List AtlasValue → (page : ℕ) → Type 0
HasReserveOn n pages page = (s : AtlasValue) → slice_get pages page ≡ Some s → HasReserve n s

-- At most n more slots of a page are used, and there is memory for no fewer.
abbrev pub UsesAtMostOn : ℕ → (old new : List AtlasValue) → (page : ℕ) → Type 0
UsesAtMostOn n old new page =
    (s t : AtlasValue) → slice_get old page ≡ Some s → slice_get new page ≡ Some t → UsesAtMost n s t

-- A request has room in an atlas.
abbrev pub HasRoomFor : Size → AtlasValue → Type 0
HasRoomFor request s = HasRoom (free_in (state_of s)) (state_of s).options (sides_of request)

-- A request has room on this page.
abbrev pub HasRoomOn : Size → List AtlasValue → (page : ℕ) → Type 0
HasRoomOn request pages page = (s : AtlasValue) → slice_get pages page ≡ Some s → HasRoomFor request s

-- A request has room on none of the first n pages.
abbrev pub NoneHasRoomBelow : Size → List AtlasValue → (n : ℕ) → Type 0
NoneHasRoomBelow request pages n =
    (k : ℕ) (s : AtlasValue) → k < n → slice_get pages k ≡ Some s → HasRoomFor request s → ⊥

-- The rectangles of any two ids of a page lie apart.
abbrev pub AllLieApartOn : List AtlasValue → (page : ℕ) → Type 0
AllLieApartOn pages page =
    (i j : ℕ) (r q : Rectangle) → i ≢ j → rectangle_on pages page i ≡ Some r → rectangle_on pages page j ≡ Some q
    → RectanglesLieApart r q

-- The rectangle of each id of a page lies within it.
abbrev pub AllLieWithinOn : List AtlasValue → (page : ℕ) → Type 0
AllLieWithinOn pages page =
    (i : ℕ) (r : Rectangle) (s : AtlasValue) → slice_get pages page ≡ Some s → rectangle_on pages page i ≡ Some r
    → IsWithin (state_of s).size (box_of r)

-- A grant on a page that is freed leaves no trace.
abbrev pub PagesAreGivenBack : Type 0
PagesAreGivenBack =
    (old mid new : List AtlasValue) (page id : ℕ) (r : Rectangle) → AddsBoxOn old mid page id r
    → LeavesNoBoxOn mid new page id → HasSameRectangles old new
