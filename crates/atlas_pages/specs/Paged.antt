-- Pages of a texture array that come where no other has room, and go where nothing is on them.
use Rattle.std.specs.Prelude.{◌≡◌, ◌≢◌, ◌⊎◌, ◌+◌, ◌<◌, ◌≤◌, ◌<ℤ◌, ℕ, List, [], ◌∷◌, ◌++◌}
use Rattle.std.specs.Prelude.{Option, Result, Ok, Err, None, Some, IfOk, IfSome, OnErr, length, slice_get}
use Rattle.guillotiere.specs.declared.Allocation.{Allocation}
use Rattle.guillotiere.specs.declared.AllocatorOptions.{AllocatorOptions}
use Rattle.guillotiere.specs.declared.AtlasError.{AtlasError}
use Rattle.guillotiere.specs.declared.AtlasError.TheVariants.{Memory}
use Rattle.guillotiere.specs.declared.Rectangle.{Rectangle}
use Rattle.guillotiere.specs.declared.Size.{Size}
use Rattle.guillotiere.specs.Boxes.{Fits, IsPositive, Sides}
use Rattle.guillotiere.specs.Callers.{AddsBox, HasFrame, IsGranted, KeepsAll}
use Rattle.guillotiere.specs.Choice.{AreValid, HasNoRoom, Options}
use Rattle.guillotiere.specs.Pages.{AddsBoxOn, HasSameRectangles, IsAnswerOn, KeepsPages, NoneHasRoomBelow}
use Rattle.guillotiere.specs.Pixels.{box_of, options_of, sides_of}
use Rattle.guillotiere.specs.Replies.{allocate_reply, grant_of, IsExact}
use Rattle.guillotiere.specs.States.{State, free_in, live_in, started}
use Rattle.guillotiere.specs.Steps.{AtlasCall, AtlasReply, Step}
use Rattle.guillotiere.specs.Steps.AtlasCall.{Allocate, Grow}
use Rattle.guillotiere.specs.Steps.AtlasReply.{Allocated, Refused}
use Rattle.guillotiere.specs.Stored.{AtlasValue, state_of}
use Rattle.atlas_pages.specs.declared.paged.PageAllocation.{PageAllocation}
use Rattle.atlas_pages.specs.declared.error.PagesError.{PagesError}
use Rattle.atlas_pages.specs.declared.error.PagesError.TheVariants as fault

-- What the atlas of each page stores, the size and the options with which pages are made, and how many there may be.
pub record PagedState : Type 0 where
  pub pages : List AtlasValue
  pub page_size : Size
  pub options : AllocatorOptions
  pub most : ℕ

-- What pages keep: their size isn't empty, their options are valid, and there are no more than there may be.
pub record KeepsPaged (s : PagedState) : Type 0 where
  pub size : IsPositive (sides_of s.page_size)
  pub options : AreValid (options_of s.options)
  pub few : length s.pages ≤ s.most

-- Pages are made as before, and as many.
pub record KeepsSettings (old new : PagedState) : Type 0 where
  pub page_size : new.page_size ≡ old.page_size
  pub options : new.options ≡ old.options
  pub most : new.most ≡ old.most

-- An empty page as it is made.
abbrev pub empty_page : PagedState → State
empty_page s = started (sides_of s.page_size) (options_of s.options) 16777216

-- The state of a page; of one that isn't there, an empty one.
abbrev pub state_at : (empty : State) → Option AtlasValue → State
state_at empty (Some v) = state_of v
state_at empty None = empty

-- The state of a page; of one that isn't there, as it is made.
abbrev pub state_on : PagedState → (page : ℕ) → State
state_on s page = state_at (empty_page s) (slice_get s.pages page)

-- The atlas of a page makes a step: of one that wasn't there, from an empty one.
abbrev pub StepsOn : (old new : PagedState) → (page : ℕ) → AtlasCall → AtlasReply → Type 0
StepsOn old new page call reply = Step (state_on old page) call reply (state_on new page)

-- The same of a list of pages, whatever an empty one is.
abbrev pub StepsAt : (old new : List AtlasValue) → (page : ℕ) → AtlasCall → AtlasReply → Type 0
StepsAt old new page call reply =
    (empty : State) → Step (state_at empty (slice_get old page)) call reply (state_at empty (slice_get new page))

-- What a request is granted on a page: on one that there was, or on the one that was added.
abbrev pub IsGrantedOn : PagedState → (request : Size) → (page : ℕ) → Rectangle → Type 0
IsGrantedOn s request page r = IsGranted (state_on s page) request r

-- A page that has one box, and was empty before.
pub record IsFirstOn (empty : State) (page : AtlasValue) (id : ℕ) (r : Rectangle) : Type 0 where
  pub was : AtlasValue
  pub state : state_of was ≡ empty
  pub exact : IsExact r
  pub adds : AddsBox (state_of was) (state_of page) id (box_of r)

-- No page has room for a request, and none is added: there are as many as there may be, or the request has no room on an empty page.
pub record AreSpent (request : Size) (s : PagedState) : Type 0 where
  pub none : NoneHasRoomBelow request s.pages (length s.pages)
  pub full : (length s.pages ≡ s.most) ⊎ HasNoRoom (free_in (empty_page s)) (options_of s.options) (sides_of request)

-- A page with one box on it comes last.
pub record JoinsPage (empty : State) (old new : List AtlasValue) (request : Size) (a : Allocation) : Type 0 where
  pub page : AtlasValue
  pub pages : new ≡ old ++ page ∷ []
  pub first : IsFirstOn empty page a.id a.rectangle
  pub step : Step empty (Allocate (sides_of request)) (Allocated (grant_of a)) (state_of page)
  pub granted : IsGranted empty request a.rectangle

-- The answer to a request to a page, with the page's number.
abbrev pub told : (page : ℕ) → Result (Option Allocation) AtlasError → Result (Option PageAllocation) AtlasError
told page (Ok (Some a)) = Ok (Some (record { page = page; id = a.id; rectangle = a.rectangle }))
told page (Ok None) = Ok None
told page (Err e) = Err e

-- The pages before this one have no room for a request, and this is its answer: it grants it, or refuses it by an error.
pub record IsFirstAnswer (old new : List AtlasValue) (request : Size) (page : ℕ) (result : Result (Option Allocation) AtlasError)
    : Type 0 where
  pub inside : page < length old
  pub first : NoneHasRoomBelow request old page
  pub some : result ≢ Ok None
  pub step : StepsAt old new page (Allocate (sides_of request)) (allocate_reply result)
  pub adds : IfOk result (λ granted. IfSome granted (λ a. AddsBoxOn old new page a.id a.rectangle))
  pub answer : IsAnswerOn old page request result
  pub refused : OnErr result (new ≡ old)

-- Why a request to a page that is to be added is refused: its atlas refuses it, or memory for the page is refused.
abbrev pub IsNewFault : (empty : State) → (request : Size) → AtlasError → Type 0
IsNewFault empty request error =
    Step empty (Allocate (sides_of request)) (Refused error) empty ⊎ (error ≡ Memory)

-- Why a request is refused: on the first page that has room for it, or on the one that is to be added, the atlas refuses it; or
-- memory for that page is refused.
pub record IsRefusedOn (request : Size) (s : PagedState) (error : AtlasError) : Type 0 where
  pub page : ℕ
  pub few : page < s.most
  pub number : page ≤ length s.pages
  pub first : NoneHasRoomBelow request s.pages page
  pub why :
      StepsOn s s page (Allocate (sides_of request)) (Refused error) ⊎ (length s.pages ≡ page) × (error ≡ Memory)

-- A page gets this size; no rectangle moves, and the other pages stay as they are.
pub record GrowsOn (old new : List AtlasValue) (page : ℕ) (size : Size) : Type 0 where
  pub there : (s t : AtlasValue) → slice_get old page ≡ Some s → slice_get new page ≡ Some t
      → KeepsAll (state_of s) (state_of t)
      × HasFrame (state_of t) (sides_of size) (state_of s).options (state_of s).limit
  pub others : KeepsPages old new page
  pub same : HasSameRectangles old new

-- Nothing is live on a page.
abbrev pub IsIdle : AtlasValue → Type 0
IsIdle s = live_in (state_of s) ≡ []

-- Nothing is live on the pages from the nth on and before the mth.
abbrev pub AreIdleAmong : List AtlasValue → (n m : ℕ) → Type 0
AreIdleAmong pages n m = (k : ℕ) (s : AtlasValue) → n ≤ k → k < m → slice_get pages k ≡ Some s → IsIdle s

-- Of the first n pages the last has something live, if there are any.
abbrev pub IsLastBusy : List AtlasValue → (n : ℕ) → Type 0
IsLastBusy pages n = (k : ℕ) (s : AtlasValue) → n ≡ k + 1 → slice_get pages k ≡ Some s → IsIdle s → ⊥

-- What an error says: the condition that fails, where those that are tested before it hold; or all hold, and the atlas refused.

-- Of the making of pages.
abbrev pub IsOptionsFault : Sides → Options → PagesError → Type 0
IsOptionsFault n o fault.EmptySize = IsPositive n → ⊥
IsOptionsFault n o fault.Alignment = IsPositive n × (IsPositive o.alignment → ⊥)
IsOptionsFault n o fault.Thresholds = IsPositive n × IsPositive o.alignment × (o.large_threshold <ℤ o.small_threshold)
IsOptionsFault n o e = ⊥

-- Of a growth of an atlas.
abbrev pub IsGrowthFaultIn : AtlasValue → Size → PagesError → Type 0
IsGrowthFaultIn s size fault.Shrinks = Fits (state_of s).size (sides_of size) → ⊥
IsGrowthFaultIn s size (fault.Refused e) = Step (state_of s) (Grow (sides_of size)) (Refused e) (state_of s)
IsGrowthFaultIn s size e = ⊥

-- Of a growth of a page.
abbrev pub IsGrowthFault : List AtlasValue → (page : ℕ) → Size → PagesError → Type 0
IsGrowthFault pages page size fault.NoPage = length pages ≤ page
IsGrowthFault pages page size e =
    (page < length pages) × ((s : AtlasValue) → slice_get pages page ≡ Some s → IsGrowthFaultIn s size e)
