-- What a call does with boxes on several pages.
use Rattle.std.specs.Prelude.{◌≡◌, ◌+◌, ◌<◌, ℕ, [], length, max, sum_by, take, IfErr, IfOk, IfSome, OnErr, Option, Some, None}
use Rattle.std.specs.Prelude.{Result, Ok}
use Rattle.guillotiere.specs.declared.AllocatorOptions.{AllocatorOptions}
use Rattle.guillotiere.specs.declared.AtlasError.{AtlasError}
use Rattle.guillotiere.specs.declared.Size.{Size}
use Rattle.guillotiere.specs.Boxes.{area}
use Rattle.guillotiere.specs.Callers.{IsShortage}
use Rattle.guillotiere.specs.Pages.{page_sizes, rectangle_on, AddsBoxOn, HasSameRectangles, LeavesNoBoxOn, NoneHasRoomBelow}
use Rattle.guillotiere.specs.Pixels.{box_of, sides_of}
use Rattle.guillotiere.specs.States.{free_in, live_in}
use Rattle.guillotiere.specs.Steps.AtlasCall.{Allocate, Clear, Deallocate, Grow}
use Rattle.guillotiere.specs.Steps.AtlasReply.{Allocated, Done}
use Rattle.guillotiere.specs.Stored.{AtlasValue, state_of}
use Rattle.guillotiere.specs.Trees.{grant}
use Rattle.atlas_pages.specs.declared.error.PagesError.{PagesError}
use Rattle.atlas_pages.specs.declared.paged.PageAllocation.{PageAllocation}
use Rattle.atlas_pages.specs.Paged.{AreIdleAmong, AreSpent, GrowsOn, IsGrantedOn, IsGrowthFault, IsLastBusy, IsRefusedOn}
use Rattle.atlas_pages.specs.Paged.{KeepsSettings, PagedState, StepsOn}
use Rattle.guillotiere_c.specs.PagedNumbers.{pages_status}

-- No page yet: how pages are to be made, and how many there may be.
abbrev pub no_pages : Size → AllocatorOptions → (most : ℕ) → PagedState
no_pages size options most = record { pages = []; page_size = size; options = options; most = most }

-- A fact of the pages that are held: the handle holds a paged atlas, and it is so.
abbrev pub HoldsPaged : Option PagedState → (PagedState → Type 0) → Type 0
HoldsPaged None P = ⊥
HoldsPaged (Some s) P = P s

-- A fact of the pages that were held and of those that are held: the handle held a paged atlas and holds one, and it is so.
abbrev pub PagesGoOver : (old new : Option PagedState) → (PagedState → PagedState → Type 0) → Type 0
PagesGoOver (Some s) (Some t) R = R s t
PagesGoOver (Some s) None R = ⊥
PagesGoOver None new R = ⊥

-- What `PagedAtlas::allocate` does.
pub record IsPageRequest (request : Size) (result : Result (Option PageAllocation) AtlasError) (s t : PagedState) : Type 0 where
  pub step : IfOk result (λ granted. IfSome granted (λ a.
      StepsOn s t a.page (Allocate (sides_of request)) (Allocated (grant a.id (box_of a.rectangle)))))
  pub adds : IfOk result (λ granted. IfSome granted (λ a. AddsBoxOn s.pages t.pages a.page a.id a.rectangle))
  pub granted : IfOk result (λ granted. IfSome granted (λ a. IsGrantedOn s request a.page a.rectangle))
  pub first : IfOk result (λ granted. IfSome granted (λ a. NoneHasRoomBelow request s.pages a.page))
  pub count : IfOk result (λ granted. IfSome granted (λ a. length t.pages ≡ max (length s.pages) (a.page + 1)))
  pub spent : result ≡ Ok None → AreSpent request s
  pub settings : KeepsSettings s t
  pub none : result ≡ Ok None → t ≡ s
  pub refused : OnErr result (t ≡ s)
  pub fault : IfErr result (IsRefusedOn request s)
  pub errors : IfErr result IsShortage

-- What `PagedAtlas::deallocate` does with an id that is live on a page.
pub record IsPageFreeing (page id : ℕ) (s t : PagedState) : Type 0 where
  pub step : StepsOn s t page (Deallocate id) Done
  pub leaves : LeavesNoBoxOn s.pages t.pages page id
  pub count : length t.pages ≡ length s.pages
  pub settings : KeepsSettings s t

-- What `PagedAtlas::grow` does with a page that it makes larger.
pub record IsPageGrowth (page : ℕ) (size : Size) (s t : PagedState) : Type 0 where
  pub there : page < length s.pages
  pub step : StepsOn s t page (Grow (sides_of size)) Done
  pub grows : GrowsOn s.pages t.pages page size
  pub count : length t.pages ≡ length s.pages
  pub settings : KeepsSettings s t

-- Why `PagedAtlas::grow` doesn't, and its status.
pub record IsGrowthRefusal (page : ℕ) (size : Size) (status : ℕ) (s : PagedState) : Type 0 where
  pub error : PagesError
  pub told : status ≡ pages_status error
  pub fault : IsGrowthFault s.pages page size error

-- What `PagedAtlas::shrink` does, of which so many pages are left.
pub record IsPageShrinking (left : ℕ) (s t : PagedState) : Type 0 where
  pub pages : t.pages ≡ take left s.pages
  pub count : left ≡ length t.pages
  pub idle : AreIdleAmong s.pages left (length s.pages)
  pub busy : IsLastBusy s.pages left
  pub same : HasSameRectangles s.pages t.pages
  pub settings : KeepsSettings s t

-- What `PagedAtlas::clear` does.
pub record IsPageClearing (s t : PagedState) : Type 0 where
  pub each : (page : ℕ) → page < length s.pages → StepsOn s t page Clear Done
  pub idle : AreIdleAmong t.pages 0 (length t.pages)
  pub nothing : (page id : ℕ) → rectangle_on t.pages page id ≡ None
  pub sizes : page_sizes t.pages ≡ page_sizes s.pages
  pub settings : KeepsSettings s t

-- The area of all live boxes of a page, and that of all free ones.
abbrev pub live_area_of : AtlasValue → ℕ
live_area_of v = sum_by (λ g. area g.box) (live_in (state_of v))

abbrev pub free_area_of : AtlasValue → ℕ
free_area_of v = sum_by area (free_in (state_of v))
