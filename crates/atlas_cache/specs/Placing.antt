-- What a placing on the pages of a cache does.
use Rattle.std.specs.Prelude.{◌≡◌, ◌≢◌, ◌⊎◌, ◌+◌, ◌<◌, ℕ, List, length, slice_get, Option, None, Some, Result, Ok, Err}
use Rattle.std.specs.Prelude.{IfErr, IfOk, IfSome, OnErr}
use Rattle.guillotiere.specs.declared.Allocation.{Allocation}
use Rattle.guillotiere.specs.declared.Size.{Size}
use Rattle.guillotiere.specs.Pages.{page_sizes, AddsBoxOn, HasRoomFor, NoneHasRoomBelow}
use Rattle.guillotiere.specs.Pixels.{options_of, sides_of}
use Rattle.guillotiere.specs.Replies.{grant_of}
use Rattle.guillotiere.specs.Changes.{only}
use Rattle.guillotiere.specs.States.{after_freeing, started, used_in}
use Rattle.guillotiere.specs.Steps.{Step}
use Rattle.guillotiere.specs.Steps.AtlasCall.{Allocate, Grow}
use Rattle.guillotiere.specs.Steps.AtlasReply.{Allocated, Done}
use Rattle.guillotiere.specs.Stored.{state_of, AtlasValue}
use Rattle.atlas_entries.specs.declared.error.CacheError.{CacheError}
use Rattle.atlas_entries.specs.declared.error.CacheError.TheVariants.{Memory, Slots}
use Rattle.atlas_cache.specs.declared.options.CacheOptions.{CacheOptions}
use Rattle.atlas_entries.specs.Entries.{no_page}
use Rattle.atlas_cache.specs.Reserving.{HaveSlots, IsShortOfSlots, UseAtMost}
use Rattle.atlas_cache.specs.Rooms.{IsAtLeast, IsFirstToGrow, IsRefusal, IsRounded, RoomsState}

-- The atlas of a page grants a request by a step of its own, which says where: in the free rectangle that it picks.
abbrev pub GrantsOn : (asked : Size) → (old new : List AtlasValue) → (page : ℕ) → Allocation → Type 0
GrantsOn asked old new page granted =
    (s t : AtlasValue) → slice_get old page ≡ Some s → slice_get new page ≡ Some t
    → Step (state_of s) (Allocate (sides_of asked)) (Allocated (grant_of granted)) (state_of t)

-- The atlas of a page grows to a size by a step of its own, which says where it has free rectangles then.
abbrev pub GrowsOn : Size → (old new : List AtlasValue) → (page : ℕ) → Type 0
GrowsOn size old new page =
    (s t : AtlasValue) → slice_get old page ≡ Some s → slice_get new page ≡ Some t
    → Step (state_of s) (Grow (sides_of size)) Done (state_of t)

-- The atlas of a page frees an id by a step of its own: its tree is that of the freeing.
abbrev pub FreesOn : (old new : List AtlasValue) → (page id : ℕ) → Type 0
FreesOn old new page id =
    (s t : AtlasValue) → slice_get old page ≡ Some s → slice_get new page ≡ Some t
    → state_of t ≡ after_freeing (state_of s) (only id)

-- The atlas of a page begins as a single free rectangle, with the options of the cache and the greatest limit on slots.
abbrev pub StartsOn : CacheOptions → List AtlasValue → (page : ℕ) → Type 0
StartsOn o pages page =
    (s : AtlasValue) → slice_get pages page ≡ Some s
    → state_of s ≡ started (sides_of o.page) (options_of o.atlas) 16777216

-- A request is granted on this page, the first that has room for it, with the sides that were asked for, rounded up to
-- the alignment. Every other rectangle stays.
pub record PlacesOn (asked : Size) (old new : RoomsState) (page : ℕ) (granted : Allocation) : Type 0 where
  pub step : GrantsOn asked old.pages new.pages page granted
  pub adds : AddsBoxOn old.pages new.pages page granted.id granted.rectangle
  pub large : IsAtLeast asked granted.rectangle
  pub sides : IsRounded old.options asked granted.rectangle
  pub first : NoneHasRoomBelow asked old.pages page
  pub there : page < length old.pages
  pub numbered : page < no_page

-- The first page that has room for a request uses all but 3 at most of the slots that there can be.
pub record IsFirstShort (asked : Size) (pages : List AtlasValue) : Type 0 where
  pub page : ℕ
  pub here : AtlasValue
  pub is : slice_get pages page ≡ Some here
  pub room : HasRoomFor asked here
  pub first : NoneHasRoomBelow asked pages page
  pub most : 16777216 < used_in (state_of here) + 4

-- The first page that isn't at its largest uses all but 2 at most of them.
pub record IsGrowthShort (o : CacheOptions) (pages : List AtlasValue) : Type 0 where
  pub page : ℕ
  pub size : Size
  pub first : IsFirstToGrow o (page_sizes pages) page size
  pub here : AtlasValue
  pub is : slice_get pages page ≡ Some here
  pub most : 16777216 < used_in (state_of here) + 3

-- What a request is refused slots for: a page with room for it is short of them, the first; or none has room, and the page that would
-- grow for it is short.
abbrev pub LacksSlots : Size → CacheOptions → List AtlasValue → Type 0
LacksSlots asked o pages =
    IsFirstShort asked pages ⊎ (NoneHasRoomBelow asked pages (length pages) × IsGrowthShort o pages)

-- A request is granted on the first page before a number that has room for it; none is, if none of these has. Unless it is granted,
-- nothing changes. It takes at most 4 slots of a page, and memory only where fewer are in reserve; it is refused for want of
-- slots only where that first page is short of them.
pub record PlacesBefore (to : ℕ) (asked : Size) (old new : RoomsState)
    (result : Result (Option (ℕ × Allocation)) CacheError) : Type 0 where
  pub placed : IfOk result (λ placed. IfSome placed (λ place. PlacesOn asked old new place.0 place.1))
  pub before : IfOk result (λ placed. IfSome placed (λ place. place.0 < to))
  pub full : result ≡ Ok None → NoneHasRoomBelow asked old.pages to
  pub none : result ≡ Ok None → new ≡ old
  pub refused : OnErr result (new ≡ old)
  pub errors : IfErr result IsRefusal
  pub short : result ≡ Err Slots → IsShortOfSlots old.pages
  pub lacks : result ≡ Err Slots → IsFirstShort asked old.pages
  pub sizes : page_sizes new.pages ≡ page_sizes old.pages
  pub options : new.options ≡ old.options
  pub slots : UseAtMost 4 old.pages new.pages
  pub memory : HaveSlots 4 old.pages → result ≢ Err Memory

-- The same on the first of all pages.
abbrev pub PlacesFirst : (asked : Size) → (old new : RoomsState) → Result (Option (ℕ × Allocation)) CacheError → Type 0
PlacesFirst asked old new result = PlacesBefore (length old.pages) asked old new result
