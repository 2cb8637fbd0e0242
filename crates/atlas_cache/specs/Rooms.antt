-- The pages of a cache, each an atlas.
use Rattle.std.specs.Prelude.{◌≡◌, ◌≢◌, ◌⊎◌, ◌<◌, ◌≤◌, ◌+◌, ◌-◌, ◌*◌, ℕ, Bool, ◌&&◌, ◌||◌, min, nat_le, nat_lt}
use Rattle.std.specs.Prelude.{if◌then◌else◌, List, length, map, sum_by, Some, None, slice_get}
use Rattle.guillotiere.specs.declared.Rectangle.{Rectangle}
use Rattle.guillotiere.specs.declared.Size.{Size}
use Rattle.guillotiere.specs.Boxes.{area, box_sides, Fits, Sides}
use Rattle.guillotiere.specs.Choice.{rounded}
use Rattle.guillotiere.specs.Pages.{page_sizes, rectangle_on, HasRoomFor, NoneHasRoomBelow}
use Rattle.guillotiere.specs.Pixels.{box_of, natural, options_of, sides_of, size_of}
use Rattle.guillotiere.specs.Replies.{IsExact}
use Rattle.guillotiere.specs.States.{free_in, live_in, IsSound}
use Rattle.guillotiere.specs.Stored.{AtlasValue, Stored, state_of}
use Rattle.atlas_entries.specs.declared.error.CacheError.{CacheError}
use Rattle.atlas_entries.specs.declared.error.CacheError.TheVariants.{Memory, Slots}
use Rattle.atlas_cache.specs.declared.rooms.asking.Known.{Known}
use Rattle.atlas_cache.specs.declared.options.CacheOptions.{CacheOptions}
use Rattle.atlas_cache.specs.Asking.{AreUsable, bordered, CanStand}

-- What contracts see of the pages of a cache: its options, and the atlas of each page.
pub record RoomsState : Type 0 where
  pub options : CacheOptions
  pub pages : List AtlasValue

abbrev pub rooms_of : CacheOptions → List AtlasValue → RoomsState
rooms_of o pages = record { options = o; pages = pages }

-- What the atlas of each page stores.
abbrev pub stored_on : List AtlasValue → List Stored
stored_on pages = map (λ s. s.stored) pages

-- The atlas of a page: it is sound, has the options of the cache and the greatest limit on slots, and its size is from
-- `page` to `largest_page`.
pub record IsPageOf (o : CacheOptions) (s : AtlasValue) : Type 0 where
  pub sound : IsSound (state_of s)
  pub options : (state_of s).options ≡ options_of o.atlas
  pub limit : (state_of s).limit ≡ 16777216
  pub least : Fits (sides_of o.page) (state_of s).size
  pub most : Fits (state_of s).size (sides_of o.largest_page)

-- Each page is one of the cache.
abbrev pub ArePagesOf : CacheOptions → List AtlasValue → Type 0
ArePagesOf o pages = (k : ℕ) (s : AtlasValue) → slice_get pages k ≡ Some s → IsPageOf o s

-- What the pages of a cache keep: its options can be used, and there are no more pages than they allow.
pub record KeepsRooms (r : RoomsState) : Type 0 where
  pub usable : AreUsable r.options
  pub few : length r.pages ≤ r.options.pages
  pub each : ArePagesOf r.options r.pages

-- The area of what is live on a page, in unit squares.
abbrev pub live_area : AtlasValue → ℕ
live_area s = sum_by (λ g. area g.box) (live_in (state_of s))

-- The area of what is free on a page.
abbrev pub open_area : AtlasValue → ℕ
open_area s = sum_by area (free_in (state_of s))

-- What is kept of a page: two sizes that it has no room for, and the area of what is live on it.
pub record IsKnown (k : Known) (s : AtlasValue) : Type 0 where
  pub first : HasRoomFor k.first s → ⊥
  pub second : HasRoomFor k.second s → ⊥
  pub live : k.live ≡ live_area s

-- What is kept stands at the number of its page.
pub record AreKnown (pages : List AtlasValue) (known : List Known) : Type 0 where
  pub as_many : length known ≡ length pages
  pub each : (n : ℕ) (s : AtlasValue) (k : Known) → slice_get pages n ≡ Some s → slice_get known n ≡ Some k → IsKnown k s

-- What is free on a page has as many unit squares as this size, in however many parts.
abbrev pub has_area : Size → AtlasValue → Bool
has_area asked s = nat_le (natural asked.width * natural asked.height) (open_area s)

-- Memory was refused, or the slots of a page don't suffice.
abbrev pub IsRefusal : CacheError → Type 0
IsRefusal error = (error ≡ Memory) ⊎ (error ≡ Slots)

-- The rectangle has the coordinates of a box, and is at least this large.
pub record IsAtLeast (size : Size) (r : Rectangle) : Type 0 where
  pub exact : IsExact r
  pub wide : (box_of r).min.x + natural size.width ≤ (box_of r).max.x
  pub high : (box_of r).min.y + natural size.height ≤ (box_of r).max.y

-- The rectangle has just the sides that were asked for, rounded up to the alignment.
abbrev pub IsRounded : CacheOptions → (asked : Size) → Rectangle → Type 0
IsRounded o asked r = box_sides (box_of r) ≡ rounded (options_of o.atlas) (sides_of asked)

-- A page of these sides grows in width, and not in height: its width isn't the greater side, or its height is at its
-- largest.
abbrev pub grows_in_width : (largest sides : Sides) → Bool
grows_in_width largest sides =
    nat_lt sides.width largest.width && (nat_le sides.width sides.height || nat_le largest.height sides.height)

-- The sides that a page grows to: the side that grows is doubled, up to the largest.
abbrev pub grown_sides : (largest sides : Sides) → Sides
grown_sides largest sides =
    if grows_in_width largest sides
    then record sides { width = min (2 * sides.width) largest.width }
    else record sides { height = min (2 * sides.height) largest.height }

-- The first n pages have the largest size.
abbrev pub AreLargestBelow : (largest : Size) → List Size → (n : ℕ) → Type 0
AreLargestBelow largest sizes n = (k : ℕ) → k < n → slice_get sizes k ≡ Some largest

-- The first page that isn't at its largest, and the size that it grows to.
pub record IsFirstToGrow (o : CacheOptions) (sizes : List Size) (page : ℕ) (size : Size) : Type 0 where
  pub before : AreLargestBelow o.largest_page sizes page
  pub old : Size
  pub here : slice_get sizes page ≡ Some old
  pub smaller : old ≢ o.largest_page
  pub grows : size ≡ size_of (grown_sides (sides_of o.largest_page) (sides_of old))

-- Each page is at its largest.
abbrev pub AreAllLargest : CacheOptions → List Size → Type 0
AreAllLargest o sizes = AreLargestBelow o.largest_page sizes (length sizes)

-- Both sides of a size together.
abbrev pub both_sides : Size → ℕ
both_sides size = natural size.width + natural size.height

-- How far the pages can still grow and be added to: by what each page's sides together are less than the largest ones,
-- where a page that isn't there counts as one without any sides.
abbrev pub growth_left : CacheOptions → List Size → ℕ
growth_left o sizes =
    sum_by (λ size. both_sides o.largest_page - both_sides size) sizes
    + (o.pages - length sizes) * both_sides o.largest_page

-- A request has room on no page but those from one on and before another.
abbrev pub HasRoomOnlyAmong : Size → List AtlasValue → (from to : ℕ) → Type 0
HasRoomOnlyAmong request pages from to =
    (k : ℕ) (s : AtlasValue) → slice_get pages k ≡ Some s → HasRoomFor request s → (from ≤ k) × (k < to)

-- Nothing is live on any page.
abbrev pub IsNothingLive : List AtlasValue → Type 0
IsNothingLive pages = (page id : ℕ) → rectangle_on pages page id ≡ None

-- Where nothing is live on a page that is at its largest, whatever can stand on an empty page of the largest size has
-- room on some page.
abbrev pub LargestHasRoom : RoomsState → Type 0
LargestHasRoom r =
    (page : ℕ) (size : Size) → slice_get (page_sizes r.pages) page ≡ Some r.options.largest_page
    → ((id : ℕ) → rectangle_on r.pages page id ≡ None) → CanStand r.options size
    → NoneHasRoomBelow (size_of (bordered r.options size)) r.pages (length r.pages) → ⊥
