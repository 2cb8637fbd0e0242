-- One page of a list becomes another, or one comes last: what that makes of the sizes, and of what each page keeps.
use Rattle.std.proofs.Common.{◌≡◌, ◌+◌, ◌<◌, ◌++◌, ◌∷◌, [], ℕ, zero, suc, List, Option, None, Some, Ok, IfSome, length, get_or}
use Rattle.std.proofs.Common.{slice_get, slice_set, refl, sym, ap, ◌∙◌, subst, inl, inr, arith, length-append, IsSome}
use Rattle.std.proofs.lemmas.Bool.Decides.{eqb_tells}
use Rattle.std.proofs.lemmas.List.{length-map, length-set, map-set}
use Rattle.std.proofs.lemmas.Option.{slice_get-get_or, slice_get-map, slice_get_cases, slice_get_within}
use Rattle.std.proofs.Math.Seq.{map-set_same}
use Rattle.guillotiere.specs.declared.Allocation.{Allocation}
use Rattle.guillotiere.specs.declared.Rectangle.{Rectangle}
use Rattle.guillotiere.specs.declared.Size.{Size}
use Rattle.guillotiere.specs.Boxes.{Fits, Sides}
use Rattle.guillotiere.specs.Callers.{AddsBox, HasFrame, HasSameBoxes, IsAnswer, KeepsFrame, LeavesNoBox}
use Rattle.guillotiere.specs.Choice.{rounded, Options}
use Rattle.guillotiere.specs.Pages.{rectangle_on, AddsBoxOn, HasRoomFor, HasRoomOn, HasSameRectangles, KeepsPages, LeavesNoBoxOn}
use Rattle.guillotiere.specs.Pages.{page_sizes, size_of_page, NoneHasRoomBelow}
use Rattle.guillotiere.specs.Pixels.{box_of, options_of, sides_of, size_of}
use Rattle.guillotiere.specs.Replies.{IsExact}
use Rattle.guillotiere.specs.Changes.{only}
use Rattle.guillotiere.specs.States.{after_freeing, IsLive, IsSound, live_in, started, State}
use Rattle.guillotiere.specs.Stored.{AtlasValue, state_of}
use Rattle.guillotiere.proofs.Callers.{page_adds, page_goes, page_is, page_keeps, page_leaves, page_lives, page_stays, same_boxes}
use Rattle.guillotiere.proofs.ListLemmas.CallerLemmas.{slice_get-set_here, slice_get-set_other}
use Rattle.atlas_cache.specs.declared.options.CacheOptions.{CacheOptions}
use Rattle.atlas_cache.specs.Asking.{AreUsable}
use Rattle.atlas_cache.specs.Placing.{FreesOn}
use Rattle.atlas_cache.specs.Rooms.{ArePagesOf, HasRoomOnlyAmong, IsPageOf, IsRounded, KeepsRooms, rooms_of}

-- A page of a cache that stays sound, keeps its options and grows no further than it may is one still.
pub page_grows : (o : CacheOptions) (a b : AtlasValue) (n : Sides) → IsSound (state_of b)
    → HasFrame (state_of b) n (state_of a).options (state_of a).limit → Fits (state_of a).size n
    → Fits n (sides_of o.largest_page) → IsPageOf o a → IsPageOf o b
page_grows o a b n sound frame larger small was = record {
  sound = sound;
  options = frame.options ∙ was.options;
  limit = frame.limit ∙ was.limit;
  least = subst (Fits (sides_of o.page)) (sym frame.size)
      (omega (arith, was.least.0, larger.0), omega (arith, was.least.1, larger.1));
  most = subst (λ k. Fits k (sides_of o.largest_page)) (sym frame.size) small;
}

-- One that keeps its size is one still.
still_page : (o : CacheOptions) (a b : AtlasValue) → IsSound (state_of b) → KeepsFrame (state_of a) (state_of b)
    → IsPageOf o a → IsPageOf o b
still_page o a b sound frame was =
    page_grows o a b (state_of a).size sound frame (omega arith, omega arith) was.most was

-- A new page is one of the cache.
pub new_is_page : (o : CacheOptions) (s : AtlasValue) → AreUsable o → IsSound (state_of s)
    → state_of s ≡ started (sides_of o.page) (options_of o.atlas) 16777216 → IsPageOf o s
new_is_page o s usable sound new =
    let size : (state_of s).size ≡ sides_of o.page = ap (λ (t : State). t.size) new in
    record {
      sound = sound;
      options = ap (λ (t : State). t.options) new;
      limit = ap (λ (t : State). t.limit) new;
      least = subst (Fits (sides_of o.page)) (sym size) (omega arith, omega arith);
      most = subst (λ k. Fits k (sides_of o.largest_page)) (sym size) usable.largest;
    }

-- The size of a page, by its number.
pub size_at : (pages : List AtlasValue) (page : ℕ) (s : AtlasValue) → slice_get pages page ≡ Some s
    → slice_get (page_sizes pages) page ≡ Some (size_of_page s)
size_at pages page s is = rw (slice_get-map size_of_page pages page, is) refl

-- The size of a page that was read, by its number.
pub size_read : (pages : List AtlasValue) (page : ℕ) (s : AtlasValue) (size : Size) → page < length pages
    → s ≡ get_or pages page s → size ≡ size_of_page s → slice_get (page_sizes pages) page ≡ Some size
size_read pages page s size within is has =
    size_at pages page s (slice_get-get_or pages page s within ∙ ap Some (sym is)) ∙ ap Some (sym has)

-- The page of a size, by its number.
pub page_at : (pages : List AtlasValue) (page : ℕ) (size : Size) → slice_get (page_sizes pages) page ≡ Some size
    → (s : AtlasValue) × (slice_get pages page ≡ Some s) × (size_of_page s ≡ size) × (page < length pages)
page_at pages page size is = elim (slice_get_cases pages page).1 [
  | inl one ↦ let had = size_at pages page one.0 one.2 in (one.0, one.2, cc, one.1)
  | inr past ↦ let none = rw (slice_get-map size_of_page pages page, past.1) at is in cc
]

-- One page of a list, a, becomes b.
module _ (pages : List AtlasValue) (page : ℕ) (a b : AtlasValue) (is : a ≡ get_or pages page a) (within : page < length pages) where
  pub has_a : slice_get pages page ≡ Some a
  has_a = slice_get-get_or pages page a within ∙ ap Some (sym is)

  pub takes : (granted : Option Allocation) → IfSome granted (λ g. IsExact g.rectangle)
      → IfSome granted (λ g. AddsBox (state_of a) (state_of b) g.id (box_of g.rectangle))
      → IfSome granted (λ g. AddsBoxOn pages (slice_set pages page b) page g.id g.rectangle)
  takes None exact adds = tt
  takes (Some g) exact adds =
      page_adds pages page a b within g.id g.rectangle exact
      (subst (λ s. AddsBox (state_of s) (state_of b) g.id (box_of g.rectangle)) is adds)

  pub others_kept : KeepsPages pages (slice_set pages page b) page
  others_kept k other = slice_get-set_other pages page k b other

  pub gives_back : (id : ℕ) → LeavesNoBox (state_of a) (state_of b) id
      → LeavesNoBoxOn pages (slice_set pages page b) page id
  gives_back id leaves =
      page_leaves pages page a b within id (subst (λ s. LeavesNoBox (state_of s) (state_of b) id) is leaves)

  pub frees : (id : ℕ) → state_of b ≡ after_freeing (state_of a) (only id)
      → FreesOn pages (slice_set pages page b) page id
  frees id step =
      page_goes pages page a b within (λ s t. state_of t ≡ after_freeing (state_of s) (only id))
      (subst (λ s. state_of b ≡ after_freeing (state_of s) (only id)) is step)

  pub id_lives : (id : ℕ) → IsSome (rectangle_on pages page id) → IsLive (state_of a) id
  id_lives id shown =
      subst (λ s. IsLive (state_of s) id) (sym is) ((page_lives pages page a b within id).1 shown)

  -- What holds of the page that was read holds of the one with its number.
  pub page_has : (P : AtlasValue → Type 0) → P a → (s : AtlasValue) → slice_get pages page ≡ Some s → P s
  page_has P holds = page_is pages page a b within P (subst P is holds)

  pub rectangles_stay : live_in (state_of b) ≡ live_in (state_of a) → HasSameRectangles pages (slice_set pages page b)
  rectangles_stay live =
      page_keeps pages page a b within
      (subst (λ s. HasSameBoxes (state_of s) (state_of b)) is (same_boxes (state_of a) (state_of b) live))

  pub nothing_changes : b ≡ a → slice_set pages page b ≡ pages
  nothing_changes same = page_stays pages page a b within (same ∙ is)

  pub sizes_stay : KeepsFrame (state_of a) (state_of b) → page_sizes (slice_set pages page b) ≡ page_sizes pages
  sizes_stay frame = map-set_same size_of_page pages page b a (ap size_of frame.size ∙ ap size_of_page is)

  pub sizes_set : (size : Size) → size_of_page b ≡ size
      → page_sizes (slice_set pages page b) ≡ slice_set (page_sizes pages) page size
  sizes_set size same = map-set size_of_page pages page b ∙ ap (slice_set (page_sizes pages) page) same

  pages_keep : (o : CacheOptions) → (IsPageOf o a → IsPageOf o b) → ArePagesOf o pages
      → ArePagesOf o (slice_set pages page b)
  pages_keep o keeps each k s s_is = elim (eqb_tells k page) [
    | inl eq ↦
        let here = rw (eq.1, slice_get-set_here pages page b within) at s_is in
        let same : b ≡ s = cc in
        subst (IsPageOf o) same (keeps (each page a has_a))
    | inr ne ↦ each k s (sym (slice_get-set_other pages page k b ne.1) ∙ s_is)
  ]

  pub rooms_keep : (o : CacheOptions) → (IsPageOf o a → IsPageOf o b) → KeepsRooms (rooms_of o pages)
      → KeepsRooms (rooms_of o (slice_set pages page b))
  rooms_keep o keeps was = record {
    usable = was.usable;
    few = rw (length-set pages page b) was.few;
    each = pages_keep o keeps was.each;
  }

  -- What is granted on the page has the sides that were asked for, rounded as the cache's options say.
  pub rounded_as : (o : CacheOptions) → KeepsRooms (rooms_of o pages) → (asked : Size) (granted : Option Allocation)
      → IsAnswer (state_of a) asked (Ok granted) → IfSome granted (λ g. IsRounded o asked g.rectangle)
  rounded_as o kept asked None answer = tt
  rounded_as o kept asked (Some g) answer =
      answer.sides ∙ ap (λ (k : Options). rounded k (sides_of asked)) (kept.each page a has_a).options

  -- Where nothing is granted, the request has no room on the page.
  pub no_room : (asked : Size) (granted : Option Allocation) → granted ≡ None
      → IsAnswer (state_of a) asked (Ok granted) → HasRoomOn asked pages page → ⊥
  no_room asked granted none answer room =
      let no : HasRoomFor asked a → ⊥ = subst (λ (o : Option Allocation). IsAnswer (state_of a) asked (Ok o)) none answer in
      no (room a has_a)

  pub rooms_stay : (o : CacheOptions) → IsSound (state_of b) → KeepsFrame (state_of a) (state_of b)
      → KeepsRooms (rooms_of o pages) → KeepsRooms (rooms_of o (slice_set pages page b))
  rooms_stay o sound frame = rooms_keep o (still_page o a b sound frame)

-- A page comes last.
pages_joined : (o : CacheOptions) (pages : List AtlasValue) (b : AtlasValue) → IsPageOf o b → ArePagesOf o pages
    → ArePagesOf o (pages ++ b ∷ [])
pages_joined o [] b joins each zero s is = let same : b ≡ s = cc in subst (IsPageOf o) same joins
pages_joined o [] b joins each (suc k) s is = cc
pages_joined o (p ∷ pages) b joins each zero s is = each zero s is
pages_joined o (p ∷ pages) b joins each (suc k) s is = pages_joined o pages b joins (λ j t there. each (suc j) t there) k s is

pub rooms_joined : (o : CacheOptions) (pages : List AtlasValue) (b : AtlasValue) → IsPageOf o b → length pages < o.pages
    → KeepsRooms (rooms_of o pages) → KeepsRooms (rooms_of o (pages ++ b ∷ []))
rooms_joined o pages b joins less was = record {
  usable = was.usable;
  few = rw (length-append pages (b ∷ [])) (omega (arith, less));
  each = pages_joined o pages b joins was.each;
}

-- The rectangle of an id of a page: there is that page.
pub page_of : (pages : List AtlasValue) (page id : ℕ) → IsSome (rectangle_on pages page id) → page < length pages
page_of pages page id some = elim (slice_get_cases pages page).1 [
  | inl one ↦ one.1
  | inr past ↦ let no = rw past.1 at some in cc
]

-- A rectangle is on a page.
pub on_page : (pages : List AtlasValue) (page id : ℕ) (r : Rectangle) → rectangle_on pages page id ≡ Some r
    → (s : AtlasValue) × (slice_get pages page ≡ Some s) × (page < length pages)
on_page pages page id r is_r = elim (slice_get_cases pages page).1 [
  | inl one ↦ (one.0, one.2, one.1)
  | inr past ↦ let none = rw past.1 at is_r in cc
]

-- There are as many pages as sizes.
pub as_many : (old new : List AtlasValue) → page_sizes new ≡ page_sizes old → length new ≡ length old
as_many old new same =
    sym (length-map new size_of_page) ∙ ap length same ∙ length-map old size_of_page

-- Where a request had room on no page, and one page alone has changed since, no other has room.
pub only_changed : (request : Size) (old new : List AtlasValue) (page : ℕ) → NoneHasRoomBelow request old (length old)
    → KeepsPages old new page → HasRoomOnlyAmong request new page (page + 1)
only_changed request old new page none stay k s is room = elim (eqb_tells k page) [
  | inl here ↦ (omega (arith, here.1), omega (arith, here.1))
  | inr other ↦
      let was = sym (stay k other.1) ∙ is in
      absurd (none k s (slice_get_within old k s was) was room)
]

-- Going through pages: where one has no room, none up to it has.
pub none_yet : (request : Size) (pages : List AtlasValue) (n : ℕ) → (HasRoomOn request pages n → ⊥)
    → NoneHasRoomBelow request pages n → NoneHasRoomBelow request pages (n + 1)
none_yet request pages n full before k s below is room = elim (eqb_tells k n) [
  | inl eq ↦
      let here = rw eq.1 at is in
      full (λ t there. let same : s ≡ t = cc in subst (HasRoomFor request) same room)
  | inr ne ↦ before k s (omega (arith, below, ne.1)) is room
]
