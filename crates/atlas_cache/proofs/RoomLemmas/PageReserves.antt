-- What is in reserve on the pages of a cache.
use Rattle.std.proofs.Common.{◌≡◌, ◌+◌, ◌<◌, ◌≤◌, ◌∙◌, ◌∷◌, ◌++◌, [], ℕ, List, Option, None, Some, length, map, get_or, slice_get}
use Rattle.std.proofs.Common.{slice_set}
use Rattle.std.proofs.Common.{option_map, refl, sym, ap, subst, inl, inr, arith, IfSome}
use Rattle.std.specs.Option.{option_and_then}
use Rattle.std.proofs.lemmas.Bool.Decides.{eqb_tells}
use Rattle.std.proofs.lemmas.List.{length-map}
use Rattle.std.proofs.lemmas.Option.{slice_get-get_or, slice_get-map, slice_get_cases}
use Rattle.std.proofs.Math.Seq.{map-set_same}
use Rattle.guillotiere.specs.declared.Allocation.{Allocation}
use Rattle.guillotiere.specs.declared.AtlasError.TheVariants.{Slots}
use Rattle.guillotiere.specs.declared.Size.{Size}
use Rattle.guillotiere.specs.Boxes.{Fits, Sides}
use Rattle.guillotiere.specs.Callers.{rectangle_in}
use Rattle.guillotiere.specs.Choice.{rounded}
use Rattle.guillotiere.specs.Pages.{page_sizes, size_of_page, HasSameRectangles, KeepsPages, NoneHasRoomBelow}
use Rattle.guillotiere.specs.Pixels.{options_of, sides_of, size_of}
use Rattle.guillotiere.specs.Replies.{grant_of}
use Rattle.guillotiere.specs.Reserves.{HasReserve, UsesAtMost}
use Rattle.guillotiere.specs.States.{started, used_in, IsSound, State}
use Rattle.guillotiere.specs.Steps.{Step}
use Rattle.guillotiere.specs.Steps.AtlasCall.{Allocate, Grow}
use Rattle.guillotiere.specs.Steps.AtlasReply.{Allocated, Done, Refused}
use Rattle.guillotiere.specs.Stored.{AtlasValue, state_of}
use Rattle.guillotiere.proofs.ChoiceLemmas.RoundedSides.{rounded_positive}
use Rattle.guillotiere.proofs.TreeLemmas.TreeCounts.{grow_most, place_most}
use Rattle.guillotiere.proofs.ListLemmas.CallerLemmas.{slice_get-set_here, slice_get-set_other}
use Rattle.guillotiere.proofs.Callers.{last_there}
use Rattle.atlas_cache.specs.declared.options.CacheOptions.{CacheOptions}
use Rattle.atlas_cache.specs.Placing.{GrantsOn, GrowsOn, IsFirstShort, IsGrowthShort, StartsOn}
use Rattle.atlas_cache.specs.Reserving.{AllowSlots, HaveSlots, IsShortFor, IsShortOfSlots, UseAtMost}
use Rattle.atlas_cache.specs.Rooms.{rooms_of, IsFirstToGrow, KeepsRooms}

-- Where nothing changes, no slot is used.
pub none_used : (n : ℕ) (pages : List AtlasValue) → UseAtMost n pages pages
none_used n pages page t is = (t, is, record { used = omega arith; capacity = omega arith })

-- Two steps, one after the other.
pub both_used : (m n k : ℕ) (old mid new : List AtlasValue) → m + n ≤ k → UseAtMost m old mid → UseAtMost n mid new
    → UseAtMost k old new
both_used m n k old mid new most first second page t is =
    let later = second page t is in
    let before = first page later.0 later.1 in (
      before.0,
      before.1,
      record {
        used = omega (arith, most, before.2.used, later.2.used);
        capacity = omega (arith, before.2.capacity, later.2.capacity);
      },
    )

-- What is left in reserve.
pub slots_left : (m n k : ℕ) (old new : List AtlasValue) → n + m ≤ k → UseAtMost m old new → HaveSlots k old
    → HaveSlots n new
slots_left m n k old new most uses have page t is =
    let was = uses page t is in
    let had = have page was.0 was.1 in
    omega (arith, most, had, was.2.used, was.2.capacity)

-- What the pages may still use.
pub allowed_left : (m n k : ℕ) (old new : List AtlasValue) → n + m ≤ k → UseAtMost m old new → AllowSlots k old
    → AllowSlots n new
allowed_left m n k old new most uses allow page t is =
    let was = uses page t is in
    let may = allow page was.0 was.1 in
    omega (arith, most, may, was.2.used)

-- A page that is short was so before, if no slot was used since.
pub short_before : (n : ℕ) (old new : List AtlasValue) → UseAtMost 0 old new → IsShortFor n new → IsShortFor n old
short_before n old new uses short =
    let was = uses short.0 short.1 short.2 in
    (short.0, was.0, was.1, omega (arith, short.3, was.2.used))

-- Where each page may use as many more, none is short.
pub none_short : (n k : ℕ) (pages : List AtlasValue) → n ≤ k → AllowSlots k pages → IsShortFor n pages → ⊥
none_short n k pages most allow short =
    let may = allow short.0 short.1 short.2 in
    omega (arith, most, may, short.3)

-- A request that is refused for want of slots lacks 4 of them.
pub request_needs : (s t : State) (r : Sides) → IsSound s → Step s (Allocate r) (Refused Slots) t → s.limit < used_in s + 4
request_needs s t r sound step =
    let positive = rounded_positive s.options r sound.valid step.1.positive in
    let few = place_most s.size s.tree step.0 (rounded s.options r) sound.well_formed positive
    step.1.pick.best.candidate.fitting.fits in
    omega (arith, step.2, few)

-- One page of a list, a, becomes b.
module _ (pages : List AtlasValue) (page : ℕ) (a b : AtlasValue) (is : a ≡ get_or pages page a) (within : page < length pages) where
  there : slice_get pages page ≡ Some a
  there = slice_get-get_or pages page a within ∙ ap Some (sym is)

  pub page_has : (n : ℕ) → HaveSlots n pages → HasReserve n a
  page_has n have = have page a there

  pub page_uses : (n : ℕ) → UsesAtMost n a b → UseAtMost n pages (slice_set pages page b)
  page_uses n uses k t at = elim (eqb_tells k page) [
    | inl here ↦
        let now = rw (here.1, slice_get-set_here pages page b within) at at in
        let same : b ≡ t = cc in
        (a, rw here.1 there, subst (UsesAtMost n a) same uses)
    | inr other ↦
        (t, sym (slice_get-set_other pages page k b other.1) ∙ at, record { used = omega arith; capacity = omega arith })
  ]

  -- Where a request or a growth of the page is refused for want of slots, the page is short of them.
  pub request_short : (o : CacheOptions) → KeepsRooms (rooms_of o pages) → (r : Sides) (t : State)
      → Step (state_of a) (Allocate r) (Refused Slots) t → IsShortOfSlots pages
  request_short o kept r t step =
      let own = kept.each page a there in
      (page, a, there, omega (arith, request_needs (state_of a) t r own.sound step, own.limit))

  pub growth_short : (o : CacheOptions) → KeepsRooms (rooms_of o pages) → (n : Sides) (t : State)
      → Step (state_of a) (Grow n) (Refused Slots) t → IsShortOfSlots pages
  growth_short o kept n t step =
      let s = state_of a in
      (page, a, there, omega (arith, step.1, grow_most s.size n s.tree, (kept.each page a there).limit))

  -- So the first page that has room for a request is short of slots, if that request is refused them.
  pub first_short : (o : CacheOptions) → KeepsRooms (rooms_of o pages) → (asked : Size) (t : State)
      → NoneHasRoomBelow asked pages page → Step (state_of a) (Allocate (sides_of asked)) (Refused Slots) t
      → IsFirstShort asked pages
  first_short o kept asked t none step =
      let own = kept.each page a there in
      let s = state_of a in
      record {
        page = page;
        here = a;
        is = there;
        room = record { positive = step.1.positive; box = step.0; fitting = step.1.pick.best.candidate.fitting };
        first = none;
        most = omega (arith, request_needs s t (sides_of asked) own.sound step, own.limit);
      }

  -- And the first page that isn't at its largest, if its growth is.
  pub first_growth_short : (o : CacheOptions) → KeepsRooms (rooms_of o pages) → (size : Size)
      → IsFirstToGrow o (page_sizes pages) page size → (n : Sides) (t : State)
      → Step (state_of a) (Grow n) (Refused Slots) t → IsGrowthShort o pages
  first_growth_short o kept size first n t step =
      let s = state_of a in
      record {
        page = page;
        size = size;
        first = first;
        here = a;
        is = there;
        most = omega (arith, step.1, grow_most s.size n s.tree, (kept.each page a there).limit);
      }

  -- What the page grants by a step of its own.
  pub page_grants : (asked : Size) (granted : Option Allocation)
      → IfSome granted (λ g. Step (state_of a) (Allocate (sides_of asked)) (Allocated (grant_of g)) (state_of b))
      → IfSome granted (λ g. GrantsOn asked pages (slice_set pages page b) page g)
  page_grants asked None step = tt
  page_grants asked (Some g) step = λ s t was now.
      let at = rw (slice_get-set_here pages page b within) at now in
      let first : a ≡ s = let both = sym there ∙ was in cc in
      let second : b ≡ t = cc in
      subst (λ (u : AtlasValue). Step (state_of u) (Allocate (sides_of asked)) (Allocated (grant_of g)) (state_of t)) first
      (subst (λ (u : AtlasValue). Step (state_of a) (Allocate (sides_of asked)) (Allocated (grant_of g)) (state_of u)) second step)

  -- What it grows to by a step of its own.
  pub page_steps_on : (size : Size) → Step (state_of a) (Grow (sides_of size)) Done (state_of b)
      → GrowsOn size pages (slice_set pages page b) page
  page_steps_on size step s t was now =
      let at = rw (slice_get-set_here pages page b within) at now in
      let first : a ≡ s = let both = sym there ∙ was in cc in
      let second : b ≡ t = cc in
      subst (λ (u : AtlasValue). Step (state_of u) (Grow (sides_of size)) Done (state_of t)) first
      (subst (λ (u : AtlasValue). Step (state_of a) (Grow (sides_of size)) Done (state_of u)) second step)

  pub page_states : state_of b ≡ state_of a → map state_of (slice_set pages page b) ≡ map state_of pages
  page_states same = map-set_same state_of pages page b a (same ∙ ap state_of is)

  pub holds_there : (P : AtlasValue → Type 0) → P b → (s : AtlasValue) → slice_get (slice_set pages page b) page ≡ Some s → P s
  holds_there P has s at =
      let now = rw (slice_get-set_here pages page b within) at at in
      let same : b ≡ s = cc in
      subst P same has

-- What holds of the pages before one, and of that one, holds of one page more.
pub one_more_page : (P : AtlasValue → Type 0) (page : ℕ) (old new : List AtlasValue) → KeepsPages old new page
    → ((s : AtlasValue) → slice_get new page ≡ Some s → P s)
    → ((k : ℕ) (s : AtlasValue) → k < page → slice_get old k ≡ Some s → P s)
    → (k : ℕ) (s : AtlasValue) → k < page + 1 → slice_get new k ≡ Some s → P s
one_more_page P page old new others here before k s below at = elim (eqb_tells k page) [
  | inl same ↦ here s (rw same.1 at at)
  | inr other ↦ before k s (omega (arith, below, other.1)) (sym (others k other.1) ∙ at)
]

sizes_by_state : (pages : List AtlasValue) → page_sizes pages ≡ map (λ (s : State). size_of s.size) (map state_of pages)
sizes_by_state [] = refl
sizes_by_state (p ∷ pages) = ap (λ sizes. size_of_page p ∷ sizes) (sizes_by_state pages)

pub starts_last : (o : CacheOptions) (pages : List AtlasValue) (b : AtlasValue)
    → state_of b ≡ started (sides_of o.page) (options_of o.atlas) 16777216
    → StartsOn o (pages ++ b ∷ []) (length pages)
starts_last o pages b state s at =
    let same : b ≡ s = let both = sym (last_there pages b) ∙ at in cc in
    subst (λ (u : AtlasValue). state_of u ≡ started (sides_of o.page) (options_of o.atlas) 16777216) same state

-- Each page stands for what it stood for.
module _ (old new : List AtlasValue) (same : map state_of new ≡ map state_of old) where
  pub as_long : length new ≡ length old
  as_long = sym (length-map new state_of) ∙ ap length same ∙ length-map old state_of

  state_at : (k : ℕ) → option_map state_of (slice_get new k) ≡ option_map state_of (slice_get old k)
  state_at k =
      sym (slice_get-map state_of new k) ∙ ap (λ (ss : List State). slice_get ss k) same ∙ slice_get-map state_of old k

  pub was_there : (k : ℕ) (t : AtlasValue) → slice_get new k ≡ Some t
      → (s : AtlasValue) × (slice_get old k ≡ Some s) × (state_of t ≡ state_of s)
  was_there k t is = elim (slice_get_cases old k).1 [
    | inl one ↦ let both = rw (is, one.2) at (state_at k) in (one.0, one.2, cc)
    | inr past ↦ let none = rw (is, past.1) at (state_at k) in cc
  ]

  pub same_sizes : page_sizes new ≡ page_sizes old
  same_sizes = sizes_by_state new ∙ ap (λ ss. map (λ (s : State). size_of s.size) ss) same ∙ sym (sizes_by_state old)

  pub same_rooms : (o : CacheOptions) → KeepsRooms (rooms_of o old) → KeepsRooms (rooms_of o new)
  same_rooms o was = record {
    usable = was.usable;
    few = rw as_long was.few;
    each = λ k t is.
        let had = was_there k t is in
        let page = was.each k had.0 had.1 in
        record {
          sound = subst IsSound (sym had.2) page.sound;
          options = ap (λ (u : State). u.options) had.2 ∙ page.options;
          limit = ap (λ (u : State). u.limit) had.2 ∙ page.limit;
          least = subst (λ (u : State). Fits (sides_of o.page) u.size) (sym had.2) page.least;
          most = subst (λ (u : State). Fits u.size (sides_of o.largest_page)) (sym had.2) page.most;
        };
  }

  in_state : (id : ℕ) (o : Option AtlasValue) → option_and_then (λ s. rectangle_in (state_of s) id) o
      ≡ option_and_then (λ (s : State). rectangle_in s id) (option_map state_of o)
  in_state id None = refl
  in_state id (Some s) = refl

  pub same_rectangles : HasSameRectangles old new
  same_rectangles k id =
      in_state id (slice_get new k)
      ∙ ap (λ (o : Option State). option_and_then (λ (s : State). rectangle_in s id) o) (state_at k)
      ∙ sym (in_state id (slice_get old k))
