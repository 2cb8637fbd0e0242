-- What is in reserve on the pages of a cache, and for inserts that are still to come.
use Rattle.std.specs.Prelude.{◌≡◌, ◌+◌, ◌-◌, ◌*◌, ◌/◌, ◌<◌, ◌≤◌, ℕ, min, List, [], ◌∷◌, length, Some, slice_get, Vec, vec_capacity, vec_len}
use Rattle.guillotiere.specs.declared.Size.{Size}
use Rattle.guillotiere.specs.Boxes.{IsPositive}
use Rattle.guillotiere.specs.Pixels.{sides_of, size_of}
use Rattle.guillotiere.specs.Reserves.{HasReserve, UsesAtMost}
use Rattle.guillotiere.specs.States.{used_in}
use Rattle.guillotiere.specs.Stored.{state_of, AtlasValue}
use Rattle.atlas_entries.specs.declared.error.CacheError.{CacheError}
use Rattle.atlas_entries.specs.declared.error.CacheError.TheVariants.{Memory, Slots}
use Rattle.atlas_cache.specs.Asking.{bordered}
use Rattle.atlas_cache.specs.Caches.{CacheState, HasNoPageFor, IsFull}

-- Each page has so many slots in reserve.
abbrev pub HaveSlots : ℕ → List AtlasValue → Type 0
HaveSlots n pages = (page : ℕ) (s : AtlasValue) → slice_get pages page ≡ Some s → HasReserve n s

-- Each page was there before, at most n more of its slots are used, and there is memory for no fewer.
abbrev pub UseAtMost : ℕ → (old new : List AtlasValue) → Type 0
UseAtMost n old new =
    (page : ℕ) (t : AtlasValue) → slice_get new page ≡ Some t
    → (s : AtlasValue) × (slice_get old page ≡ Some s) × UsesAtMost n s t

-- With n more, some page would use more than the 16,777,216 slots that there can be.
abbrev pub IsShortFor : ℕ → List AtlasValue → Type 0
IsShortFor n pages =
    (page : ℕ) × (s : AtlasValue) × (slice_get pages page ≡ Some s) × (16777216 < used_in (state_of s) + n)

-- No page would: each may use n more.
abbrev pub AllowSlots : ℕ → List AtlasValue → Type 0
AllowSlots n pages =
    (page : ℕ) (s : AtlasValue) → slice_get pages page ≡ Some s → used_in (state_of s) + n ≤ 16777216

-- How many more slots a page may use, of those for which it has memory.
abbrev pub ready_slots_of : AtlasValue → ℕ
ready_slots_of v = min (v.capacity - used_in (state_of v)) (16777216 - used_in (state_of v))

-- How many each page may use so; 4294967295, the most that can be asked for, where there are no pages.
abbrev pub ready_slots : List AtlasValue → ℕ
ready_slots [] = 4294967295
ready_slots (page ∷ pages) = min (ready_slots_of page) (ready_slots pages)

-- Some page uses all but 3 at most.
abbrev pub IsShortOfSlots : List AtlasValue → Type 0
IsShortOfSlots pages = IsShortFor 4 pages

-- Page after page got n slots in reserve, until one was refused them: it would use more slots than there can be, or it hadn't as many in
-- reserve and memory was refused. From that page on each is as it was.
pub record StopsAtPage (n : ℕ) (error : CacheError) (old new : List AtlasValue) : Type 0 where
  pub page : ℕ
  pub refused : AtlasValue
  pub here : slice_get old page ≡ Some refused
  pub before : (k : ℕ) (s : AtlasValue) → k < page → slice_get new k ≡ Some s → HasReserve n s
  pub after : (k : ℕ) → page ≤ k → slice_get new k ≡ slice_get old k
  pub slots : error ≡ Slots → 16777216 < used_in (state_of refused) + n
  pub memory : error ≡ Memory → HasReserve n refused → ⊥

-- For how many more items a list has memory.
abbrev pub room_in : {X Z : Type 0} → Vec X Z → ℕ
room_in v = vec_capacity v - vec_len v

module _ {K : Type 0} where
  -- There is memory for n inserts, where the changes have so much room: n entries are in reserve, 4n slots on each page,
  -- and room for n changes more than there are entries.
  pub record HasReserves (n room : ℕ) (s : CacheState K) : Type 0 where
    pub entries : n ≤ s.reserved
    pub slots : HaveSlots (4 * n) s.pages
    pub changes : length s.entries + n ≤ room

  -- An insert of this size adds no page and grows none: it is empty, or a page has room for it, or every page is there and at
  -- its largest.
  abbrev pub KeepsPageSizes : Size → CacheState K → Type 0
  KeepsPageSizes size s =
      IsPositive (sides_of size) → HasNoPageFor (size_of (bordered s.options size)) s → IsFull s

  -- How many inserts all is ready for, where the changes have so much room: an entry of each is in reserve, 4 slots on each page, which
  -- may use them, and room for its change and for one of each entry.
  unfoldable pub ready_inserts : (room : ℕ) → CacheState K → ℕ
  ready_inserts room s = min s.reserved (min (ready_slots s.pages / 4) (room - length s.entries))

  -- None of n inserts is refused for memory or for slots, where the changes have so much room: all is ready for them, and every page is
  -- there and at its largest.
  pub record IsReadyFor (n room : ℕ) (s : CacheState K) : Type 0 where
    pub inserts : n ≤ ready_inserts room s
    pub full : IsFull s

  -- Once there are so many more slots of each page, all is ready for the inserts that they are enough for, as far as entries are in
  -- reserve and the changes have room.
  abbrev pub ReadiesInserts : (slots : ℕ) → (s t : CacheState K) → Type 0
  ReadiesInserts slots s t =
      (n room : ℕ) → 4 * n ≤ slots → n ≤ s.reserved → length s.entries + n ≤ room → n ≤ ready_inserts room t

  -- All is ready for no fewer inserts than before, however much room the changes have.
  pub record KeepsReady (s t : CacheState K) : Type 0 where
    pub inserts : (room : ℕ) → ready_inserts room s ≤ ready_inserts room t
    pub full : IsFull s → IsFull t

  -- It is for all but one at least, where the changes had so much room, and have so much now.
  pub record KeepsReadyButOne (room left : ℕ) (s t : CacheState K) : Type 0 where
    pub inserts : IsFull s → ready_inserts room s ≤ ready_inserts left t + 1
    pub full : IsFull s → IsFull t
