-- What a cache holds, and what it keeps.
use Rattle.std.specs.Prelude.{◌≡◌, ◌≢◌, ◌+◌, ◌<◌, ◌≤◌, ◌==◌, ◌&&◌, ℕ, ℤ, max, Bool, true, false, List, [], ◌∷◌, ◌++◌, length, map, find}
use Rattle.std.specs.Prelude.{if◌then◌else◌}
use Rattle.std.specs.Prelude.{Option, Some, option_map, slice_get}
use Rattle.std.specs.List.{AllByRecursion}
use Rattle.guillotiere.specs.declared.Rectangle.{Rectangle}
use Rattle.guillotiere.specs.declared.Size.{Size}
use Rattle.guillotiere.specs.Boxes.{IsPositive, IsWithin}
use Rattle.guillotiere.specs.Callers.{RectanglesLieApart}
use Rattle.guillotiere.specs.Pages.{page_sizes, rectangle_on, NoneHasRoomBelow}
use Rattle.guillotiere.specs.Pixels.{box_of, sides_of}
use Rattle.guillotiere.specs.Stored.{AtlasValue, state_of}
use Rattle.atlas_cache.specs.declared.counts.Counts.{Counts}
use Rattle.atlas_entries.specs.declared.entries.Entry.{Entry}
use Rattle.atlas_cache.specs.declared.options.CacheOptions.{CacheOptions}
use Rattle.atlas_cache.specs.declared.places.Place.{Place}
use Rattle.atlas_cache.specs.Asking.{inner_of, no_pixels, IsBorderedBy}
use Rattle.atlas_entries.specs.Entries.{entry_at, is_blank, lying, without_number}
use Rattle.atlas_cache.specs.Rooms.{growth_left, AreAllLargest}

-- What contracts see of a cache: how it was made, the atlas of each page, the entries, the most recently used first,
-- how many numbers entries had so far, how many entries are in reserve (for so many that come next there is memory), the
-- frame, and how it was used.
pub record CacheState (K : Type 0) : Type 0 where
  pub options : CacheOptions
  pub pages : List AtlasValue
  pub entries : List (Entry K)
  pub numbers : ℕ
  pub reserved : ℕ
  pub frame : ℕ
  pub counts : Counts

module _ {K : Type 0} where
  -- At least so many entries are in reserve.
  abbrev pub with_reserve : ℕ → CacheState K → CacheState K
  with_reserve n s = record s { reserved = max s.reserved n }

  -- The entries without their numbers.
  abbrev pub entries_of : List (ℕ × Entry K) → List (Entry K)
  entries_of es = map (λ e. e.1) es

  -- What a caller is shown of an entry: its number, its page, its rectangle there, and that without the padding. Of a
  -- blank one: its number, page 0, and rectangles with no pixel.
  abbrev pub shown : (padding : ℤ) → Entry K → Place
  shown padding e =
      if is_blank e
      then record { number = e.number; page = 0; rectangle = no_pixels; inner = no_pixels }
      else
      record { number = e.number; page = e.page; rectangle = e.rectangle; inner = inner_of padding e.size e.rectangle }

  -- The entry of a key.
  abbrev pub entry_for : (K → K → Bool) → K → List (Entry K) → Option (Entry K)
  entry_for eq k es = find (λ e. eq k e.key) es

  -- The entry of a key, and its number.
  pub record IsFound (eq : K → K → Bool) (k : K) (number : ℕ) (entry : Entry K) (es : List (ℕ × Entry K)) : Type 0 where
    pub at : entry_at number es ≡ Some entry
    pub here : entry_for eq k (entries_of es) ≡ Some entry

  -- The entry of a number lies on a page, and all that were used before it are blank.
  pub record IsOldestLying (number : ℕ) (entry : Entry K) (es : List (ℕ × Entry K)) : Type 0 where
    pub at : entry_at number es ≡ Some entry
    pub newer : List (Entry K)
    pub older : List (Entry K)
    pub was : entries_of es ≡ newer ++ entry ∷ older
    pub others : entries_of (without_number number es) ≡ newer ++ older
    pub lies : is_blank entry ≡ false
    pub blank : lying older ≡ []

  -- The place of a key.
  abbrev pub place_for : (K → K → Bool) → CacheState K → K → Option Place
  place_for eq s k = option_map (shown s.options.padding) (entry_for eq k s.entries)

  -- The entry has this id of this page.
  abbrev pub has_id : (page id : ℕ) → Entry K → Bool
  has_id page id e = (e.page == page) && (e.id == id)

  -- How many entries have this id of this page.
  abbrev pub holders : (page id : ℕ) → List (Entry K) → ℕ
  holders page id [] = 0
  holders page id (e ∷ es) = (if has_id page id e then 1 else 0) + holders page id es

  -- What is live on the pages is what the entries hold, each once: an entry's rectangle is that of its id on its page;
  -- no two entries have one id of one page; and each id that is live is an entry's, so that nothing leaks.
  pub record HoldsEntries (pages : List AtlasValue) (es : List (Entry K)) : Type 0 where
    pub live : AllByRecursion (λ e. rectangle_on pages e.page e.id ≡ Some e.rectangle) es
    pub once : (page id : ℕ) → holders page id es ≤ 1
    pub known : (page id : ℕ) (r : Rectangle) → rectangle_on pages page id ≡ Some r → 0 < holders page id es

  -- Along the list no entry was used in a later frame than the one before it, and the first in none after this frame.
  abbrev pub FramesFall : (frame : ℕ) → List (Entry K) → Type 0
  FramesFall frame [] = Unit {0}
  FramesFall frame (e ∷ es) = (e.frame ≤ frame) × FramesFall e.frame es

  -- An entry's rectangle is at least as large as the entry with its padding; that of a blank one doesn't matter, but its
  -- size is empty.
  pub record IsBordered (padding : ℤ) (e : Entry K) : Type 0 where
    pub large : is_blank e ≡ false → IsBorderedBy padding e.size e.rectangle
    pub empty : is_blank e ≡ true → IsPositive (sides_of e.size) → ⊥

  -- The same of each entry.
  abbrev pub AreBordered : (padding : ℤ) → List (Entry K) → Type 0
  AreBordered padding es = AllByRecursion (IsBordered padding) es

  -- What each cache keeps, beside what its pages and its keys do.
  pub record IsKept (s : CacheState K) : Type 0 where
    pub held : HoldsEntries s.pages (lying s.entries)
    pub bordered : AreBordered s.options.padding s.entries
    pub frames : FramesFall s.frame s.entries

  -- Every page is there, and each is at its largest.
  pub record IsFull (s : CacheState K) : Type 0 where
    pub all : length s.pages ≡ s.options.pages
    pub largest : AreAllLargest s.options (page_sizes s.pages)

  -- The request has room on no page.
  abbrev pub HasNoPageFor : Size → CacheState K → Type 0
  HasNoPageFor asked s = NoneHasRoomBelow asked s.pages (length s.pages)

  -- Each entry that lies on a page was used in this frame.
  abbrev pub AreAllInUse : CacheState K → Type 0
  AreAllInUse s = AllByRecursion (λ e. e.frame ≡ s.frame) (lying s.entries)

  -- No entry was used in this frame.
  abbrev pub IsNoneInUse : CacheState K → Type 0
  IsNoneInUse s = AllByRecursion (λ e. e.frame < s.frame) s.entries

  -- No two entries have one key.
  abbrev pub HaveOwnKeys : (K → K → Bool) → List (Entry K) → Type 0
  HaveOwnKeys eq [] = Unit {0}
  HaveOwnKeys eq (e ∷ es) = AllByRecursion (λ f. eq e.key f.key ≡ false) es × HaveOwnKeys eq es

  -- No two entries have one number.
  abbrev pub HaveOwnNumbers : List (Entry K) → Type 0
  HaveOwnNumbers [] = Unit {0}
  HaveOwnNumbers (e ∷ es) = AllByRecursion (λ f. e.number ≢ f.number) es × HaveOwnNumbers es

  -- Each number of an entry is below this one.
  abbrev pub HaveNumbersBelow : ℕ → List (Entry K) → Type 0
  HaveNumbersBelow n es = AllByRecursion (λ e. e.number < n) es

  -- No pixel of a page lies in two entries, their padding included: two entries of one page lie apart.
  abbrev pub EntriesLieApart : List (Entry K) → Type 0
  EntriesLieApart [] = Unit {0}
  EntriesLieApart (e ∷ es) =
      AllByRecursion (λ f. e.page ≡ f.page → RectanglesLieApart e.rectangle f.rectangle) es × EntriesLieApart es

  -- There is a page under each entry, and the entry lies within it, its padding included.
  abbrev pub EntriesLieWithin : List AtlasValue → List (Entry K) → Type 0
  EntriesLieWithin pages es =
      AllByRecursion (λ e. (a : AtlasValue) × (slice_get pages e.page ≡ Some a)
      × IsWithin (state_of a).size (box_of e.rectangle)) es

  -- How many changes an insert can still make at most.
  abbrev pub steps_left : CacheState K → ℕ
  steps_left s = growth_left s.options (page_sizes s.pages) + length s.entries

  -- A cache that holds nothing yet, and has no page.
  abbrev pub nothing_held : CacheOptions → CacheState K
  nothing_held o =
      record {
        options = o;
        pages = [];
        entries = [];
        numbers = 0;
        reserved = 0;
        frame = 0;
        counts = record { hits = 0; misses = 0; evictions = 0; forced = 0 };
      }
