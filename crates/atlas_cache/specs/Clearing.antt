-- What goes without another entry that comes: all entries, or those that were long unused.
use Rattle.std.specs.Prelude.{◌≡◌, ◌+◌, ◌<◌, ◌≤◌, min, ℕ, ℤ, Bool, List, [], ◌∷◌, ◌++◌, length, None}
use Rattle.std.specs.List.{AllByRecursion}
use Rattle.guillotiere.specs.Pages.{page_sizes}
use Rattle.atlas_cache.specs.declared.changes.CacheChange.{CacheChange}
use Rattle.atlas_cache.specs.declared.changes.CacheChange.TheVariants.{Evicted}
use Rattle.atlas_entries.specs.declared.entries.Entry.{Entry}
use Rattle.atlas_cache.specs.Caches.{CacheState, shown}
use Rattle.atlas_cache.specs.Changes.{Picture, all_changed, picture_of, ShowsSame}
use Rattle.atlas_cache.specs.Counting.{one_more}
use Rattle.atlas_cache.specs.Reserving.{UseAtMost}
use Rattle.atlas_cache.specs.Rooms.{IsNothingLive}

module _ {K : Type 0} where
  -- No entry is left and nothing is live; numbers begin again at 0, and what the entries had is in reserve. The pages keep
  -- their sizes, and the frame and the counts stay.
  pub record Clears (s t : CacheState K) : Type 0 where
    pub entries : t.entries ≡ []
    pub numbers : t.numbers ≡ 0
    pub reserved : t.reserved ≡ s.reserved + length s.entries
    pub nothing : IsNothingLive t.pages
    pub sizes : page_sizes t.pages ≡ page_sizes s.pages
    pub slots : UseAtMost 0 s.pages t.pages
    pub options : t.options ≡ s.options
    pub frame : t.frame ≡ s.frame
    pub counts : t.counts ≡ s.counts

  -- No key has a place, and the sizes of the pages stay.
  abbrev pub all_forgotten : Picture K → Picture K
  all_forgotten p = record p { places = λ k. None }

  -- In frame `now`, the entry wasn't used for at least so many frames.
  abbrev pub IsUnusedFor : (frames now : ℕ) → Entry K → Type 0
  IsUnusedFor frames now e = e.frame + frames ≤ now

  -- It was used since.
  abbrev pub IsUsedSince : (frames now : ℕ) → Entry K → Type 0
  IsUsedSince frames now e = now < e.frame + frames

  -- Entries told as evicted, the last of the list first.
  abbrev pub all_evicted : (padding : ℤ) → List (Entry K) → List (CacheChange K)
  all_evicted padding [] = []
  all_evicted padding (e ∷ es) = all_evicted padding es ++ Evicted e.key (shown padding e) ∷ []

  -- The least recently used entry, which wasn't used for so many frames, is evicted.
  pub record DropsLast (frames : ℕ) (before after : List (CacheChange K)) (s t : CacheState K) : Type 0 where
    pub entry : Entry K
    pub last : s.entries ≡ t.entries ++ entry ∷ []
    pub unused : IsUnusedFor frames s.frame entry
    pub listed : after ≡ before ++ Evicted entry.key (shown s.options.padding entry) ∷ []
    pub numbers : t.numbers ≡ s.numbers
    pub reserved : t.reserved ≡ s.reserved
    pub sizes : page_sizes t.pages ≡ page_sizes s.pages
    pub slots : UseAtMost 0 s.pages t.pages
    pub options : t.options ≡ s.options
    pub frame : t.frame ≡ s.frame
    pub counts : t.counts ≡ record s.counts { evictions = one_more s.counts.evictions }

  -- The entries that weren't used for so many frames, which come last in the order of use, are evicted, the least
  -- recently used first. The others stay as they are, in their order.
  pub record Trims (frames : ℕ) (before after : List (CacheChange K)) (s t : CacheState K) : Type 0 where
    pub gone : List (Entry K)
    pub was : s.entries ≡ t.entries ++ gone
    pub unused : AllByRecursion (IsUnusedFor frames s.frame) gone
    pub used : AllByRecursion (IsUsedSince frames s.frame) t.entries
    pub listed : after ≡ before ++ all_evicted s.options.padding gone
    pub numbers : t.numbers ≡ s.numbers
    pub reserved : t.reserved ≡ s.reserved
    pub sizes : page_sizes t.pages ≡ page_sizes s.pages
    pub slots : UseAtMost 0 s.pages t.pages
    pub options : t.options ≡ s.options
    pub frame : t.frame ≡ s.frame
    pub counts : t.counts
        ≡ record s.counts { evictions = min (s.counts.evictions + length gone) 18446744073709551615 }

  -- A caller who follows the changes that were added knows what the cache holds.
  pub record TellsChanges (eq : K → K → Bool) (before after : List (CacheChange K)) (s t : CacheState K) : Type 0 where
    pub made : List (CacheChange K)
    pub listed : after ≡ before ++ made
    pub shows : ShowsSame (all_changed eq made (picture_of eq s)) (picture_of eq t)
