-- The end of a batch.
use Rattle.std.specs.Prelude.{◌≡◌, ◌+◌, min, ℕ, ℤ, List, [], ◌∷◌, ◌++◌, length}
use Rattle.guillotiere.specs.Pages.{page_sizes}
use Rattle.atlas_cache.specs.declared.changes.CacheChange.{CacheChange}
use Rattle.atlas_cache.specs.declared.changes.CacheChange.TheVariants.{Evicted}
use Rattle.atlas_entries.specs.declared.entries.Entry.{Entry}
use Rattle.atlas_cache.specs.Caches.{CacheState, shown}
use Rattle.atlas_cache.specs.Counting.{one_more}
use Rattle.atlas_cache.specs.Reserving.{UseAtMost}

module _ {K : Type 0} where
  -- Entries told as evicted, the first of the list first.
  abbrev pub each_evicted : (padding : ℤ) → List (Entry K) → List (CacheChange K)
  each_evicted padding [] = []
  each_evicted padding (e ∷ es) = Evicted e.key (shown padding e) ∷ each_evicted padding es

  -- The most recently used entry is evicted.
  pub record DropsFirst (before after : List (CacheChange K)) (s t : CacheState K) : Type 0 where
    pub entry : Entry K
    pub first : s.entries ≡ entry ∷ t.entries
    pub listed : after ≡ before ++ Evicted entry.key (shown s.options.padding entry) ∷ []
    pub numbers : t.numbers ≡ s.numbers
    pub reserved : t.reserved ≡ s.reserved
    pub sizes : page_sizes t.pages ≡ page_sizes s.pages
    pub slots : UseAtMost 0 s.pages t.pages
    pub options : t.options ≡ s.options
    pub frame : t.frame ≡ s.frame
    pub counts : t.counts ≡ record s.counts { evictions = one_more s.counts.evictions }

  -- A batch ends in the frame, which stays the same: so many of the most recently used entries, all if there are no more, are evicted, the
  -- most recently used first. The others stay as they are, in their order.
  pub record EndsBatch (keys : ℕ) (before after : List (CacheChange K)) (s t : CacheState K) : Type 0 where
    pub gone : List (Entry K)
    pub was : s.entries ≡ gone ++ t.entries
    pub many : length gone ≡ min keys (length s.entries)
    pub listed : after ≡ before ++ each_evicted s.options.padding gone
    pub numbers : t.numbers ≡ s.numbers
    pub reserved : t.reserved ≡ s.reserved
    pub sizes : page_sizes t.pages ≡ page_sizes s.pages
    pub slots : UseAtMost 0 s.pages t.pages
    pub options : t.options ≡ s.options
    pub frame : t.frame ≡ s.frame
    pub counts : t.counts
        ≡ record s.counts { evictions = min (s.counts.evictions + length gone) 18446744073709551615 }
