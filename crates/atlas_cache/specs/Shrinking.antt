-- Pages at the end with nothing on them go.
use Rattle.std.specs.Prelude.{◌≡◌, ◌+◌, max, ℕ, List, [], ◌∷◌, ◌++◌, length}
use Rattle.guillotiere.specs.States.{live_in}
use Rattle.guillotiere.specs.Stored.{AtlasValue, state_of}
use Rattle.atlas_cache.specs.declared.changes.CacheChange.{CacheChange}
use Rattle.atlas_cache.specs.declared.changes.CacheChange.TheVariants.{PageRemoved}
use Rattle.atlas_entries.specs.declared.entries.Entry.{Entry}
use Rattle.atlas_cache.specs.Caches.{CacheState}
use Rattle.atlas_cache.specs.Changes.{KeepsEntries}
use Rattle.atlas_entries.specs.Entries.{lying}
use Rattle.atlas_cache.specs.Rooms.{IsNothingLive}

-- The last page goes, and nothing is live on it.
pub record DropsIdle (page : ℕ) (old new : List AtlasValue) : Type 0 where
  pub last : AtlasValue
  pub was : old ≡ new ++ last ∷ []
  pub idle : live_in (state_of last) ≡ []
  pub number : page ≡ length new

-- Something is live on the last page, if there is one.
abbrev pub IsLastInUse : List AtlasValue → Type 0
IsLastInUse pages = (rest : List AtlasValue) (last : AtlasValue) → pages ≡ rest ++ last ∷ [] → live_in (state_of last) ≡ [] → ⊥

module _ {K : Type 0} where
  -- How many pages there are up to the last one on which one of these entries lies.
  abbrev pub pages_in_use : List (Entry K) → ℕ
  pages_in_use [] = 0
  pages_in_use (e ∷ es) = max (e.page + 1) (pages_in_use es)

  -- Pages from this number on told as removed, the last first.
  abbrev pub all_removed : (first : ℕ) → List AtlasValue → List (CacheChange K)
  all_removed first [] = []
  all_removed first (page ∷ pages) = all_removed (first + 1) pages ++ PageRemoved first ∷ []

  -- The last page goes, and nothing is live on it.
  pub record DropsPage (before after : List (CacheChange K)) (s t : CacheState K) : Type 0 where
    pub drops : DropsIdle (length t.pages) s.pages t.pages
    pub listed : after ≡ before ++ PageRemoved (length t.pages) ∷ []
    pub keeps : KeepsEntries s t

  -- The pages behind the last one with an entry go, the last first; nothing is live on any of them. The others and the
  -- entries stay as they are.
  pub record Shrinks (before after : List (CacheChange K)) (s t : CacheState K) : Type 0 where
    pub gone : List AtlasValue
    pub was : s.pages ≡ t.pages ++ gone
    pub left : length t.pages ≡ pages_in_use (lying t.entries)
    pub nothing : IsNothingLive gone
    pub listed : after ≡ before ++ all_removed (length t.pages) gone
    pub keeps : KeepsEntries s t
