-- Entries in the order of their use, one after another.
use Rattle.std.specs.Prelude.{◌≡◌, ◌≤◌, ◌-◌, ℕ, ℤ, List, [], ◌∷◌, ◌++◌, drop, length, map, Option, None, Some, option_map}
use Rattle.atlas_entries.specs.declared.entries.Entry.{Entry}
use Rattle.atlas_cache.specs.declared.places.Place.{Place}
use Rattle.atlas_cache.specs.Caches.{CacheState, shown}
use Rattle.atlas_entries.specs.Entries.{numbers}
use Rattle.atlas_entries.specs.Orders.{newest_of}

module _ {K : Type 0} where
  -- The first entry of a list.
  abbrev pub first_entry : List (Entry K) → Option (Entry K)
  first_entry [] = None
  first_entry (e ∷ es) = Some e

  -- The last entry of a list.
  abbrev pub last_entry : List (Entry K) → Option (Entry K)
  last_entry [] = None
  last_entry (e ∷ []) = Some e
  last_entry (e ∷ (f ∷ es)) = last_entry (f ∷ es)

  -- A key and its place.
  abbrev pub keyed : (padding : ℤ) → Entry K → K × Place
  keyed padding e = (e.key, shown padding e)

  -- The keys with their places, the most recently used first.
  abbrev pub keyed_entries : CacheState K → List (K × Place)
  keyed_entries s = map (keyed s.options.padding) s.entries

  -- This comes after an entry of a list; None if the entry is the last.
  pub record IsNext (entry : Entry K) (next : Option (Entry K)) (es : List (Entry K)) : Type 0 where
    pub newer : List (Entry K)
    pub older : List (Entry K)
    pub was : es ≡ newer ++ entry ∷ older
    pub first : next ≡ first_entry older

  -- The key and the place of the entry that was used next before this one; None if this is the least recently used.
  pub record ShowsOlder (entry : Entry K) (shows : Option (K × Place)) (s : CacheState K) : Type 0 where
    pub next : Option (Entry K)
    pub after : IsNext entry next s.entries
    pub shown : shows ≡ option_map (keyed s.options.padding) next

  -- The so many least recently used entries.
  abbrev pub oldest_entries : ℕ → List (ℕ × Entry K) → List (ℕ × Entry K)
  oldest_entries n es = drop (length es - n) es

  -- So many entries are still to come, the least recently used ones, and this is the number of the first.
  pub record AreToCome (next : Option ℕ) (left : ℕ) (es : List (ℕ × Entry K)) : Type 0 where
    pub most : left ≤ length es
    pub first : next ≡ newest_of (numbers (oldest_entries left es))
