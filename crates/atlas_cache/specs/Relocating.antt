-- What a repacking of a page makes of the entries of a cache, and what it tells.
use Rattle.std.specs.Prelude.{◌≡◌, ◌==◌, ◌+◌, ◌-◌, ◌≤◌, ◌++◌, ℕ, ℤ, min, List, length, map, Option, None, Some, find, option_map}
use Rattle.std.specs.Prelude.{if◌then◌else◌}
use Rattle.std.specs.List.{count_by, filter_map}
use Rattle.std.specs.List.Sorted.{IsSortedByKey}
use Rattle.std.specs.Ordering.{nat_cmp}
use Rattle.guillotiere.specs.declared.Change.{Change}
use Rattle.guillotiere.specs.declared.Allocation.{Allocation}
use Rattle.guillotiere.specs.Pages.{page_sizes, KeepsPages}
use Rattle.atlas_cache.specs.declared.changes.CacheChange.{CacheChange}
use Rattle.atlas_cache.specs.declared.changes.CacheChange.TheVariants.{Evicted, Moved}
use Rattle.atlas_entries.specs.declared.entries.Entry.{Entry}
use Rattle.atlas_cache.specs.Caches.{CacheState, shown}
use Rattle.atlas_cache.specs.Repacking.{PlacesAnew}

-- The id that a rectangle had before a change.
abbrev pub former_id : Change → ℕ
former_id c = c.old.id

-- The changes stand in the order of their former ids, and no two have one.
pub record AreInIdOrder (cs : List Change) : Type 0 where
  pub rising : IsSortedByKey former_id nat_cmp cs
  pub once : (id : ℕ) → count_by (λ c. c.old.id == id) cs ≤ 1

module _ {K : Type 0} where
  -- What an entry has become, where `renewed` says it of the entries of a page: another one stays.
  abbrev pub become : (page : ℕ) → (Entry K → Option (Entry K)) → Entry K → Option (Entry K)
  become page renewed e = if e.page == page then renewed e else Some e

  -- What is told of an entry of the page: where it moved, or that it is gone.
  abbrev pub told_as : (padding : ℤ) → Entry K → Option (Entry K) → CacheChange K
  told_as padding e None = Evicted e.key (shown padding e)
  told_as padding e (Some f) = Moved e.key (shown padding e) (shown padding f)

  -- And of any entry: nothing of those of other pages.
  abbrev pub told_of : (padding : ℤ) (page : ℕ) → (Entry K → Option (Entry K)) → Entry K → Option (CacheChange K)
  told_of padding page renewed e = if e.page == page then Some (told_as padding e (renewed e)) else None

  -- The entry with the id and the rectangle of the change that names its id; None if none does.
  abbrev pub renewed_by : List Change → Entry K → Option (Entry K)
  renewed_by cs e =
      option_map (λ c. record e { id = c.new.id; rectangle = c.new.rectangle }) (find (λ c. c.old.id == e.id) cs)

  -- What the page's atlas holds of an entry of the page.
  abbrev pub held_of : (page : ℕ) → Entry K → Option Allocation
  held_of page e = if e.page == page then Some (record { id = e.id; rectangle = e.rectangle }) else None

  -- The rectangles of the entries of a page, the most recently used first.
  abbrev pub held_on : (page : ℕ) → List (Entry K) → List Allocation
  held_on page es = filter_map (held_of page) es

  -- An entry under its number.
  abbrev pub numbered_as : ℕ → Option (Entry K) → Option (ℕ × Entry K)
  numbered_as n o = option_map (λ e. (n, e)) o

  -- The keys of entries, in their order.
  abbrev pub keys_of : List (Entry K) → List K
  keys_of es = map (λ e. e.key) es

  -- Each entry of a page moves or goes, which is told once of each, the most recently used first; an entry that moves
  -- has another id and rectangle, and no other entry and no other page changes. The entries are placed in an empty page of
  -- that size, the largest first, and of one area the one that was used last; only what has no room in its turn goes.
  pub record Repacks (page : ℕ) (before after : List (CacheChange K)) (s t : CacheState K) : Type 0 where
    pub renewed : Entry K → Option (Entry K)
    pub same : (e f : Entry K) → renewed e ≡ Some f → f ≡ record e { id = f.id; rectangle = f.rectangle }
    pub moved : List Change
    pub given_up : List Allocation
    pub moves : (e : Entry K) → renewed e ≡ renewed_by moved e
    pub placed : PlacesAnew s.pages t.pages page (held_on page s.entries) moved given_up
    pub entries : t.entries ≡ filter_map (become page renewed) s.entries
    pub listed : after ≡ before ++ filter_map (told_of s.options.padding page renewed) s.entries
    pub numbers : t.numbers ≡ s.numbers
    pub reserved : t.reserved ≡ s.reserved
    pub others : KeepsPages s.pages t.pages page
    pub sizes : page_sizes t.pages ≡ page_sizes s.pages
    pub options : t.options ≡ s.options
    pub frame : t.frame ≡ s.frame
    pub counts : t.counts ≡ record s.counts {
      evictions = min (s.counts.evictions + (length s.entries - length t.entries)) 18446744073709551615;
    }
