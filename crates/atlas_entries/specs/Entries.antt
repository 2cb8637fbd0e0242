-- Entries of a cache under their numbers, the most recently used first.
use Rattle.std.specs.Prelude.{◌≡◌, ◌≤◌, ◌==◌, ℕ, max, Bool, true, nat_eq, if◌then◌else◌, List, [], ◌∷◌, ◌++◌, length, map, Option, None}
use Rattle.std.specs.Prelude.{Some}
use Rattle.std.specs.Prelude.{IsNone, IsSome}
use Rattle.std.specs.List.{AllByRecursion}
use Rattle.std.specs.Option.{option_map_or}
use Rattle.std.specs.Map.{keys_of, lookup, remove_entry}
use Rattle.atlas_search.specs.Numbers.{front}
use Rattle.atlas_entries.specs.Orders.{oldest_of}
use Rattle.atlas_model.specs.declared.geometry.Rectangle.{Rectangle}
use Rattle.atlas_entries.specs.declared.entries.Entry.{Entry}

-- What a blank entry has for its page. No page has this number, since a cache has at most so many pages.
abbrev pub no_page : ℕ
no_page = 4294967295

-- Entries under their numbers, the most recently used first; how many numbers were given out so far: 0, 1 and so on; and
-- how many entries are in reserve: for so many that come next there is memory.
pub record Table (K : Type 0) : Type 0 where
  pub entries : List (ℕ × Entry K)
  pub made : ℕ
  pub reserved : ℕ

module _ {K : Type 0} where
  -- A blank entry is that of a key with an empty size. It lies on no page, and takes no room.
  abbrev pub is_blank : Entry K → Bool
  is_blank e = e.page == no_page

  -- The entries that lie on a page, in their order.
  abbrev pub lying : List (Entry K) → List (Entry K)
  lying [] = []
  lying (e ∷ es) = if is_blank e then lying es else e ∷ lying es

  -- The entry of a number.
  abbrev pub entry_at : ℕ → List (ℕ × Entry K) → Option (Entry K)
  entry_at n es = lookup (nat_eq n) es

  -- The number is that of an entry.
  abbrev pub IsNumber : ℕ → List (ℕ × Entry K) → Type 0
  IsNumber n es = IsSome (entry_at n es)

  -- The number of the first entry with this key.
  abbrev pub number_of : (K → K → Bool) → K → List (ℕ × Entry K) → Option ℕ
  number_of eq k [] = None
  number_of eq k (e ∷ es) = if eq k e.1.key then Some e.0 else number_of eq k es

  -- The numbers of the entries.
  abbrev pub numbers : List (ℕ × Entry K) → List ℕ
  numbers es = keys_of es

  -- The keys of the entries.
  abbrev pub keys : List (ℕ × Entry K) → List K
  keys es = map (λ e. e.1.key) es

  -- Each entry has its number.
  abbrev pub AreNumbered : List (ℕ × Entry K) → Type 0
  AreNumbered es = AllByRecursion (λ e. e.1.number ≡ e.0) es

  -- The number of a new entry: one that was given out before, or, if all of those are in use, the next one.
  pub record IsNextNumber (n : ℕ) (t : Table K) : Type 0 where
    pub free : IsNone (entry_at n t.entries)
    pub next : n ≤ t.made
    pub dense : n ≡ t.made → length t.entries ≡ t.made

  -- At least so many are in reserve.
  abbrev pub with_reserve : ℕ → Table K → Table K
  with_reserve n t = record t { reserved = max t.reserved n }

  -- All of them are blank.
  abbrev pub AreBlank : List (ℕ × Entry K) → Type 0
  AreBlank es = AllByRecursion (λ e. is_blank e.1 ≡ true) es

  -- The order ends with blank entries, of which this is the number of the first, or with none, which has the number of no entry.
  pub record EndsBlank (mark : ℕ) (es : List (ℕ × Entry K)) : Type 0 where
    pub newer : List (ℕ × Entry K)
    pub older : List (ℕ × Entry K)
    pub was : es ≡ newer ++ older
    pub first : mark ≡ front (numbers older)
    pub blank : AreBlank older

  -- The same, by the number of the last before them.
  pub record IsBeforeBlanks (next : Option ℕ) (es : List (ℕ × Entry K)) : Type 0 where
    pub newer : List (ℕ × Entry K)
    pub older : List (ℕ × Entry K)
    pub was : es ≡ newer ++ older
    pub last : next ≡ oldest_of (numbers newer)
    pub blank : AreBlank older

  -- The others, without the entry of a number.
  abbrev pub without_number : ℕ → List (ℕ × Entry K) → List (ℕ × Entry K)
  without_number n es = remove_entry (nat_eq n) es

  -- The entry is used in this frame, and the most recently used; the others keep their order.
  abbrev pub touched : ℕ → (frame : ℕ) → List (ℕ × Entry K) → List (ℕ × Entry K)
  touched n frame es =
      option_map_or (λ e. (n, record e { frame = frame }) ∷ without_number n es) (entry_at n es) es

  -- The entry has another page, id and rectangle; the order stays.
  abbrev pub moved : ℕ → (page id : ℕ) → Rectangle → List (ℕ × Entry K) → List (ℕ × Entry K)
  moved n page id rectangle [] = []
  moved n page id rectangle (e ∷ es) =
      if nat_eq n e.0
      then (e.0, record e.1 { page = page; id = id; rectangle = rectangle }) ∷ es
      else e ∷ moved n page id rectangle es
