-- Entries by their numbers, in the order of their use.
use Rattle.std.specs.Prelude.{ℕ, ◌+◌, ◌-◌, ◌≡◌, ◌<◌, ◌≤◌, max, List, [], ◌∷◌, length, Option, None, Some}
use Rattle.atlas_search.specs.Numbers.{occurs, without}

-- The entries, the most recently used first; how many numbers were given out so far: 0, 1 and so on; and how many entries
-- are in reserve: for so many that come next there is memory.
pub record Order : Type 0 where
  pub entries : List ℕ
  pub made : ℕ
  pub reserved : ℕ

-- The number is that of an entry.
abbrev pub IsEntry : ℕ → Order → Type 0
IsEntry k o = 0 < occurs k o.entries

-- The first of a list.
abbrev pub newest_of : List ℕ → Option ℕ
newest_of [] = None
newest_of (x ∷ xs) = Some x

-- The last of a list.
abbrev pub oldest_of : List ℕ → Option ℕ
oldest_of [] = None
oldest_of (x ∷ []) = Some x
oldest_of (x ∷ (y ∷ ys)) = oldest_of (y ∷ ys)

-- The entry is the most recently used; the others keep their order.
abbrev pub used : ℕ → Order → Order
used k o = record o { entries = k ∷ without k o.entries }

-- The entry is gone; the others keep their order.
abbrev pub gone : ℕ → Order → Order
gone k o = record o { entries = without k o.entries }

-- The number isn't that of an entry: one that was given out before, or, if all of those are in use, the next one.
pub record IsFreshNumber (k : ℕ) (o : Order) : Type 0 where
  pub free : occurs k o.entries ≡ 0
  pub next : k ≤ o.made
  pub dense : k ≡ o.made → length o.entries ≡ o.made

-- A new entry is the most recently used. If any are in reserve, it is one of them.
abbrev pub with_newest : ℕ → Order → Order
with_newest k o = record { entries = k ∷ o.entries; made = max o.made (k + 1); reserved = o.reserved - 1 }

-- At least so many are in reserve.
abbrev pub with_reserve : ℕ → Order → Order
with_reserve n o = record o { reserved = max o.reserved n }
