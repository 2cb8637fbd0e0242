-- How links between entries keep an order. No public clause cites this module.
use Rattle.std.specs.Prelude.{ℕ, ◌+◌, ◌≡◌, ◌<◌, ◌≤◌, ◌==◌, if◌then◌else◌, List, [], ◌∷◌, length, zero, suc}
use Rattle.std.specs.Prelude.{slice_index_or}
use Rattle.atlas_entries.specs.declared.recency.links.Link.{Link}
use Rattle.atlas_search.specs.Numbers.{occurs}

-- The number of no entry. The ends of the order stand there: what comes after it is the most recently used entry, and
-- what comes before it is the least recently used one.
abbrev pub no_entry : ℕ
no_entry = 4294967295

abbrev pub blank : Link
blank = record { previous = 0; next = 0 }

abbrev pub link_at : List Link → (ends : Link) → ℕ → Link
link_at links ends k = if k == no_entry then ends else slice_index_or links k blank

abbrev pub next_at : List Link → (ends : Link) → ℕ → ℕ
next_at links ends k = (link_at links ends k).next

abbrev pub previous_at : List Link → (ends : Link) → ℕ → ℕ
previous_at links ends k = (link_at links ends k).previous

-- A function that gives y at x, and what it gave elsewhere.
abbrev pub at_once : ℕ → ℕ → (ℕ → ℕ) → ℕ → ℕ
at_once x y f k = if k == x then y else f k

-- From `before` the links run through xs in both directions, and then to the end.
abbrev pub RunsThrough : (next previous : ℕ → ℕ) → (before : ℕ) → List ℕ → Type 0
RunsThrough next previous before [] = (next before ≡ no_entry) × (previous no_entry ≡ before)
RunsThrough next previous before (x ∷ xs) = (next before ≡ x) × (previous x ≡ before) × RunsThrough next previous x xs

-- The links run through xs, each once.
pub record IsRing (links : List Link) (ends : Link) (xs : List ℕ) : Type 0 where
  pub chain : RunsThrough (next_at links ends) (previous_at links ends) no_entry xs
  pub once : (k : ℕ) → occurs k xs ≤ 1
  pub inside : (k : ℕ) → 0 < occurs k xs → k < length links

-- The first so many that the links run through.
abbrev pub line : ℕ → (next : ℕ → ℕ) → ℕ → List ℕ
line zero next at = []
line (suc n) next at = at ∷ line n next (next at)

-- From `at` the links run through xs forwards, and then to the end.
abbrev pub RunsForward : (next : ℕ → ℕ) → ℕ → List ℕ → Type 0
RunsForward next at [] = at ≡ no_entry
RunsForward next at (x ∷ xs) = (at ≡ x) × RunsForward next (next x) xs

-- The links run through some list with this entry.
abbrev pub IsInRing : List Link → (ends : Link) → ℕ → Type 0
IsInRing links ends k = (xs : List ℕ) × IsRing links ends xs × (0 < occurs k xs)

-- The links run through some list without this entry.
abbrev pub IsOutsideRing : List Link → (ends : Link) → ℕ → Type 0
IsOutsideRing links ends k = (xs : List ℕ) × IsRing links ends xs × (occurs k xs ≡ 0)

-- The numbers that belong to no entry stand in a line that begins with `unused`.
pub record HasSpare (links : List Link) (ends : Link) (unused : ℕ) (entries : List ℕ) : Type 0 where
  pub spare : List ℕ
  pub line : RunsForward (next_at links ends) unused spare
  pub each : (k : ℕ) → k < length links → occurs k entries + occurs k spare ≡ 1
  pub inside : (k : ℕ) → 0 < occurs k entries + occurs k spare → k < length links
  pub all : length entries + length spare ≡ length links

-- The entries that the links run through, the first first.
abbrev pub run : List Link → (ends : Link) → (count : ℕ) → List ℕ
run links ends count = line count (next_at links ends) ends.next

-- What stored links keep.
pub record IsRecency (links : List Link) (ends : Link) (unused count : ℕ) : Type 0 where
  pub short : length links ≤ no_entry
  pub ring : IsRing links ends (run links ends count)
  pub rest : HasSpare links ends unused (run links ends count)
