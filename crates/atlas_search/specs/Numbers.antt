-- Numbers of entries, and lists of them.
use Rattle.std.specs.Prelude.{ℕ, ◌+◌, ◌==◌, List, [], ◌∷◌, if◌then◌else◌}

-- The number of no entry.
abbrev pub no_slot : ℕ
no_slot = 4294967295

-- 1 if the numbers are equal.
abbrev pub same : ℕ → ℕ → ℕ
same i j = if i == j then 1 else 0

-- The first of a list, or none.
abbrev pub front : List ℕ → ℕ
front [] = no_slot
front (x ∷ xs) = x

-- How often an entry stands in a list.
abbrev pub occurs : ℕ → List ℕ → ℕ
occurs k [] = 0
occurs k (x ∷ xs) = same k x + occurs k xs

-- The list without the first i.
abbrev pub without : ℕ → List ℕ → List ℕ
without i [] = []
without i (x ∷ xs) = if i == x then xs else x ∷ without i xs

-- Entry i stands first in list m.
abbrev pub lists_with : (ℕ → List ℕ) → (m i : ℕ) → ℕ → List ℕ
lists_with free_lists m i k = if k == m then i ∷ free_lists k else free_lists k
