-- The list of unused slots.
use Rattle.std.proofs.Common.{ℕ, ◌<◌, ◌≤◌, ◌≡◌, List, [], ◌∷◌, arith, length, set, get_or-set_same, get_or-set_other, length-set}
use Rattle.atlas_store.specs.declared.slots.Ring.{Ring}
use Rattle.atlas_store.specs.Slots.{ring_at}
use Rattle.atlas_search.specs.Numbers.{occurs, front}
use Rattle.atlas_store.specs.Slots.Lists.{Line}
use Rattle.atlas_search.proofs.Occurrences.{same-self, same-ne, ne-from_occurs}

pub Line-kept : (rs ts : List Ring) (xs : List ℕ) → length rs ≤ length ts
    → ((k : ℕ) → 0 < occurs k xs → ring_at ts k ≡ ring_at rs k) → Line rs xs → Line ts xs
Line-kept rs ts [] e same_at h = tt
Line-kept rs ts (x ∷ xs) e same_at h =
    grind (arith, same-self, Line-kept rs ts xs e (λ k l. same_at k (omega arith)) h.2)

pub Line-inside : (rs : List Ring) (i : ℕ) (xs : List ℕ) → Line rs xs → 0 < occurs i xs → i < length rs
Line-inside rs i [] h l = absurd (omega arith)
Line-inside rs i (x ∷ xs) h l = grind (arith, Line-inside rs i xs h.2, same-ne)

pub Line-given : (rs ts : List Ring) (i : ℕ) (ring : Ring) → i < length rs → ts ≡ set rs i ring → (xs : List ℕ)
    → Line rs xs → ring.right.number ≡ front xs → occurs i xs ≡ 0 → Line ts (i ∷ xs)
Line-given rs ts i ring l e xs h n z =
    grind (arith, length-set, get_or-set_same, Line-kept, get_or-set_other, ne-from_occurs)
