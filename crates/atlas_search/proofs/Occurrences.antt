-- How often an entry stands in a list.
use Rattle.std.proofs.Common.{ℕ, zero, suc, ◌+◌, ◌<◌, ◌≤◌, ◌≡◌, List, [], ◌∷◌, refl, sym, ap, arith, eqb, length}
use Rattle.std.proofs.lemmas.Bool.{eq-eqb, ne_eqb, cond-false}
use Rattle.atlas_search.specs.Numbers.{occurs, without, front, same}

pub same-self : (i : ℕ) → same i i ≡ 1
same-self i = rw (eq-eqb i i refl)

pub same-ne : (i j : ℕ) → (i ≡ j → ⊥) → same i j ≡ 0
same-ne i j h = rw (ne_eqb i j h)

pub ne-from_occurs : (i j : ℕ) (xs : List ℕ) → occurs i xs ≡ 0 → 0 < occurs j xs → j ≡ i → ⊥
ne-from_occurs i j xs z l e = absurd (omega (arith, ap (λ x. occurs x xs) e))

pub ne-from_same : (i j : ℕ) → same i j ≡ 0 → j ≡ i → ⊥
ne-from_same i j z e = absurd (omega (arith, same-self i, ap (λ x. same i x) e))

pub front-without : (i : ℕ) (xs : List ℕ) → (front xs ≡ i → ⊥) → front (without i xs) ≡ front xs
front-without i [] ne = refl
front-without i (x ∷ xs) ne = rw (cond-false (eqb i x) xs (x ∷ without i xs) (ne_eqb i x (λ q. ne (sym q)))) refl

-- A list in which a slot does not stand is the same without it.
pub without-none : (i : ℕ) (xs : List ℕ) → occurs i xs ≡ 0 → without i xs ≡ xs
without-none i [] z = refl
without-none i (x ∷ xs) z = grind (arith, without-none i xs (omega arith))

pub occurs-without : (i : ℕ) (xs : List ℕ) → 0 < occurs i xs → (k : ℕ)
    → occurs k (without i xs) + same k i ≡ occurs k xs
occurs-without i [] l k = absurd (omega arith)
occurs-without i (x ∷ xs) l k = grind (arith, same-ne, occurs-without i xs)

pub length-without : (i : ℕ) (xs : List ℕ) → 0 < occurs i xs → length (without i xs) + 1 ≡ length xs
length-without i [] l = absurd (omega arith)
length-without i (x ∷ xs) l = grind (arith, same-ne, length-without i xs)

-- Distinct numbers below n are at most n.
pub length-distinct : (n : ℕ) (xs : List ℕ) → ((k : ℕ) → occurs k xs ≤ 1) → ((k : ℕ) → 0 < occurs k xs → k < n)
    → length xs ≤ n
length-distinct zero [] once inside = omega arith
length-distinct zero (x ∷ xs) once inside = let y : x < 0 = inside x (omega (arith, same-self x)) in absurd (omega arith)
length-distinct (suc n) xs once inside =
    grind (arith, length-distinct n (without n xs), occurs-without, same-self, length-without, length-distinct n xs once, ne-from_occurs)

-- What is there once isn't there without it.
pub gone-from : (i : ℕ) (xs : List ℕ) → 0 < occurs i xs → occurs i xs ≤ 1 → occurs i (without i xs) ≡ 0
gone-from i xs l o = omega (arith, occurs-without i xs l i, same-self i, o)
