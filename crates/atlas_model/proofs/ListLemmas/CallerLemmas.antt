-- Lists as callers meet them: counts and searches under a permutation, a filter and a map.
use Rattle.std.proofs.Common.{rules, ◌≡◌, ◌≢◌, ◌↔◌, ℕ, zero, suc, ◌+◌, ◌≤◌, ◌<◌, slice_get, slice_set, get_or, Bool, true, false, cond}
use Rattle.std.proofs.Common.{List, [], ◌∷◌, map, length}
use Rattle.std.proofs.Common.{refl, ap, subst, sym, ◌∙◌, arith, Contains, IsPermutation, inl, inr, Option, Some, None}
use Rattle.std.proofs.lemmas.List.Sorted.{sum_by-IsPermutation, Contains-permutation}
use Rattle.std.specs.List.{count_by, filter, find}
use Rattle.atlas_model.proofs.TreeLemmas.TreeBasics.{one_if}
use Rattle.atlas_model.proofs.TreeLemmas.TreeIds.{Contains-first, Contains-later, Contains-none, Contains-cons_cases}
use Rattle.atlas_model.proofs.ListLemmas.ListCounts.{count_by-cons, count_some, counted_once}

module _ {X : Type 0} where
  -- What a list has once one of its members was set.
  pub slice_get-set_here : (xs : List X) (i : ℕ) (y : X) → i < length xs → slice_get (slice_set xs i y) i ≡ Some y
  slice_get-set_here [] i y within = absurd (omega (arith, within))
  slice_get-set_here (x ∷ xs) zero y within = refl
  slice_get-set_here (x ∷ xs) (suc i) y within = slice_get-set_here xs i y (omega (arith, within))

  pub slice_get-set_other : (xs : List X) (i j : ℕ) (y : X) → j ≢ i → slice_get (slice_set xs i y) j ≡ slice_get xs j
  slice_get-set_other [] i j y differ = refl
  slice_get-set_other (x ∷ xs) zero zero y differ = absurd (differ refl)
  slice_get-set_other (x ∷ xs) zero (suc j) y differ = refl
  slice_get-set_other (x ∷ xs) (suc i) zero y differ = refl
  slice_get-set_other (x ∷ xs) (suc i) (suc j) y differ = slice_get-set_other xs i j y (λ e. differ (ap suc e))

  -- To set what is there changes nothing.
  slice_set-same : (xs : List X) (i : ℕ) (y d : X) → y ≡ get_or xs i d → i < length xs → slice_set xs i y ≡ xs
  slice_set-same [] i y d is within = absurd (omega (arith, within))
  slice_set-same (x ∷ xs) zero y d is within = ap (λ k. k ∷ xs) is
  slice_set-same (x ∷ xs) (suc i) y d is within = ap (λ l. x ∷ l) (slice_set-same xs i y d is (omega (arith, within)))

  pub slice_set-read : (xs : List X) (i : ℕ) (y : X) → y ≡ get_or xs i y → i < length xs → slice_set xs i y ≡ xs
  slice_set-read xs i y is within = slice_set-same xs i y y is within

  -- Counts don't depend on the order.
  pub count_by-permutation : (p : X → Bool) (xs ys : List X) → IsPermutation xs ys → count_by p ys ≡ count_by p xs
  count_by-permutation p xs ys h = sum_by-IsPermutation (λ k. one_if (p k)) xs ys h

  -- All are counted where all pass.
  pub count_by-all : (xs : List X) → count_by (λ x. true) xs ≡ length xs
  count_by-all [] = refl
  count_by-all (x ∷ xs) = search (rules, count_by-cons, count_by-all xs)

  pub length-permutation : (xs ys : List X) → IsPermutation xs ys → length ys ≡ length xs
  length-permutation xs ys h = sym (count_by-all ys) ∙ count_by-permutation (λ k. true) xs ys h ∙ count_by-all xs

  -- A filter that passes nothing that a test counts leaves nothing to count.
  pub count_by-filter_gone : (p q : X → Bool) → ((x : X) → p x ≡ true → q x ≡ false) → (xs : List X)
      → count_by p (filter q xs) ≡ 0
  count_by-filter_gone p q w [] = refl
  count_by-filter_gone p q w (x ∷ xs) = grind (arith, count_by-filter_gone p q w xs)

  -- What a filter leaves was in the list and passes.
  pub Contains-filter : (q : X → Bool) (xs : List X) (x : X) → Contains (filter q xs) x → Contains xs x × (q x ≡ true)
  Contains-filter q [] x at = absurd (Contains-none x at)
  Contains-filter q (y ∷ ys) x at = by_test (q y) refl at (λ later. Contains-filter q ys x later)
    where
      by_test : (b : Bool) → q y ≡ b → Contains (cond b (y ∷ filter q ys) (filter q ys)) x
          → (Contains (filter q ys) x → Contains ys x × (q x ≡ true)) → Contains (y ∷ ys) x × (q x ≡ true)
      by_test true e at rest = elim (Contains-cons_cases y (filter q ys) x at) [
        | inl same ↦ (subst (Contains (y ∷ ys)) same (Contains-first y ys), subst (λ k. q k ≡ true) same e)
        | inr later ↦ (Contains-later y ys x (rest later).0, (rest later).1)
      ]
      by_test false e at rest = (Contains-later y ys x (rest at).0, (rest at).1)

  -- What is found is in the list and passes.
  pub Contains-find : (p : X → Bool) (xs : List X) (x : X) → find p xs ≡ Some x → Contains xs x × (p x ≡ true)
  Contains-find p [] x h = cc
  Contains-find p (y ∷ ys) x h = by_test (p y) refl h (λ found. Contains-find p ys x found)
    where
      by_test : (b : Bool) → p y ≡ b → cond b (Some y) (find p ys) ≡ Some x
          → (find p ys ≡ Some x → Contains ys x × (p x ≡ true)) → Contains (y ∷ ys) x × (p x ≡ true)
      by_test true e h rest = grind arith
      by_test false e h rest = (Contains-later y ys x (rest h).0, (rest h).1)

  -- What is counted is found.
  pub find-counted : (p : X → Bool) (xs : List X) → 1 ≤ count_by p xs
      → (x : X) × (find p xs ≡ Some x) × Contains xs x × (p x ≡ true)
  find-counted p [] some = absurd (omega arith)
  find-counted p (y ∷ ys) some = by_test (p y) refl (count_by-cons p y ys) (λ more. find-counted p ys more)
    where
      by_test : (b : Bool) → p y ≡ b → count_by p (y ∷ ys) ≡ one_if b + count_by p ys
          → (1 ≤ count_by p ys → (x : X) × (find p ys ≡ Some x) × Contains ys x × (p x ≡ true))
          → (x : X) × (cond b (Some y) (find p ys) ≡ Some x) × Contains (y ∷ ys) x × (p x ≡ true)
      by_test true e c rest = (y, refl, Contains-first y ys, e)
      by_test false e c rest =
          let found = rest (omega (arith, c, some)) in
          (found.0, found.1, Contains-later y ys found.0 found.2, found.3)

  -- Nothing is found where nothing is counted.
  pub find-uncounted : (p : X → Bool) (xs : List X) → count_by p xs ≡ 0 → find p xs ≡ None
  find-uncounted p [] none = refl
  find-uncounted p (y ∷ ys) none = by_test (p y) (count_by-cons p y ys) (λ h. find-uncounted p ys h)
    where
      by_test : (b : Bool) → count_by p (y ∷ ys) ≡ one_if b + count_by p ys → (count_by p ys ≡ 0 → find p ys ≡ None)
          → cond b (Some y) (find p ys) ≡ None
      by_test true c rest = absurd (omega (arith, c, none))
      by_test false c rest = rest (omega (arith, c, none))

  -- Where nothing is found nothing is counted.
  pub uncounted-find : (p : X → Bool) (xs : List X) → find p xs ≡ None → count_by p xs ≡ 0
  uncounted-find p [] none = refl
  uncounted-find p (y ∷ ys) none = by_test (p y) (count_by-cons p y ys) none (λ h. uncounted-find p ys h)
    where
      by_test : (b : Bool) → count_by p (y ∷ ys) ≡ one_if b + count_by p ys → cond b (Some y) (find p ys) ≡ None
          → (find p ys ≡ None → count_by p ys ≡ 0) → count_by p (y ∷ ys) ≡ 0
      by_test true c none rest = cc
      by_test false c none rest = omega (arith, c, rest none)

  -- The one that is counted is found.
  pub find-counted_once : (p : X → Bool) (xs : List X) (x : X) → count_by p xs ≤ 1 → Contains xs x → p x ≡ true
      → find p xs ≡ Some x
  find-counted_once p xs x few at is =
      let found = find-counted p xs (count_some p xs x at is) in
      found.1 ∙ ap Some (counted_once p xs found.0 x few found.2 at found.3 is)

  -- A search for what is counted once doesn't depend on the order.
  pub find-permutation : (p : X → Bool) (xs ys : List X) → IsPermutation xs ys → count_by p xs ≤ 1
      → find p ys ≡ find p xs
  find-permutation p xs ys h few = by_result (find p xs) refl
    where
      by_result : (o : Option X) → find p xs ≡ o → find p ys ≡ o
      by_result None e = find-uncounted p ys (count_by-permutation p xs ys h ∙ uncounted-find p xs e)
      by_result (Some x) e =
          let at = Contains-find p xs x e in
          find-counted_once p ys x (omega (arith, few, count_by-permutation p xs ys h)) (Contains-permutation xs ys x h at.0) at.1

  -- A filter that passes all that a search looks for leaves the search as it was.
  pub find-filter_kept : (p q : X → Bool) → ((x : X) → p x ≡ true → q x ≡ true) → (xs : List X)
      → find p (filter q xs) ≡ find p xs
  find-filter_kept p q w [] = refl
  find-filter_kept p q w (x ∷ xs) = grind (arith, find-filter_kept p q w xs)

  -- A filter that passes nothing that a search looks for leaves nothing to find.
  pub find-filter_gone : (p q : X → Bool) → ((x : X) → p x ≡ true → q x ≡ false) → (xs : List X)
      → find p (filter q xs) ≡ None
  find-filter_gone p q w xs = find-uncounted p (filter q xs) (count_by-filter_gone p q w xs)

  module _ {Y : Type 0} (f : X → Y) where
    -- A count over a map.
    pub count_by-map : (p : Y → Bool) (xs : List X) → count_by p (map f xs) ≡ count_by (λ x. p (f x)) xs
    count_by-map p [] = refl
    count_by-map p (x ∷ xs) = search (rules, count_by-cons, one_if, count_by-map p xs)

    -- A member of a list is mapped to one of the mapped list.
    pub Contains-map : (xs : List X) (x : X) → Contains xs x → Contains (map f xs) (f x)
    Contains-map [] x (k, below, is) = absurd (omega arith)
    Contains-map (y ∷ ys) x (zero, below, is) = subst (Contains (f y ∷ map f ys)) (ap f is) (Contains-first (f y) (map f ys))
    Contains-map (y ∷ ys) x (suc k, below, is) =
        Contains-later (f y) (map f ys) (f x) (Contains-map ys x (k, omega arith, is))

-- A fact that holds exactly of no list holds exactly of no length.
pub empty_count : {X : Type 0} (P : Type 0) (xs : List X) → P ↔ (xs ≡ []) → P ↔ (length xs ≡ 0)
empty_count P [] is = (λ p. refl, λ e. is.1 refl)
empty_count P (x ∷ xs) is = (λ p. ap length (is.0 p), λ e. absurd (omega (arith, e)))
