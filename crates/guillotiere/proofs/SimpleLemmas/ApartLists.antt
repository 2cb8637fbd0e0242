-- No unit square of a slab lies in two boxes, if none lies in two that don't go through it.
use Rattle.std.proofs.Common.{ℕ, ◌+◌, ◌<◌, ◌≤◌, ◌≡◌, ◌⊎◌, Bool, true, false, not, List, [], ◌∷◌, refl, sym, ap, ◌∙◌, inl, inr, arith, suc}
use Rattle.std.proofs.Common.{length, get_or}
use Rattle.std.specs.List.{count_by, filter}
use Rattle.std.proofs.lemmas.Bool.{cases_Bool}
use Rattle.atlas_model.proofs.ListLemmas.ListCounts.{count_by-cons}
use Rattle.atlas_model.proofs.TreeLemmas.TreeBasics.{one_if}

module _ {X : Type 0} (cov full : X → Bool) where
  abbrev rest_of : List X → List X
  rest_of xs = filter (λ x. not (full x)) xs

  covered : (x : X) (xs : List X) → cov x ≡ true → count_by cov (x ∷ xs) ≡ 1 + count_by cov xs
  covered x xs e = count_by-cons cov x xs ∙ ap (λ b. one_if b + count_by cov xs) e

  uncovered : (x : X) (xs : List X) → cov x ≡ false → count_by cov (x ∷ xs) ≡ count_by cov xs
  uncovered x xs e = count_by-cons cov x xs ∙ ap (λ b. one_if b + count_by cov xs) e ∙ omega arith

  dropped : (x : X) (xs : List X) → full x ≡ true → rest_of (x ∷ xs) ≡ rest_of xs
  dropped x xs e = rw e refl

  kept : (x : X) (xs : List X) → full x ≡ false → rest_of (x ∷ xs) ≡ x ∷ rest_of xs
  kept x xs e = rw e refl

  -- Where none is covered, none is counted.
  count_none : (xs : List X) → ((k : ℕ) (d : X) → k < length xs → cov (get_or xs k d) ≡ false) → count_by cov xs ≡ 0
  count_none [] h = refl
  count_none (x ∷ xs) h = uncovered x xs (h 0 x (omega arith)) ∙ count_none xs (λ k d l. h (suc k) d (omega arith))

  -- Where none that goes through is covered, those that don't are counted alone.
  count_rest : (xs : List X) → ((k : ℕ) (d : X) → k < length xs → full (get_or xs k d) ≡ true → cov (get_or xs k d) ≡ false)
      → count_by cov xs ≡ count_by cov (rest_of xs)
  count_rest [] h = refl
  count_rest (x ∷ xs) h =
      let more = count_rest xs (λ k d l. h (suc k) d (omega arith)) in
      elim (cases_Bool (full x)) [
        | inl f ↦ uncovered x xs (h 0 x (omega arith) f) ∙ more ∙ ap (count_by cov) (sym (dropped x xs f))
        | inr f ↦ count_by-cons cov x xs ∙ ap (λ n. one_if (cov x) + n) more
            ∙ sym (count_by-cons cov x (rest_of xs)) ∙ ap (count_by cov) (sym (kept x xs f))
      ]

  -- Of two of cases_Bool one goes through, the second isn't covered where the first is.
  abbrev pub AreBelow : List X → Type 0
  AreBelow xs = (i j : ℕ) (d : X) → i < j → j < length xs
      → (full (get_or xs i d) ≡ true) ⊎ (full (get_or xs j d) ≡ true) → cov (get_or xs i d) ≡ true
      → cov (get_or xs j d) ≡ false

  below_rest : (x : X) (xs : List X) → AreBelow (x ∷ xs) → AreBelow xs
  below_rest x xs h = λ i j d l m. h (suc i) (suc j) d (omega arith) (omega arith)

  pub apart-list : (xs : List X) → AreBelow xs → count_by cov (rest_of xs) ≤ 1 → count_by cov xs ≤ 1
  apart-list [] h l = omega arith
  apart-list (x ∷ xs) h l = elim (cases_Bool (cov x)) [
    | inr c ↦
        let less : count_by cov (rest_of xs) ≤ 1 = elim (cases_Bool (full x)) [
          | inl f ↦ omega (arith, l, ap (count_by cov) (dropped x xs f))
          | inr f ↦ omega (arith, l, ap (count_by cov) (kept x xs f), uncovered x (rest_of xs) c)
        ] in
        omega (arith, uncovered x xs c, apart-list xs (below_rest x xs h) less)
    | inl c ↦
        let none : count_by cov xs ≡ 0 = elim (cases_Bool (full x)) [
          | inl f ↦ count_none xs (λ k d m. h 0 (suc k) d (omega arith) (omega arith) (inl f) c)
          | inr f ↦
              let only = count_rest xs (λ k d m g. h 0 (suc k) d (omega arith) (omega arith) (inr g) c) in
              omega (arith, only, l, ap (count_by cov) (kept x xs f), covered x (rest_of xs) c)
        ] in
        omega (arith, covered x xs c, none)
  ]

  -- More is counted where more is kept of what is covered.
  pub count-wider : (p q : X → Bool) → ((x : X) → cov x ≡ true → p x ≡ true → q x ≡ true) → (xs : List X)
      → count_by cov (filter p xs) ≤ count_by cov (filter q xs)
  count-wider p q h [] = omega arith
  count-wider p q h (x ∷ xs) =
      let more = count-wider p q h xs in
      elim (cases_Bool (p x)) [
        | inr e ↦
            let left : filter p (x ∷ xs) ≡ filter p xs = rw e refl in
            elim (cases_Bool (q x)) [
              | inr f ↦
                  let right : filter q (x ∷ xs) ≡ filter q xs = rw f refl in
                  omega (arith, more, ap (count_by cov) left, ap (count_by cov) right)
              | inl f ↦
                  let right : filter q (x ∷ xs) ≡ x ∷ filter q xs = rw f refl in
                  omega (arith, more, ap (count_by cov) left, ap (count_by cov) right, count_by-cons cov x (filter q xs))
            ]
        | inl e ↦
            let left : filter p (x ∷ xs) ≡ x ∷ filter p xs = rw e refl in
            elim (cases_Bool (cov x)) [
              | inl c ↦
                  let right : filter q (x ∷ xs) ≡ x ∷ filter q xs = rw (h x c e) refl in
                  omega (
                    arith,
                    more,
                    ap (count_by cov) left,
                    ap (count_by cov) right,
                    covered x (filter p xs) c,
                    covered x (filter q xs) c,
                  )
              | inr c ↦ elim (cases_Bool (q x)) [
                | inr f ↦
                    let right : filter q (x ∷ xs) ≡ filter q xs = rw f refl in
                    omega (arith, more, ap (count_by cov) left, ap (count_by cov) right, uncovered x (filter p xs) c)
                | inl f ↦
                    let right : filter q (x ∷ xs) ≡ x ∷ filter q xs = rw f refl in
                    omega (
                      arith,
                      more,
                      ap (count_by cov) left,
                      ap (count_by cov) right,
                      uncovered x (filter p xs) c,
                      uncovered x (filter q xs) c,
                    )
              ]
            ]
      ]
