-- Counts over lists: what occurs once, and lists with the same counts.
use Rattle.std.proofs.Common.{◌≡◌, zero, suc, ◌+◌, ◌≤◌, Bool, true, false, List, [], ◌∷◌, ◌++◌, refl, ap, subst, sym}
use Rattle.std.proofs.Common.{◌∙◌, arith, Contains, IsPermutation}
use Rattle.std.proofs.lemmas.List.Sorted.{IsPermutation-refl, IsPermutation-sym, IsPermutation-trans}
use Rattle.std.proofs.lemmas.List.Sorted.{IsPermutation-cons, IsPermutation-middle}
use Rattle.std.proofs.lemmas.List.Sums.{sum_by-cons, sum_by-append}
use Rattle.std.specs.List.{count_by}
use Rattle.atlas_model.proofs.TreeLemmas.TreeBasics.{one_if}

module _ {X : Type 0} where
  pub count_by-cons : (p : X → Bool) (x : X) (xs : List X) → count_by p (x ∷ xs) ≡ one_if (p x) + count_by p xs
  count_by-cons p x xs = sum_by-cons (λ k. one_if (p k)) x xs

  pub count_by-append : (p : X → Bool) (xs ys : List X) → count_by p (xs ++ ys) ≡ count_by p xs + count_by p ys
  count_by-append p xs ys = sum_by-append (λ k. one_if (p k)) xs ys

  -- Where one test is weaker, it counts at least as many.
  pub count_by-weaker : (p q : X → Bool) → ((x : X) → p x ≡ true → q x ≡ true) → (xs : List X)
      → count_by p xs ≤ count_by q xs
  count_by-weaker p q w [] = omega arith
  count_by-weaker p q w (x ∷ xs) = grind (arith, one_if, count_by-cons, count_by-weaker p q w xs)

  pub count_some : (p : X → Bool) (xs : List X) (x : X) → Contains xs x → p x ≡ true → 1 ≤ count_by p xs
  count_some p [] x (k, below, is) h = absurd (omega arith)
  count_some p (y ∷ ys) x (zero, below, is) h = grind (arith, one_if, count_by-cons)
  count_some p (y ∷ ys) x (suc k, below, is) h =
      grind (arith, one_if, count_by-cons, count_some p ys x (k, omega arith, is) h)

  -- Of what is counted once there is one.
  pub counted_once : (p : X → Bool) (xs : List X) (a b : X) → count_by p xs ≤ 1 → Contains xs a → Contains xs b
      → p a ≡ true → p b ≡ true → a ≡ b
  counted_once p [] a b few (k, below, is) at_b pa pb = absurd (omega arith)
  counted_once p (x ∷ xs) a b few (zero, below, is) (zero, below', is') pa pb = sym is ∙ is'
  counted_once p (x ∷ xs) a b few (zero, below, is) (suc k, below', is') pa pb =
      let e : count_by p (x ∷ xs) ≡ one_if (p x) + count_by p xs = count_by-cons p x xs in
      let yes : one_if (p x) ≡ 1 = ap (λ k. one_if (p k)) is ∙ ap one_if pa in
      let more : 1 ≤ count_by p xs = count_some p xs b (k, omega arith, is') pb in
      absurd (omega arith)
  counted_once p (x ∷ xs) a b few (suc k, below, is) (zero, below', is') pa pb =
      let e : count_by p (x ∷ xs) ≡ one_if (p x) + count_by p xs = count_by-cons p x xs in
      let yes : one_if (p x) ≡ 1 = ap (λ k. one_if (p k)) is' ∙ ap one_if pb in
      let more : 1 ≤ count_by p xs = count_some p xs a (k, omega arith, is) pa in
      absurd (omega arith)
  counted_once p (x ∷ xs) a b few (suc k, below, is) (suc j, below', is') pa pb =
      let e : count_by p (x ∷ xs) ≡ one_if (p x) + count_by p xs = count_by-cons p x xs in
      counted_once p xs a b (omega arith) (k, omega arith, is) (j, omega arith, is') pa pb

  -- A list at a counted element.
  pub record IsSplitAt (p : X → Bool) (xs : List X) : Type 0 where
    pub before : List X
    pub here : X
    pub after : List X
    pub is : xs ≡ before ++ here ∷ after
    pub passes : p here ≡ true

  pub split_at : (p : X → Bool) (xs : List X) → 1 ≤ count_by p xs → IsSplitAt p xs
  split_at p [] h = absurd (omega arith)
  split_at p (x ∷ xs) h = by_test (p x) refl (count_by-cons p x xs) (split_at p xs)
    where
      by_test : (b : Bool) → p x ≡ b → count_by p (x ∷ xs) ≡ one_if b + count_by p xs
          → (1 ≤ count_by p xs → IsSplitAt p xs) → IsSplitAt p (x ∷ xs)
      by_test true e c rest = record { before = []; here = x; after = xs; is = refl; passes = e }
      by_test false e c rest =
          let s : IsSplitAt p xs = rest (omega arith) in
          record { before = x ∷ s.before; here = s.here; after = s.after; is = ap (λ k. x ∷ k) s.is; passes = s.passes }

  -- Where elements can be told apart, lists with the same counts are permutations of one another.
  module _ (same : X → X → Bool) (itself : (x : X) → same x x ≡ true) (told : (x y : X) → same x y ≡ true → x ≡ y) where
    pub permuted_from_counts : (xs ys : List X) → ((p : X → Bool) → count_by p xs ≡ count_by p ys) → IsPermutation xs ys
    permuted_from_counts [] [] h = IsPermutation-refl []
    permuted_from_counts [] (y ∷ ys) h =
        let e : count_by (λ k. true) (y ∷ ys) ≡ 1 + count_by (λ k. true) ys = count_by-cons (λ k. true) y ys in
        let none : 0 ≡ count_by (λ k. true) (y ∷ ys) = h (λ k. true) in
        absurd (omega arith)
    permuted_from_counts (x ∷ xs) ys h = found (split_at (same x) ys some) (λ k. permuted_from_counts xs k)
      where
        some : 1 ≤ count_by (same x) ys
        some = grind (arith, one_if, count_by-cons)

        found : IsSplitAt (same x) ys → ((zs : List X) → ((p : X → Bool) → count_by p xs ≡ count_by p zs)
            → IsPermutation xs zs) → IsPermutation (x ∷ xs) ys
        found s rest =
            let is : ys ≡ s.before ++ x ∷ s.after = s.is ∙ ap (λ k. s.before ++ k ∷ s.after) (sym (told x s.here s.passes)) in
            let less : (p : X → Bool) → count_by p xs ≡ count_by p (s.before ++ s.after) = λ p.
            let a : count_by p (x ∷ xs) ≡ one_if (p x) + count_by p xs = count_by-cons p x xs in
            let b : count_by p (x ∷ xs) ≡ count_by p (s.before ++ x ∷ s.after) = h p ∙ ap (count_by p) is in
            let c : count_by p (s.before ++ x ∷ s.after) ≡ count_by p s.before + count_by p (x ∷ s.after) =
            count_by-append p s.before (x ∷ s.after) in
            let d : count_by p (x ∷ s.after) ≡ one_if (p x) + count_by p s.after = count_by-cons p x s.after in
            let e : count_by p (s.before ++ s.after) ≡ count_by p s.before + count_by p s.after =
            count_by-append p s.before s.after in
            omega arith in
            subst (IsPermutation (x ∷ xs)) (sym is)
            (IsPermutation-trans _ _ _ (IsPermutation-cons x xs (s.before ++ s.after) (rest (s.before ++ s.after) less))
            (IsPermutation-sym _ _ (IsPermutation-middle s.before x s.after)))
