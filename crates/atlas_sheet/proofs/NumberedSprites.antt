-- Numbered sprites: each number once.
use Rattle.std.proofs.Common.{◌≡◌, ◌==◌, ◌+◌, ◌<◌, ◌≤◌, ℕ, Bool, true, false, List, [], ◌∷◌, length, map, get_or, All, Option}
use Rattle.std.proofs.Common.{IsPermutation, refl, ap, sym, subst, arith}
use Rattle.std.specs.List.{enumerate_from, count_by, range_with_len}
use Rattle.std.proofs.lemmas.Bool.{eqb-true}
use Rattle.std.proofs.lemmas.List.Elements.{All-nil, All-cons, All-from_get_or, All-get_or, All-head, All-tail}
use Rattle.std.proofs.lemmas.List.FromFn.{get_or-enumerate_from, length-enumerate_from}
use Rattle.std.proofs.lemmas.List.Sorted.{All-permutation, IsPermutation-map, IsPermutation-sym}
use Rattle.std.proofs.lemmas.Slice.Zip.{AllZip-long}
use Rattle.guillotiere.specs.declared.Size.{Size}
use Rattle.guillotiere.specs.Boxes.{Sides}
use Rattle.atlas_sheet.specs.declared.options.Spacing.{Spacing}
use Rattle.atlas_sheet.specs.declared.placed.Placed.{Placed}
use Rattle.atlas_sheet.specs.Lying.{IsShown, MayLie}
use Rattle.atlas_sheet.specs.Orders.{AreNumberedOnce, IsOrder}
use Rattle.guillotiere.proofs.TreeLemmas.TreeBasics.{one_if}
use Rattle.guillotiere.proofs.ListLemmas.ListCounts.{count_by-cons}
use Rattle.guillotiere.proofs.ListLemmas.CallerLemmas.{count_by-permutation}

numbers_below : (n most : ℕ) (xs : List Size) → n + length xs ≤ most → All (λ s. s.0 < most) (enumerate_from n xs)
numbers_below n most [] le = All-nil (λ s. s.0 < most)
numbers_below n most (x ∷ xs) le =
    All-cons (λ s. s.0 < most) (n, x) (enumerate_from (n + 1) xs) (omega arith) (numbers_below (n + 1) most xs (omega arith))

-- Numbers from n on don't have a number below n.
not_before : (n k : ℕ) (xs : List Size) → k < n → count_by (λ s. s.0 == k) (enumerate_from n xs) ≡ 0
not_before n k [] less = refl
not_before n k (x ∷ xs) less =
    let count = count_by-cons (λ (s : ℕ × Size). s.0 == k) (n, x) (enumerate_from (n + 1) xs) in
    let later : count_by (λ s. s.0 == k) (enumerate_from (n + 1) xs) ≡ 0 = not_before (n + 1) k xs (omega arith) in
    let here : one_if (n == k) ≡ 0 = by_test (n == k) refl in
    omega arith
  where
    by_test : (b : Bool) → (n == k) ≡ b → one_if b ≡ 0
    by_test true e = let same : n ≡ k = eqb-true n k e in absurd (omega arith)
    by_test false e = refl

numbered_once : (n k : ℕ) (xs : List Size) → count_by (λ s. s.0 == k) (enumerate_from n xs) ≤ 1
numbered_once n k [] = omega arith
numbered_once n k (x ∷ xs) =
    by_test (n == k) refl (count_by-cons (λ (s : ℕ × Size). s.0 == k) (n, x) (enumerate_from (n + 1) xs)) (numbered_once (n + 1) k xs)
  where
    by_test : (b : Bool) → (n == k) ≡ b
        → count_by (λ (s : ℕ × Size). s.0 == k) (enumerate_from n (x ∷ xs)) ≡ one_if b + count_by (λ s. s.0 == k)
        (enumerate_from (n + 1) xs)
        → count_by (λ (s : ℕ × Size). s.0 == k) (enumerate_from (n + 1) xs) ≤ 1 →
        count_by (λ (s : ℕ × Size). s.0 == k) (enumerate_from n (x ∷ xs)) ≤ 1
    by_test true e count few =
        let same : n ≡ k = eqb-true n k e in
        let later : count_by (λ s. s.0 == k) (enumerate_from (n + 1) xs) ≡ 0 = not_before (n + 1) k xs (omega arith) in
        omega arith
    by_test false e count few = omega arith

-- Each of numbered sprites has what each sprite has.
pub numbered_all : (P : Size → Type 0) (n : ℕ) (xs : List Size) → All P xs → All (λ s. P s.1) (enumerate_from n xs)
numbered_all P n [] each = All-nil (λ s. P s.1)
numbered_all P n (x ∷ xs) each =
    All-cons (λ s. P s.1) (n, x) (enumerate_from (n + 1) xs) (All-head P x xs each) (numbered_all P (n + 1) xs (All-tail P x xs each))

module _ (sprites : List Size) (order : List (ℕ × Size)) (moved : IsPermutation (enumerate_from 0 sprites) order) where
  pub order_below : (most : ℕ) → length sprites ≤ most → All (λ s. s.0 < most) order
  order_below most le = All-permutation (λ s. s.0 < most) (enumerate_from 0 sprites) order moved
      (numbers_below 0 most sprites (omega arith))

  pub order_once : AreNumberedOnce order
  order_once k =
      let few : count_by (λ s. s.0 == k) (enumerate_from 0 sprites) ≤ 1 = numbered_once 0 k sprites in
      let same : count_by (λ s. s.0 == k) order ≡ count_by (λ s. s.0 == k) (enumerate_from 0 sprites) =
      count_by-permutation (λ (s : ℕ × Size). s.0 == k) (enumerate_from 0 sprites) order moved in
      omega arith

  pub order_all : (P : Size → Type 0) → All P sprites → All (λ s. P s.1) order
  order_all P each = All-permutation (λ s. P s.1) (enumerate_from 0 sprites) order moved (numbered_all P 0 sprites each)

  -- Each has the size of the sprite of its number.
  pub order_sizes : (d : Size) → All (λ s. s.1 ≡ get_or sprites s.0 d) order
  order_sizes d =
      All-permutation (λ s. s.1 ≡ get_or sprites s.0 d) (enumerate_from 0 sprites) order moved
      (All-from_get_or (λ s. s.1 ≡ get_or sprites s.0 d) (enumerate_from 0 sprites) (0, d) (λ i below.
      let inside : i < length sprites = omega (arith, below, length-enumerate_from 0 sprites) in
      subst (λ (s : ℕ × Size). s.1 ≡ get_or sprites s.0 d) (sym (get_or-enumerate_from 0 sprites i (0, d) inside))
      (ap (λ n. get_or sprites n d) (omega arith))))

  -- What holds of each of them holds at each number.
  pub order_at : (P : ℕ × Size → Type 0) → All P order → (k : ℕ) (d : Size) → k < length sprites
      → P (k, get_or sprites k d)
  order_at P each k d below =
      let numbered : All P (enumerate_from 0 sprites) =
      All-permutation P order (enumerate_from 0 sprites) (IsPermutation-sym (enumerate_from 0 sprites) order moved) each in
      let here : P (get_or (enumerate_from 0 sprites) k (0, d)) =
      All-get_or P (enumerate_from 0 sprites) k (0, d) (omega (arith, below, length-enumerate_from 0 sprites)) numbered in
      subst (λ n. P (n, get_or sprites k d)) (omega arith) (subst P (get_or-enumerate_from 0 sprites k (0, d) below) here)

numbers_from : (n : ℕ) (xs : List Size) → map (λ s. s.0) (enumerate_from n xs) ≡ range_with_len n (length xs)
numbers_from n [] = refl
numbers_from n (x ∷ xs) = ap (λ ns. n ∷ ns) (numbers_from (n + 1) xs)

-- The numbers of all sprites, in an order of them.
pub numbers_order : (sprites : List Size) (order : List (ℕ × Size)) → IsPermutation (enumerate_from 0 sprites) order
    → IsOrder (length sprites) (map (λ s. s.0) order)
numbers_order sprites order moved =
    subst (λ ns. IsPermutation ns (map (λ s. s.0) order)) (numbers_from 0 sprites)
    (IsPermutation-map (λ (s : ℕ × Size). s.0) (enumerate_from 0 sprites) order moved)

-- A sheet shows an order of all its sprites.
pub shown_order : (sheet : Sides) (spacing : Spacing) (turn : Bool) (sprites : List Size) (order : List ℕ)
    (placed : List (Option Placed))
    → IsShown sheet spacing turn sprites order placed → IsOrder (length sprites) order
shown_order sheet spacing turn sprites order placed shown =
    let long : length shown.lying ≡ length sprites = AllZip-long (MayLie turn) sprites shown.lying shown.arranged.lies in
    subst (IsOrder (length sprites)) shown.numbers
    (subst (λ n. IsOrder n (map (λ s. s.0) shown.numbered)) long (numbers_order shown.lying shown.numbered shown.arranged.permuted))
