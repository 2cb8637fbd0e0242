-- Two lists that count the same for each test add up to the same.
use Rattle.std.proofs.Common.{◌≡◌, ℕ, zero, suc, ◌+◌, ◌≤◌, min, Bool, List, [], ◌∷◌, map, refl, sym, ◌∙◌, arith}
use Rattle.std.proofs.lemmas.List.Sums.{sum_by-cons}
use Rattle.std.specs.List.{count_by, sum_by}
use Rattle.std.specs.Prelude.{nat_lt}
use Rattle.atlas_model.proofs.TreeLemmas.TreeBasics.{one_if}
use Rattle.atlas_model.proofs.ListLemmas.ListCounts.{count_by-cons}

module _ {X : Type 0} (f : X → ℕ) where
  abbrev above : ℕ → X → Bool
  above m x = nat_lt m (f x)

  -- How many have f above 0, above 1, and so on below m.
  abbrev layers : ℕ → List X → ℕ
  layers zero xs = 0
  layers (suc m) xs = layers m xs + count_by (above m) xs

  layers-nil : (m : ℕ) → layers m [] ≡ 0
  layers-nil zero = refl
  layers-nil (suc m) = omega (arith, layers-nil m)

  one_above : (m n : ℕ) → one_if (nat_lt m n) + min n m ≡ min n (suc m)
  one_above m n = grind arith

  layers-cons : (m : ℕ) (x : X) (xs : List X) → layers m (x ∷ xs) ≡ min (f x) m + layers m xs
  layers-cons zero x xs = omega arith
  layers-cons (suc m) x xs = omega (arith, layers-cons m x xs, count_by-cons (above m) x xs, one_above m (f x))

  layers-sum : (m : ℕ) (xs : List X) → sum_by f xs ≤ m → layers m xs ≡ sum_by f xs
  layers-sum m [] h = layers-nil m
  layers-sum m (x ∷ xs) h =
      let all = sum_by-cons f x xs in
      omega (arith, layers-cons m x xs, layers-sum m xs (omega (arith, all)), all)

  layers-same : (m : ℕ) (xs ys : List X) → ((p : X → Bool) → count_by p xs ≡ count_by p ys) → layers m xs ≡ layers m ys
  layers-same zero xs ys same = refl
  layers-same (suc m) xs ys same = omega (arith, layers-same m xs ys same, same (above m))

  pub sum_by-counts : (xs ys : List X) → ((p : X → Bool) → count_by p xs ≡ count_by p ys) → sum_by f xs ≡ sum_by f ys
  sum_by-counts xs ys same =
      let m = sum_by f xs + sum_by f ys in
      sym (layers-sum m xs (omega arith)) ∙ layers-same m xs ys same ∙ layers-sum m ys (omega arith)

-- A sum over mapped elements.
pub sum_by-map : {X Y : Type 0} (f : Y → ℕ) (g : X → Y) (xs : List X) → sum_by f (map g xs) ≡ sum_by (λ x. f (g x)) xs
sum_by-map f g [] = refl
sum_by-map f g (x ∷ xs) = omega (arith, sum_by-cons f (g x) (map g xs), sum_by-cons (λ x. f (g x)) x xs, sum_by-map f g xs)
