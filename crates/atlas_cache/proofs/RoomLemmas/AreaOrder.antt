-- Allocations that were sorted by their areas, the largest first.
use Rattle.std.proofs.Common.{◌+◌, ◌≡◌, ◌==◌, ◌≤◌, ◌&&◌, not, pos, ℕ, Bool, List, [], ◌∷◌, length, get_or, filter, Ordering, refl, sym, ap}
use Rattle.std.proofs.Common.{◌∙◌, arith}
use Rattle.std.specs.List.{AllAdjacentBelow}
use Rattle.std.specs.List.Sorted.{ties, IsSortedByKey, IsStableByKey}
use Rattle.std.specs.Ordering.{is_lt, nat_cmp}
use Rattle.std.specs.declared.cmp.Reverse.{Reverse}
use Rattle.std.proofs.lemmas.Map.Keys.{ge_from_not_lt}
use Rattle.guillotiere.specs.declared.Allocation.{Allocation}
use Rattle.atlas_cache.specs.Repacking.{area_held}

-- The key by which allocations are sorted, and its order.
abbrev pub reversed_area : Allocation → Reverse ℕ
reversed_area a = record { 0 = area_held a }

abbrev pub reversed_order : Reverse ℕ → Reverse ℕ → Ordering
reversed_order x y = nat_cmp y.0 x.0

pub areas_fall : (order : List Allocation) → IsSortedByKey reversed_area reversed_order order
    → AllAdjacentBelow (λ a b. area_held b ≤ area_held a) order (length order)
areas_fall order sorted k d below =
    ge_from_not_lt (area_held (get_or order k d)) (area_held (get_or order (k + 1) d)) (sorted k d (omega arith) (omega arith))

-- An allocation of an area.
abbrev of_area : ℕ → Allocation
of_area n = record { id = 0; rectangle = record { min = record { x = pos 0; y = pos 0 }; max = record { x = pos n; y = pos 1 } } }

area_is : (n : ℕ) → area_held (of_area n) ≡ n
area_is n = omega arith

equal_ties : (m n : ℕ) → (not (is_lt (nat_cmp m n)) && not (is_lt (nat_cmp n m))) ≡ (m == n)
equal_ties m n = grind arith

module _ {X : Type 0} (p q : X → Bool) (same : (x : X) → p x ≡ q x) where
  same_filter : (xs : List X) → filter p xs ≡ filter q xs
  same_filter [] = refl
  same_filter (x ∷ xs) = grind (arith, same x, same_filter xs)

pub ties_stay : (held order : List Allocation) → IsStableByKey reversed_area reversed_order held order → (n : ℕ)
    → filter (λ a. area_held a == n) order ≡ filter (λ a. area_held a == n) held
ties_stay held order stable n =
    let tie : Allocation → Bool = ties (λ x y. is_lt (reversed_order (reversed_area x) (reversed_area y))) (of_area n) in
    let same : (a : Allocation) → tie a ≡ (area_held a == n) =
    λ a. ap (λ k. not (is_lt (nat_cmp (area_held a) k)) && not (is_lt (nat_cmp k (area_held a)))) (area_is n) ∙
    equal_ties (area_held a) n in
    sym (same_filter tie (λ a. area_held a == n) same order) ∙ stable (of_area n) ∙ same_filter tie (λ a. area_held a == n) same held
