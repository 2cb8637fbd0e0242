-- Sprites that were sorted by a key, the greatest first.
use Rattle.std.proofs.Common.{◌≡◌, ◌+◌, ◌<◌, ◌≤◌, ℕ, true, false, not, ◌&&◌, List, length, get_or, Less, Equal, Greater, Ordering, is_lt}
use Rattle.std.proofs.Common.{nat_cmp, ap, refl, subst, arith}
use Rattle.std.specs.List.{AllAdjacentBelow, enumerate_from}
use Rattle.std.specs.List.Sorted.{IsSortedByKey, IsStableByKey}
use Rattle.std.specs.Ordering.{MatchOrdering}
use Rattle.std.specs.declared.cmp.Reverse.{Reverse}
use Rattle.std.proofs.lemmas.Cmp.{nat_cmp_total, ranked}
use Rattle.std.proofs.lemmas.List.FromFn.{get_or-enumerate_from, length-enumerate_from}
use Rattle.std.proofs.lemmas.List.Sorted.{IsStrictWeakOrder-flip, ranks_by, ties_stay_sorted}
use Rattle.std.proofs.lemmas.Map.Keys.{ge_from_not_lt}
use Rattle.guillotiere.specs.declared.Size.{Size}
use Rattle.guillotiere.specs.Pixels.{sides_of}
use Rattle.atlas_sheet.specs.declared.orders.Key.{Key}
use Rattle.atlas_sheet.specs.Dense.{IsByHeight, height_rank}
use Rattle.atlas_sheet.specs.Orders.{AreGreatestFirst, IsOrderOf, key_of}

-- The key by which numbered sprites are sorted, by what they count.
abbrev pub reversed_by : (ℕ × Size → ℕ) → ℕ × Size → Reverse ℕ
reversed_by counts s = record { 0 = counts s }

abbrev pub reversed_key : Key → ℕ × Size → Reverse ℕ
reversed_key key s = record { 0 = key_of key (sides_of s.1) }

abbrev pub reversed_order : Reverse ℕ → Reverse ℕ → Ordering
reversed_order x y = nat_cmp y.0 x.0

abbrev number : ℕ × Size → ℕ
number s = s.0

not_less : (a b : ℕ) → b ≤ a → is_lt (nat_cmp a b) ≡ false
not_less a b le = by_order (nat_cmp a b) (ranked a b (nat_cmp a b) refl)
  where
    by_order : (o : Ordering) → MatchOrdering o (a < b) (a ≡ b) (b < a) → is_lt o ≡ false
    by_order Less less = absurd (omega arith)
    by_order Equal same = refl
    by_order Greater more = refl

-- Numbered sprites are sorted by their numbers.
numbers_sorted : (sprites : List Size) → IsSortedByKey number nat_cmp (enumerate_from 0 sprites)
numbers_sorted sprites k d from below =
    let long = length-enumerate_from 0 sprites in
    let one : number (get_or (enumerate_from 0 sprites) k d) ≡ 0 + k = ap number (get_or-enumerate_from 0 sprites k d (omega arith)) in
    let next : number (get_or (enumerate_from 0 sprites) (k + 1) d) ≡ 0 + (k + 1) =
    ap number (get_or-enumerate_from 0 sprites (k + 1) d (omega arith)) in
    not_less (number (get_or (enumerate_from 0 sprites) (k + 1) d)) (number (get_or (enumerate_from 0 sprites) k d)) (omega arith)

-- Sprites that count alike keep their order.
alike : (counts : ℕ × Size → ℕ) (sprites : List Size) (order : List (ℕ × Size))
    → IsStableByKey (reversed_by counts) reversed_order (enumerate_from 0 sprites) order → (k : ℕ) (d : ℕ × Size)
    → k + 1 < length order
    → counts (get_or order k d) ≡ counts (get_or order (k + 1) d)
    → number (get_or order k d) ≤ number (get_or order (k + 1) d)
alike counts sprites order stable k d below same =
    let x = counts (get_or order k d) in
    let y = counts (get_or order (k + 1) d) in
    let tie : not (is_lt (nat_cmp y x)) && not (is_lt (nat_cmp x y)) ≡ true =
    λ i. not (not_less y x (omega arith) i) && not (not_less x y (omega arith) i) in
    ge_from_not_lt (number (get_or order (k + 1) d)) (number (get_or order k d))
    (ties_stay_sorted (λ s t. is_lt (nat_cmp (number s) (number t))) (λ s t. is_lt (nat_cmp (counts t) (counts s)))
    (ranks_by nat_cmp_total number)
    (IsStrictWeakOrder-flip (λ s t. is_lt (nat_cmp (counts s) (counts t))) (ranks_by nat_cmp_total counts))
    (enumerate_from 0 sprites) order (numbers_sorted sprites) stable k d below tie)

-- What counts more comes first, and what counts alike comes by its number.
pub counted_first : (counts : ℕ × Size → ℕ) (sprites : List Size) (numbered order : List (ℕ × Size))
    → numbered ≡ enumerate_from 0 sprites
    → IsSortedByKey (reversed_by counts) reversed_order order
    → IsStableByKey (reversed_by counts) reversed_order numbered order
    → AllAdjacentBelow (λ s t. (counts t ≤ counts s) × (counts s ≡ counts t → s.0 ≤ t.0)) order (length order)
counted_first counts sprites numbered order same sorted stable k d below = (
  ge_from_not_lt (counts (get_or order k d)) (counts (get_or order (k + 1) d)) (sorted k d (omega arith) (omega arith)),
  alike counts sprites order (subst (λ xs. IsStableByKey (reversed_by counts) reversed_order xs order) same stable) k d below,
)

pub greatest_first : (key : Key) (sprites : List Size) (numbered order : List (ℕ × Size))
    → numbered ≡ enumerate_from 0 sprites
    → IsSortedByKey (reversed_key key) reversed_order order
    → IsStableByKey (reversed_key key) reversed_order numbered order
    → AreGreatestFirst key order
greatest_first key sprites numbered order same sorted stable =
    counted_first (λ s. key_of key (sides_of s.1)) sprites numbered order same sorted stable

-- The key by which sprites are sorted that come by their height.
abbrev pub reversed_rank : ℕ × Size → Reverse ℕ
reversed_rank s = record { 0 = height_rank s.1 }

pub highest_first : (sprites : List Size) (numbered order : List (ℕ × Size)) → numbered ≡ enumerate_from 0 sprites
    → IsOrderOf sprites order
    → IsSortedByKey reversed_rank reversed_order order → IsStableByKey reversed_rank reversed_order numbered order
    → IsByHeight sprites order
highest_first sprites numbered order same moved sorted stable = record {
  permuted = moved;
  highest = counted_first (λ s. height_rank s.1) sprites numbered order same sorted stable;
}
