-- The numbers of a mask after each operation on its bits.
use Rattle.std.proofs.Common.{◌≡◌, ◌≢◌, ℕ, zero, suc, ◌+◌, ◌-◌, ◌*◌, ◌/◌, ◌%◌, ◌^◌, ◌<◌, ◌≤◌, inl, inr, min, max, Bool, true, false, not}
use Rattle.std.proofs.Common.{◌&&◌, ◌||◌, ◌==◌, nat_le, nat_lt, refl, sym, ap, ◌∙◌, arith, w64, bit_and, bit_or, rules}
use Rattle.std.proofs.Math.Nat.{mod-eq_of_lt}
use Rattle.std.specs.Int.{bit_at, trailing_zeros}
use Rattle.std.specs.Int.Bits.{and_self}
use Rattle.std.specs.Int.Count.{count_trailing_zeros}
use lib.Count.{under}
use Rattle.std.proofs.lemmas.Nat.{one_shl, shr-shr, shr_split, and_shr, pow_pos}
use Rattle.std.proofs.lemmas.Nat.Bits.{bit_at-zero, bit_at_lowest, bit_at-suc, bit_at_and, bit_at_or, bit_at_ones, bit_at_ones_above}
use Rattle.std.proofs.lemmas.Nat.Bits.{bit_at_above, bit_at-lt, bit_at_cat_low, bit_at_cat_high, bit_at_set_same, bit_at_set_other}
use Rattle.std.proofs.lemmas.Nat.Bits.{bit_at_clear_same, bit_at_clear_other, bit_at-trailing_zeros}
use Rattle.std.proofs.lemmas.Bool.{cases_lt, lt-ltb, le-ltb, le-leb, lt-leb, eq-eqb, ne_eqb, and_right, both_ways}
use Rattle.atlas_search.specs.declared.masks.Mask.{Mask}
use Rattle.atlas_search.specs.Masks.{has, IsMarked}

abbrev pub of_bits : ℕ → Mask
of_bits n = record { bits = n }

-- Whether a bit is set, as `has` tests it.
abbrev is_one : ℕ → Bool
is_one x = x == 1

and_true : (b : Bool) → b ≡ (b && true)
and_true b = grind arith

pub none-has : (k : ℕ) → has (of_bits 0) k ≡ false
unfolding has
none-has k = ap is_one (bit_at-zero k)

pub some_has : (n : ℕ) → (n ≡ 0 → ⊥) → n < 2 ^ 64 → (k : ℕ) × IsMarked (of_bits n) k
unfolding has
some_has n some fits = (trailing_zeros w64 n, ap is_one (bit_at-trailing_zeros w64 n (omega arith) fits).1)

pub with_this : (n k : ℕ) → k < 64 → has (of_bits (bit_or n (1 * 2 ^ k % 2 ^ 64))) k ≡ true
unfolding has
with_this n k within = ap is_one (bit_at_set_same w64 n k within)

pub with_others : (n k j : ℕ) → k < 64 → j ≢ k → has (of_bits (bit_or n (1 * 2 ^ k % 2 ^ 64))) j ≡ has (of_bits n) j
unfolding has
with_others n k j within apart = ap is_one (bit_at_set_other w64 n k within j apart)

pub without_this : (n k : ℕ) → k < 64 → has (of_bits (bit_and n (2 ^ 64 - 1 - 1 * 2 ^ k % 2 ^ 64))) k ≡ false
unfolding has
without_this n k within = ap is_one (bit_at_clear_same w64 n k within)

-- Past the 64 bits there is none, whatever the other operand.
and_above : (n m j : ℕ) → n < 2 ^ 64 → 64 ≤ j → bit_at (bit_and n m) j ≡ bit_at n j
and_above n m j fits more = grind (arith, bit_at_above n 64 j fits more, bit_at_and n m j)

pub without_others : (n k j : ℕ) → n < 2 ^ 64 → k < 64 → j ≢ k
    → has (of_bits (bit_and n (2 ^ 64 - 1 - 1 * 2 ^ k % 2 ^ 64))) j ≡ has (of_bits n) j
unfolding has
without_others n k j fits within apart =
    ap is_one (elim (cases_lt j 64) [
      | inl l ↦ bit_at_clear_other w64 n k within j l apart
      | inr g ↦ and_above n
          (2 ^ 64 - 1 - 1 * 2 ^ k % 2 ^ 64) j fits g
    ])

from_low : (n k j : ℕ) → n < 2 ^ 64 → j < k → bit_at (n / 2 ^ k * 2 ^ k % 2 ^ 64) j ≡ 0
from_low n k j fits l =
    let whole : n / 2 ^ k * 2 ^ k + 0 ≡ n / 2 ^ k * 2 ^ k = omega arith in
    ap (λ x. bit_at x j) (mod-eq_of_lt (omega (arith, shr_split n k, fits)) ∙ sym whole) ∙ bit_at_cat_low (n / 2 ^ k) k 0 j l ∙
    bit_at-zero j

from_high : (n k j : ℕ) → n < 2 ^ 64 → k ≤ j → bit_at (n / 2 ^ k * 2 ^ k % 2 ^ 64) j ≡ bit_at n j
from_high n k j fits g =
    let whole : n / 2 ^ k * 2 ^ k + 0 ≡ n / 2 ^ k * 2 ^ k = omega arith in
    let back : k + (j - k) ≡ j = omega arith in
    ap (λ x. bit_at x j) (mod-eq_of_lt (omega (arith, shr_split n k, fits)) ∙ sym whole) ∙ bit_at_cat_high (n / 2 ^ k) k 0 j (pow_pos k) g
    ∙ ap (λ x. x % 2) (shr-shr n k (j - k)) ∙ ap (bit_at n) back

pub from_has : (n k j : ℕ) → n < 2 ^ 64
    → has (of_bits (n / 2 ^ k * 2 ^ k % 2 ^ 64)) j ≡ (has (of_bits n) j && nat_le k j)
unfolding has
from_has n k j fits = grind (arith, from_low, and_right, lt-leb, from_high, and_true, le-leb)

below_is : (n k j : ℕ) → k < 64
    → bit_at (bit_and n (1 * 2 ^ k % 2 ^ 64 - 1)) j ≡ min (bit_at n j) (bit_at (2 ^ k - 1) j)
below_is n k j within = ap (λ m. bit_at (bit_and n (m - 1)) j) (one_shl k 64 within) ∙ bit_at_and n (2 ^ k - 1) j

min_one : (x : ℕ) → x < 2 → min x 1 ≡ x
min_one x l = omega arith

min_zero : (x : ℕ) → min x 0 ≡ 0
min_zero x = omega arith

pub below_has : (n k j : ℕ) → k < 64
    → has (of_bits (bit_and n (1 * 2 ^ k % 2 ^ 64 - 1))) j ≡ (has (of_bits n) j && nat_lt j k)
unfolding has
below_has n k j within =
    grind (arith, below_is n k, bit_at_ones, bit_at_ones_above, min_one, min_zero, bit_at-lt n, and_true, and_right, lt-ltb, le-ltb)

-- ---- `n & (n - 1)` is without the lowest bit

lowest_gone : (n : ℕ) → bit_at (bit_and n (n - 1)) 0 ≡ min (n % 2) ((n - 1) % 2)
lowest_gone n = search (rules, bit_at_and, bit_at_lowest)

above_lowest : (n i : ℕ) → bit_at (bit_and n (n - 1)) (suc i) ≡ bit_at (bit_and (n / 2) ((n - 1) / 2)) i
above_lowest n i = bit_at-suc (bit_and n (n - 1)) i ∙ ap (λ x. bit_at x i) (and_shr n (n - 1) 1)

others_by : (n t d j : ℕ) → 0 < n → n % 2 ≡ d
    → ((i : ℕ) → n % 2 ≡ 0 → i ≢ t → bit_at (bit_and (n / 2) (n / 2 - 1)) i ≡ bit_at (n / 2) i)
    → j ≢ under d t → bit_at (bit_and n (n - 1)) j ≡ bit_at n j
others_by n t zero zero some e rest apart = grind (arith, lowest_gone, bit_at_lowest)
others_by n t zero (suc i) some e rest apart = grind (arith, above_lowest, bit_at-suc)
others_by n t (suc d) zero some e rest apart = absurd (apart refl)
others_by n t (suc d) (suc i) some e rest apart =
    let half : (n - 1) / 2 ≡ n / 2 = omega arith in
    above_lowest n i ∙ ap (λ x. bit_at (bit_and (n / 2) x) i) half ∙ ap (λ x. bit_at x i) (and_self (n / 2)) ∙ sym (bit_at-suc n i)

others_stay : (w n j : ℕ) → 0 < n → n < 2 ^ w → j ≢ count_trailing_zeros w n → bit_at (bit_and n (n - 1)) j ≡ bit_at n j
unfolding count_trailing_zeros
others_stay zero n j some fits apart = absurd (omega arith)
others_stay (suc w) n j some fits apart = grind (arith, others_by, others_stay w (n / 2))

this_by : (n t d : ℕ) → 0 < n → n % 2 ≡ d → (n % 2 ≡ 0 → bit_at (bit_and (n / 2) (n / 2 - 1)) t ≡ 0)
    → bit_at (bit_and n (n - 1)) (under d t) ≡ 0
this_by n t zero some e rest = grind (arith, above_lowest)
this_by n t (suc d) some e rest = grind (arith, lowest_gone)

this_goes : (w n : ℕ) → 0 < n → n < 2 ^ w → bit_at (bit_and n (n - 1)) (count_trailing_zeros w n) ≡ 0
unfolding count_trailing_zeros
this_goes zero n some fits = absurd (omega arith)
this_goes (suc w) n some fits =
    this_by n (count_trailing_zeros w (n / 2)) (n % 2) some refl (λ e. this_goes w (n / 2) (omega arith) (omega arith))

pub rest_has : (n j : ℕ) → (n ≡ 0 → ⊥) → n < 2 ^ 64
    → has (of_bits (bit_and n (n - 1))) j ≡ (has (of_bits n) j && not (j == count_trailing_zeros 64 n))
unfolding has
rest_has n j some fits =
    grind (
      arith,
      this_goes 64 n (omega arith) fits,
      and_right (is_one (bit_at n j)),
      eq-eqb j,
      others_stay 64 n j (omega arith) fits,
      and_true (is_one (bit_at n j)),
      ne_eqb j,
    )

pub first_has : (n : ℕ) → (n ≡ 0 → ⊥) → n < 2 ^ 64
    → IsMarked (of_bits n) (count_trailing_zeros 64 n)
    × ((j : ℕ) → IsMarked (of_bits n) j → count_trailing_zeros 64 n ≤ j)
unfolding has
first_has n some fits = grind (arith, bit_at-trailing_zeros w64 n (omega arith) fits, both_ways)

one_of_max : (a b : ℕ) → a < 2 → b < 2 → is_one (max a b) ≡ (is_one a || is_one b)
one_of_max a b p q = grind arith

pub or_has : (n m j : ℕ) → has (of_bits (bit_or n m)) j ≡ (has (of_bits n) j || has (of_bits m) j)
unfolding has
or_has n m j = ap is_one (bit_at_or n m j) ∙ one_of_max (bit_at n j) (bit_at m j) (bit_at-lt n j) (bit_at-lt m j)

-- The number of zeros below the lowest bit is at most each number.
pub zeros_least : (n k : ℕ) → n < 2 ^ 64 → IsMarked (of_bits n) k → count_trailing_zeros 64 n ≤ k
zeros_least n k fits h = grind (arith, both_ways (has (of_bits n) k), none-has k, first_has n)
