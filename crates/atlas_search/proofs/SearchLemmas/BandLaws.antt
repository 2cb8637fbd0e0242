-- Bands keep the order of sides, boxes of one list are of one class, and the lists of a class are its window.
use Rattle.std.proofs.Common.{◌≡◌, ℕ, zero, suc, ◌+◌, ◌-◌, ◌/◌, ◌<◌, ◌≤◌, ◌⊎◌, inl, inr, ◌↔◌, ℤ, pos, negsuc, ◌≤ℤ◌, true, false}
use Rattle.std.proofs.Common.{nat_lt, refl, ◌∙◌, arith}
use Rattle.std.specs.Prelude.{if◌then◌else◌, int_le}
use Rattle.std.proofs.lemmas.Bool.{cases_Bool, cases_lt, cond_both, cond-true, cond-false, ltb-true, ltb-false, leb-true, leb-false}
use Rattle.std.proofs.lemmas.Bool.{le-leb, lt-leb}
use Rattle.std.proofs.lemmas.Bool.{or_cases, or_from, or_parts, both_ways}
use Rattle.std.proofs.lemmas.Int.{ints}
use Rattle.atlas_model.specs.Boxes.{Sides, IsPositive}
use Rattle.atlas_model.specs.Pixels.{natural}
use Rattle.atlas_model.specs.Choice.{Options, AreValid, class_of, reaches}
use Rattle.atlas_search.specs.Bands.{step_of, passes, band_of, list_of, border_of, start_of, IsInWindow}
use Rattle.atlas_search.proofs.SearchLemmas.BandSteps.{step_of-most}

-- ---- steps keep the order

abbrev from_128 : ℕ → ℕ
from_128 n = if nat_lt n 256 then 47 + (n - 128) / 64 else 49

abbrev from_64 : ℕ → ℕ
from_64 n = if nat_lt n 128 then 39 + (n - 64) / 8 else from_128 n

abbrev from_16 : ℕ → ℕ
from_16 n = if nat_lt n 64 then 15 + (n - 16) / 2 else from_64 n

-- One step of the ladder: below the limit `low`, above it `high`.
step_le : (limit a b : ℕ) (low high : ℕ → ℕ) → a ≤ b → low a ≤ low b → (limit ≤ a → high a ≤ high b)
    → (a < limit → limit ≤ b → low a ≤ high b)
    → (if nat_lt a limit then low a else high a) ≤ (if nat_lt b limit then low b else high b)
step_le limit a b low high l lows highs across = grind (arith, ltb-true, ltb-false)

least_128 : (n : ℕ) → 47 ≤ from_128 n
least_128 n = cond_both (nat_lt n 256) _ 49 (λ v. 47 ≤ v) (λ _. omega arith) (λ _. omega arith)

least_64 : (n : ℕ) → 39 ≤ from_64 n
least_64 n = cond_both (nat_lt n 128) _ (from_128 n) (λ v. 39 ≤ v) (λ _. omega arith) (λ _. omega (arith, least_128 n))

least_16 : (n : ℕ) → 15 ≤ from_16 n
least_16 n = cond_both (nat_lt n 64) _ (from_64 n) (λ v. 15 ≤ v) (λ _. omega arith) (λ _. omega (arith, least_64 n))

pub step_of-le : (a b : ℕ) → a ≤ b → step_of a ≤ step_of b
unfolding step_of
step_of-le a b l = grind (arith, step_le, least_128, least_64, least_16)

-- ---- thresholds

-- A threshold that is passed by a is passed by each greater side.
passed-le : (t : ℤ) (a b : ℕ) → a ≤ b → int_le t (pos a) ≡ true → int_le t (pos b) ≡ true
passed-le (pos m) a b l h = le-leb m b (omega (arith, leb-true m a h))
passed-le (negsuc m) a b l h = refl

passes-true : (t : ℤ) (n : ℕ) → int_le t (pos n) ≡ true → passes t n ≡ 1
passes-true t n h = cond-true (int_le t (pos n)) 1 0 h

passes-false : (t : ℤ) (n : ℕ) → int_le t (pos n) ≡ false → passes t n ≡ 0
passes-false t n h = cond-false (int_le t (pos n)) 1 0 h

passes-most : (t : ℤ) (n : ℕ) → passes t n ≤ 1
passes-most t n = cond_both (int_le t (pos n)) 1 0 (λ v. v ≤ 1) (λ _. omega arith) (λ _. omega arith)

pub passes-le : (t : ℤ) (a b : ℕ) → a ≤ b → passes t a ≤ passes t b
passes-le t a b l = grind (arith, cases_Bool, passes-most, passes-true, passed-le, passes-false)

-- ---- bands

pub band_mono : (o : Options) (a b : ℕ) → a ≤ b → band_of o a ≤ band_of o b
unfolding band_of
band_mono o a b l = grind (arith, step_of-le, passes-le)

pub band_of-less : (o : Options) (a b : ℕ) → band_of o a < band_of o b → a < b
band_of-less o a b l = elim (cases_lt a b) [ inl less ↦ less | inr more ↦ absurd (omega (arith, l, band_mono o b a more)) ]

pub band_below : (o : Options) (n : ℕ) → band_of o n < 52
unfolding band_of
band_below o n = grind (arith, step_of-most, passes-most)

-- A threshold of the options: the small or the large one.
abbrev pub IsThreshold : Options → ℤ → Type 0
IsThreshold o t = (t ≡ o.small_threshold) ⊎ (t ≡ o.large_threshold)

-- The band grows at a threshold of the options.
band_of-lt : (o : Options) (t : ℤ) (a b : ℕ) → IsThreshold o t → a ≤ b → int_le t (pos a) ≡ false
    → int_le t (pos b) ≡ true → band_of o a < band_of o b
unfolding band_of
band_of-lt o t a b (inl is) l below above = grind (arith, passes-false, passes-true, step_of-le, passes-le)
band_of-lt o t a b (inr is) l below above = grind (arith, passes-false, passes-true, step_of-le, passes-le)

pub border_of-most : (o : Options) (t : ℤ) → border_of o t < 52
border_of-most o t = cond_both (int_le t (pos 1)) 0 (band_of o (natural t)) (λ v. v < 52) (λ _. omega arith) (λ _. band_below o (natural t))

-- A side that passes a threshold has no band before its border.
border_of-passed : (o : Options) (t : ℤ) (n : ℕ) → int_le t (pos n) ≡ true → border_of o t ≤ band_of o n
border_of-passed o (pos m) n h = grind (arith, band_mono, leb-true)
border_of-passed o (negsuc m) n h = omega arith

-- And any other side has one.
border_of-not_passed : (o : Options) (t : ℤ) (n : ℕ) → IsThreshold o t → 0 < n → int_le t (pos n) ≡ false
    → band_of o n < border_of o t
border_of-not_passed o (pos m) n is some h =
    let less : n < m = leb-false m n h in
    cond_both (int_le (pos m) (pos 1)) 0 (band_of o m) (λ v. band_of o n < v)
    (λ e. absurd (omega (arith, leb-true m 1 e)))
    (λ _. band_of-lt o (pos m) n m is (omega arith) h (le-leb m m (omega arith)))
border_of-not_passed o (negsuc m) n is some h = absurd (both_ways true h refl)

pub natural_mono : (a b : ℤ) → a ≤ℤ b → natural a ≤ natural b
natural_mono (pos a) (pos b) l = omega (arith, ints)
natural_mono (pos a) (negsuc b) l = absurd (omega (arith, ints))
natural_mono (negsuc a) b l = omega arith

border_mono : (o : Options) (t u : ℤ) → t ≤ℤ u → border_of o t ≤ border_of o u
border_mono o t u l = grind (arith, cond-true, band_mono, natural_mono, le-leb, leb-true)

-- The windows of greater classes begin later.
pub start_mono : (o : Options) (c d : ℕ) → AreValid o → c ≤ d → d ≤ 3 → start_of o c ≤ start_of o d
start_mono o zero d valid l m = omega arith
start_mono o (suc zero) (suc zero) valid l m = omega arith
start_mono o (suc zero) (suc (suc zero)) valid l m = border_mono o o.small_threshold o.large_threshold valid.1
start_mono o (suc zero) (suc (suc (suc zero))) valid l m = omega (arith, border_of-most o o.small_threshold)
start_mono o (suc (suc zero)) (suc (suc zero)) valid l m = omega arith
start_mono o (suc (suc zero)) (suc (suc (suc zero))) valid l m = omega (arith, border_of-most o o.large_threshold)
start_mono o (suc (suc (suc zero))) (suc (suc (suc zero))) valid l m = omega arith
start_mono o (suc c) zero valid l m = absurd (omega arith)
start_mono o (suc (suc c)) (suc zero) valid l m = absurd (omega arith)
start_mono o (suc (suc (suc c))) (suc (suc zero)) valid l m = absurd (omega arith)
start_mono o (suc (suc (suc (suc c)))) (suc (suc (suc d))) valid l m = absurd (omega arith)
start_mono o c (suc (suc (suc (suc d)))) valid l m = absurd (omega arith)

-- ---- classes

module _ (o : Options) (s : Sides) where
  abbrev row : ℕ
  row = band_of o s.width

  abbrev column : ℕ
  column = band_of o s.height

  reached : (t : ℤ) → reaches t s ≡ true → (border_of o t ≤ row) ⊎ (border_of o t ≤ column)
  reached t h = grind (arith, or_cases, border_of-passed)

  not_reached : (t : ℤ) → IsThreshold o t → IsPositive s → reaches t s ≡ false
      → (row < border_of o t) × (column < border_of o t)
  not_reached t is positive h = grind (arith, or_parts, border_of-not_passed)

  -- The other way round.
  reaches_from : (t : ℤ) → IsThreshold o t → IsPositive s → (border_of o t ≤ row) ⊎ (border_of o t ≤ column)
      → reaches t s ≡ true
  reaches_from t is positive h = grind (arith, cases_Bool, not_reached)

  not_reaches_from : (t : ℤ) → row < border_of o t → column < border_of o t → reaches t s ≡ false
  not_reaches_from t p q = grind (arith, cases_Bool, reached)

  class-2 : reaches o.large_threshold s ≡ true → class_of o s ≡ 2
  class-2 h = cond-true (reaches o.large_threshold s) 2 _ h

  class-1 : reaches o.large_threshold s ≡ false → reaches o.small_threshold s ≡ true → class_of o s ≡ 1
  class-1 h k = cond-false (reaches o.large_threshold s) 2 _ h ∙ cond-true (reaches o.small_threshold s) 1 0 k

  class-0 : reaches o.large_threshold s ≡ false → reaches o.small_threshold s ≡ false → class_of o s ≡ 0
  class-0 h k = cond-false (reaches o.large_threshold s) 2 _ h ∙ cond-false (reaches o.small_threshold s) 1 0 k

  -- A valid small threshold is reached where the large one is.
  small-reached : AreValid o → reaches o.small_threshold s ≡ false → reaches o.large_threshold s ≡ false
  small-reached valid unmet = grind (arith, or_parts, or_from, lt-leb, leb-false, both_ways)

  module _ (valid : AreValid o) (positive : IsPositive s) where
    to-window-0 : class_of o s ≡ 0 → IsInWindow o 0 row column
    to-window-0 h = grind (arith, cases_Bool, not_reached, class-2, class-1)

    from-window-0 : IsInWindow o 0 row column → class_of o s ≡ 0
    from-window-0 w = let unmet = not_reaches_from o.small_threshold w.row_ends w.column_ends in class-0 (small-reached valid unmet) unmet

    to-window-1 : class_of o s ≡ 1 → IsInWindow o 1 row column
    to-window-1 h = grind (arith, cases_Bool, class-2, class-0, not_reached, reached)

    from-window-1 : IsInWindow o 1 row column → class_of o s ≡ 1
    from-window-1 w = class-1 (not_reaches_from o.large_threshold w.row_ends w.column_ends)
        (reaches_from o.small_threshold (inl refl) positive w.begins)

    to-window-2 : class_of o s ≡ 2 → IsInWindow o 2 row column
    to-window-2 h = grind (arith, cases_Bool, band_below, reached, class-1, class-0)

    from-window-2 : IsInWindow o 2 row column → class_of o s ≡ 2
    from-window-2 w = class-2 (reaches_from o.large_threshold (inr refl) positive w.begins)

-- The boxes of a class are those whose list lies in its window.
pub window_law : (o : Options) (s : Sides) (class : ℕ) → AreValid o → IsPositive s → class < 3
    → (class_of o s ≡ class) ↔ IsInWindow o class (band_of o s.width) (band_of o s.height)
window_law o s zero valid positive l = (to-window-0 o s valid positive, from-window-0 o s valid positive)
window_law o s (suc zero) valid positive l = (to-window-1 o s valid positive, from-window-1 o s valid positive)
window_law o s (suc (suc zero)) valid positive l = (to-window-2 o s valid positive, from-window-2 o s valid positive)
window_law o s (suc (suc (suc n))) valid positive l = absurd (omega arith)

pub class_of-most : (o : Options) (s : Sides) → class_of o s < 3
class_of-most o s = grind arith

-- ---- lists

pub list_of-most : (o : Options) (s : Sides) → list_of o s < 2704
list_of-most o s = omega (arith, band_below o s.width, band_below o s.height)
