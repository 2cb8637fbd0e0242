-- The text of a number, one digit at a time.
use Rattle.std.proofs.Common.{◌≡◌, ℕ, ◌+◌, ◌-◌, ◌/◌, ◌%◌, ◌^◌, ◌<◌, ◌≤◌, List, ◌++◌, length, drop, set, decimal, refl, ap, ◌∙◌, arith}
use Rattle.std.proofs.Common.{append_assoc, length-append}
use Rattle.std.proofs.lemmas.Fmt.{decimal_digit, decimal_step, length-decimal-le}
use Rattle.std.proofs.lemmas.List.{drop-set}

pub short_decimal : (n : ℕ) → n < 2 ^ 64 → length (decimal n) ≤ 20
short_decimal n h = length-decimal-le 20 n (omega arith) (omega arith) h

pub length_step : (n : ℕ) → 10 ≤ n → n < 2 ^ 64 → length (decimal n) ≡ length (decimal (n / 10)) + 1
length_step n low high = ap length (decimal_step n low high) ∙ length-append _ _

-- One more digit before those that stand.
pub one_digit_more : (n start : ℕ) (digits : List ℕ) → 10 ≤ n → n < 2 ^ 64 → 0 < start → start ≤ length digits
    → decimal (n / 10) ++ drop (start - 1) (set digits (start - 1) (48 + n % 10)) ≡ decimal n ++ drop start digits
one_digit_more n start digits low high above within =
    let e : (start - 1) + 1 ≡ start = omega arith in
    rw (drop-set digits (start - 1) _ (omega arith), e, decimal_step n low high, append_assoc) refl

pub last_digit : (n start : ℕ) (digits : List ℕ) → n < 10 → 0 < start → start ≤ length digits
    → drop (start - 1) (set digits (start - 1) (48 + n)) ≡ decimal n ++ drop start digits
last_digit n start digits low above within =
    let e : (start - 1) + 1 ≡ start = omega arith in
    rw (drop-set digits (start - 1) _ (omega arith), e, decimal_digit n low) refl

-- Four parts, added one after another.
pub four_parts : (t0 t1 t2 t3 t4 a b c d : List ℕ) → t1 ≡ t0 ++ a → t2 ≡ t1 ++ b → t3 ≡ t2 ++ c → t4 ≡ t3 ++ d
    → t4 ≡ t0 ++ (((a ++ b) ++ c) ++ d)
four_parts t0 t1 t2 t3 t4 a b c d e f g h = rw (h, g, f, e) (simp append_assoc)
