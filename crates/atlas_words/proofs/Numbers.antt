-- The value of digits.
use Rattle.std.proofs.Common.{◌≡◌, ℕ, ◌+◌, ◌*◌, ◌^◌, ◌<◌, ◌≤◌, List, [], ◌∷◌, length, sym, ap, ◌∙◌, arith}
use Rattle.std.specs.Char.{digit_value}
use Rattle.std.specs.Str.Parse.{AllDigits, digits_value_after}
use Rattle.atlas_words.specs.Grammar.{SpellsUnsigned}

-- More digits make no number smaller.
pub after_ge : (n : ℕ) (digits : List ℕ) → n ≤ digits_value_after 10 n digits
after_ge n [] = omega arith
after_ge n (c ∷ cs) = let h = after_ge (n * 10 + digit_value c) cs in omega arith

-- A number that is too great already spells nothing.
pub too_great : (value byte n : ℕ) (rest tail text : List ℕ) → rest ≡ byte ∷ tail
    → digits_value_after 10 value rest ≡ digits_value_after 10 0 text
    → 2 ^ 32 ≤ value * 10 + digit_value byte → SpellsUnsigned n text → ⊥
too_great value byte n rest tail text e same great spells =
    let long = after_ge (value * 10 + digit_value byte) tail in
    let whole : digits_value_after 10 (value * 10 + digit_value byte) tail ≡ digits_value_after 10 0 text =
    sym (ap (digits_value_after 10 value) e) ∙ same in
    omega (arith, spells.1, spells.2)

-- At the end of the digits.
pub all_read : (value : ℕ) (rest text : List ℕ) → length rest ≡ 0 → 0 < length text
    → (AllDigits 10 rest → AllDigits 10 text)
    → digits_value_after 10 value rest ≡ digits_value_after 10 0 text → value < 2 ^ 32 → SpellsUnsigned value text
all_read value [] text e some digits same small = ((some, digits tt), same, small)
all_read value (c ∷ cs) text e some digits same small = absurd (omega arith)
