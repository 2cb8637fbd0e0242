use Rattle.std.proofs.Common.{◌≡◌, ◌+◌, arith, rules}
use Rattle.std.specs.Char.{digit_value}
use Rattle.std.proofs.lemmas.Str.{digit_value_digit}
use Rattle.atlas_words.proofs.Numbers.{too_great, all_read}
use Rattle.atlas_words.proofs.words.unsigned.Goals as goal

pub returns-in_err-checked_mul-clause-only : goal.returns-in_err-checked_mul-clause-only
returns-in_err-checked_mul-clause-only c n spells =
    absurd (too_great c.loop-byte.value c.in-Some.byte.now n c.loop-byte.rest.now c.in-Some.tail.now _ (search rules)
    c.loop-byte.invariant.value
    (omega (arith, c.in_err-checked_mul.ensures)) spells)

pub returns-in_err-value-clause-only : goal.returns-in_err-value-clause-only
returns-in_err-value-clause-only c n spells =
    let value : digit_value c.in-Some.byte.now + 48 ≡ c.in-Some.byte.now = digit_value_digit _ (search rules) in
    absurd (too_great c.loop-byte.value c.in-Some.byte.now n c.loop-byte.rest.now c.in-Some.tail.now _ (search rules)
    c.loop-byte.invariant.value
    (omega (arith, c.in_err-value.ensures, c.in_ok-checked_mul.ensures, c.from.ensures)) spells)

pub returns-clause-found : goal.returns-clause-found
returns-clause-found c =
    all_read c.loop-byte.value c.loop-byte.rest.now _ (search rules) (search rules) c.loop-byte.invariant.digits.0
    c.loop-byte.invariant.value c.loop-byte.invariant.fits
