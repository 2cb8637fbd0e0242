use Rattle.std.proofs.Common.{rules, arith}
use Rattle.std.proofs.lemmas.Int.{to_z-of_z}
use Rattle.atlas_words.proofs.PartedWords.{spelled_word}
use Rattle.atlas_words.proofs.words.number_argument.Goals as goal

pub returns-in_err-number-clause-only : goal.returns-in_err-number-clause-only
returns-in_err-number-clause-only c z rest begins =
    let word = spelled_word c.args.text.now c.in_ok-first.after.now _ _ rest c.in_ok-first.first.now z (search rules) c.first_word.ensures
    begins in
    let read = c.in_err-number.ensures.only z word.0 in
    absurd (cc)

pub returns-clause-only : goal.returns-clause-only
returns-clause-only c z rest begins =
    let word = spelled_word c.args.text.now c.in_ok-first.after.now _ _ rest c.in_ok-first.first.now z (search rules) c.first_word.ensures
    begins in
    let read = c.in_ok-number.ensures.only z word.0 in
    (grind (arith, to_z-of_z), word.1)
