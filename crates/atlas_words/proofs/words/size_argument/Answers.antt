use Rattle.std.proofs.Common.{◌≡◌, arith}
use Rattle.std.proofs.lemmas.Int.{to_z-of_z}
use Rattle.atlas_words.proofs.PartedWords.{next_begins, same_size}
use Rattle.atlas_words.proofs.words.size_argument.Goals as goal

pub returns-in_err-width-clause-only : goal.returns-in_err-width-clause-only
returns-in_err-width-clause-only c size rest begins = absurd (c.in_err-width.ensures.only size.width begins.middle begins.width)

pub returns-in_err-height-clause-only : goal.returns-in_err-height-clause-only
returns-in_err-height-clause-only c size rest begins =
    let width = c.in_ok-width.ensures.only size.width begins.middle begins.width in
    absurd (c.in_err-height.ensures.only size.height rest (next_begins size _ _ rest begins width.1))

pub returns-clause-only : goal.returns-clause-only
returns-clause-only c size rest begins =
    let width = c.in_ok-width.ensures.only size.width begins.middle begins.width in
    let height = c.in_ok-height.ensures.only size.height rest (next_begins size _ _ rest begins width.1) in
    let w : c.size2.result.width ≡ size.width = grind (arith, to_z-of_z) in
    let h : c.size2.result.height ≡ size.height = grind (arith, to_z-of_z) in
    (same_size _ size w h, height.1)
