use Rattle.std.proofs.Common.{◌≡◌, ◌∷◌, ◌∙◌, ap, sym, rules}
use Rattle.atlas_pack.specs.declared.quoted.Piece.TheVariants.{Scalar}
use Rattle.atlas_pack.proofs.QuotedTexts.{scalar_of}
use Rattle.atlas_pack.proofs.quoted.escaped.Goals as goal

pub returns-in_err-code-clause-only : goal.returns-in_err-code-clause-only
returns-in_err-code-clause-only c p rest begins =
    let is : c.args.text.now ≡ 117 ∷ c.in_ok-byte.rest.now = search rules in
    let found = scalar_of p _ _ rest is begins in
    absurd (c.in_err-code.ensures.only found.0 rest found.2)

pub returns-clause-only : goal.returns-clause-only
returns-clause-only c p rest begins =
    let is : c.args.text.now ≡ 117 ∷ c.in_ok-byte.rest.now = search rules in
    let found = scalar_of p _ _ rest is begins in
    let read = c.in_ok-code.ensures.only found.0 rest found.2 in
    (ap Scalar read.0 ∙ sym found.1, read.1)
