use Rattle.std.proofs.Common.{◌∷◌, List, ℕ, sym, subst}
use Rattle.atlas_pack.specs.Quoted.{BeginsWithUnit}
use Rattle.atlas_pack.proofs.quoted.second_half.Goals as goal

pub returns-in_err-low-clause-only : goal.returns-in_err-low-clause-only
returns-in_err-low-clause-only c code rest ends =
    let one = c.in_ok-text.ensures.only (117 ∷ ends.after) ends.whole in
    let two = c.in_ok-text-2.ensures.only ends.after one in
    absurd (c.in_err-low.ensures.only ends.low rest (subst (λ (t : List ℕ). BeginsWithUnit t ends.low rest) (sym two) ends.digits))
