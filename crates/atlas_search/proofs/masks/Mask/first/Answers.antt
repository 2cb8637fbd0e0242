use Rattle.std.proofs.Common.{inl, inr, ap, arith}
use Rattle.std.specs.Int.Count.{count_trailing_zeros, trailing_of_zero}
use Rattle.std.proofs.lemmas.Bool.{cases_eq}
use Rattle.atlas_search.proofs.SearchLemmas.MaskBits.{first_has, zeros_least}
use Rattle.atlas_search.proofs.masks.Mask.first.Goals as goal

pub returns-clause-least : goal.returns-clause-least
returns-clause-least c = λ k. zeros_least c.args.self.bits k (omega arith)

pub returns-clause-some : goal.returns-clause-some
returns-clause-some c l = elim (cases_eq c.args.self.bits 0) [
  | inl e ↦ absurd (omega (arith, l, ap (count_trailing_zeros 64) e, trailing_of_zero 64))
  | inr ne ↦ (first_has c.args.self.bits ne (omega arith)).0
]
