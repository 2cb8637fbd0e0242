use Rattle.std.proofs.Common.{◌∙◌, ap, arith}
use Rattle.std.proofs.lemmas.Bool.{eqb-true, eqb-false}
use Rattle.atlas_search.specs.Masks.{has}
use Rattle.atlas_search.proofs.SearchLemmas.MaskBits.{of_bits, none-has, some_has}
use Rattle.atlas_search.proofs.masks.Mask.is_empty.Goals as goal

pub returns-clause-empty : goal.returns-clause-empty
returns-clause-empty c = λ e k. ap (λ n. has (of_bits n) k) (eqb-true c.args.self.bits 0 e) ∙ none-has k

pub returns-clause-some : goal.returns-clause-some
returns-clause-some c = λ e. some_has c.args.self.bits (eqb-false c.args.self.bits 0 e) (omega arith)
