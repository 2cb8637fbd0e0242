use Rattle.std.proofs.Common.{◌∙◌, ap, arith}
use Rattle.atlas_search.specs.Masks.{has}
use Rattle.atlas_search.proofs.SearchLemmas.MaskBits.{of_bits, none-has, first_has, rest_has}
use Rattle.atlas_search.proofs.masks.Mask.take_first.Goals as goal

pub returns-then-self-eq0-clause-none : goal.returns-then-self-eq0-clause-none
returns-then-self-eq0-clause-none c = λ _ k. ap (λ n. has (of_bits n) k) c.if-self-eq0.true ∙ none-has k

pub returns-clause-first : goal.returns-clause-first
returns-clause-first c = first_has c.args.self.now.bits c.if-self-eq0.false (omega arith)

pub returns-clause-rest : goal.returns-clause-rest
returns-clause-rest c = λ j. rest_has c.args.self.now.bits j c.if-self-eq0.false (omega arith)
