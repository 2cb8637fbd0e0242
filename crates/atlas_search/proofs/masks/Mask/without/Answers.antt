use Rattle.std.proofs.Common.{arith}
use Rattle.atlas_search.proofs.SearchLemmas.MaskBits.{without_this, without_others}
use Rattle.atlas_search.proofs.masks.Mask.without.Goals as goal

pub returns-clause-this : goal.returns-clause-this
returns-clause-this c = without_this c.args.self.bits c.args.k c.requires

pub returns-clause-others : goal.returns-clause-others
returns-clause-others c = λ j apart. without_others c.args.self.bits c.args.k j (omega arith) c.requires apart
