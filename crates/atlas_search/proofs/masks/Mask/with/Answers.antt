use Rattle.atlas_search.proofs.SearchLemmas.MaskBits.{with_this, with_others}
use Rattle.atlas_search.proofs.masks.Mask.with.Goals as goal

pub returns-clause-this : goal.returns-clause-this
returns-clause-this c = with_this c.args.self.bits c.args.k c.requires

pub returns-clause-others : goal.returns-clause-others
returns-clause-others c = λ j apart. with_others c.args.self.bits c.args.k j c.requires apart
