use Rattle.atlas_search.proofs.SearchLemmas.MaskBits.{below_has}
use Rattle.atlas_search.proofs.masks.Mask.below.Goals as goal

pub returns : goal.returns
returns c = λ j. below_has c.args.self.bits c.args.k j c.requires
