use Rattle.atlas_search.proofs.SearchLemmas.MaskBits.{or_has}
use Rattle.atlas_search.proofs.masks.Mask.or.Goals as goal

pub returns : goal.returns
returns c = λ j. or_has c.args.self.bits c.args.other.bits j
