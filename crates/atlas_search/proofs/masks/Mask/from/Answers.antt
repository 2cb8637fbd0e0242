use Rattle.std.proofs.Common.{arith}
use Rattle.atlas_search.proofs.SearchLemmas.MaskBits.{from_has}
use Rattle.atlas_search.proofs.masks.Mask.from.Goals as goal

pub returns : goal.returns
returns c = λ j. from_has c.args.self.bits c.args.k j (omega arith)
