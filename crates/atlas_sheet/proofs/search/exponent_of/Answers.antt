use Rattle.atlas_sheet.proofs.Powers.{small_exponent}
use Rattle.atlas_sheet.proofs.search.exponent_of.Goals as goal

pub returns-clause-small : goal.returns-clause-small
returns-clause-small c = small_exponent c.ilog2.result c.args.side c.ilog2.ensures.power_le c.requires.small
