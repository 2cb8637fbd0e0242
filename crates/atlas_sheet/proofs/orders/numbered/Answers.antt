use Rattle.std.proofs.Common.{rules}
use Rattle.std.proofs.lemmas.Iterator.{YieldsList-from_slice}
use Rattle.std.proofs.lemmas.Iterator.Adapters.{items_from_extend}
use Rattle.std.proofs.lemmas.Iterator.Consumers.{YieldsList-from_copied, YieldsList-from_enumerate}
use Rattle.atlas_sheet.proofs.orders.numbered.Goals as goal

pub returns-clause-numbered : goal.returns-clause-numbered
returns-clause-numbered g c =
    let added = items_from_extend c.extend.result c.extend.ensures.ran
    (YieldsList-from_enumerate (YieldsList-from_copied (YieldsList-from_slice c.args.sprites.now cc)) cc) in
    search rules
