use Rattle.std.proofs.Common.{rules}
use Rattle.std.proofs.lemmas.Iterator.{YieldsList-from_map, YieldsList-from_slice}
use Rattle.std.proofs.lemmas.Iterator.Adapters.{items_from_extend}
use Rattle.atlas_sheet.specs.Grouping.{is_in}
use Rattle.atlas_sheet.proofs.picking.row_of.Goals as goal

pub returns-clause-row : goal.returns-clause-row
returns-clause-row g c =
    let added = items_from_extend c.extend.result c.extend.ensures.ran
    (YieldsList-from_map _ (is_in c.args.group) (YieldsList-from_slice c.args.groups.now cc) c.map.ensures.closure
    (λ x r q k. search rules)) in
    search rules
