use Rattle.std.proofs.Common.{rules, cond, None}
use Rattle.std.proofs.lemmas.Iterator.{YieldsList-from_map, YieldsList-from_slice}
use Rattle.std.proofs.lemmas.Iterator.Adapters.{items_from_extend}
use Rattle.atlas_sheet.specs.Grouping.{is_in}
use Rattle.atlas_sheet.proofs.groups.without.Goals as goal

pub returns-clause-without : goal.returns-clause-without
returns-clause-without g c =
    let added = items_from_extend c.extend.result c.extend.ensures.ran
    (YieldsList-from_map _ (λ n. cond (is_in c.args.group n) None n) (YieldsList-from_slice c.args.groups.now cc) c.map.ensures.closure
    (λ x r q k. search rules)) in
    search rules
