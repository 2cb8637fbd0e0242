use Rattle.std.proofs.Common.{rules, Some}
use Rattle.std.proofs.lemmas.Iterator.{YieldsList-from_map, YieldsList-from_slice}
use Rattle.std.proofs.lemmas.Iterator.Adapters.{items_from_extend}
use Rattle.guillotiere.specs.declared.Rectangle.{Rectangle}
use Rattle.atlas_sheet.proofs.packing.somes.Goals as goal

pub returns-clause-places : goal.returns-clause-places
returns-clause-places g c =
    let added = items_from_extend c.extend.result c.extend.ensures.ran
    (YieldsList-from_map _ (λ (area : Rectangle). Some area) (YieldsList-from_slice c.args.places.now cc) c.map.ensures.closure
    (λ x r q k. search rules)) in
    search rules
