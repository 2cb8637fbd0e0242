use Rattle.std.proofs.Common.{ℕ, rules}
use Rattle.std.proofs.lemmas.Iterator.{YieldsList-from_map, YieldsList-from_slice}
use Rattle.std.proofs.lemmas.Iterator.Adapters.{items_from_extend}
use Rattle.guillotiere.specs.declared.Size.{Size}
use Rattle.atlas_sheet.proofs.sheets.numbers_of.Goals as goal

pub returns-clause-numbers : goal.returns-clause-numbers
returns-clause-numbers g c =
    let added = items_from_extend c.extend.result c.extend.ensures.ran
    (YieldsList-from_map _ (λ (s : ℕ × Size). s.0) (YieldsList-from_slice c.args.order.now cc) c.map.ensures.closure
    (λ x r q k. search rules)) in
    search rules
