use Rattle.std.proofs.Common.{rules, map}
use Rattle.guillotiere_c.specs.Numbers.{size_in}
use Rattle.guillotiere_c.proofs.Packings.{filled_sheet}
use Rattle.guillotiere_c.proofs.filled.filled.Goals as goal

pub returns-clause-filled : goal.returns-clause-filled
returns-clause-filled c =
    let told = c.in_ok-filled.ensures in
    let sheet = c.in_ok-filled.filled in
    filled_sheet c.args.options.now _ (map size_in c.args.sprites.now) sheet.size sheet.order.items sheet.places.items
    sheet.used_area (search rules) told.size told.shown told.area told.best told.plain told.earliest
