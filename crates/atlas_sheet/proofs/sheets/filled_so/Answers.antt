use Rattle.guillotiere.specs.Pixels.{sides_of}
use Rattle.atlas_sheet.specs.Settings.{spacing_of}
use Rattle.atlas_sheet.proofs.Arrangements.{arranged_as_given, rebased}
use Rattle.atlas_sheet.proofs.Rows.{allowed_positive}
use Rattle.atlas_sheet.proofs.sheets.filled_so.Goals as goal

pub returns-clause-arranged : goal.returns-clause-arranged
returns-clause-arranged g c =
    let f = c.in_ok-filling.filling in
    let lying = c.in_ok-lying.lying.items in
    let size = sides_of c.args.size in
    let spacing = spacing_of c.args.options.now in
    let turn = c.args.options.now.turn in
    let best = rw (c.spacing.ensures, c.deref.ensures.value) at c.in_ok-filling.ensures.best in
    rebased c.args.sprites.now lying c.in_ok-lying.ensures.lies
    (arranged_as_given size spacing turn lying f.way.choice f.found.order.items f.found.places.items
    (allowed_positive c.args.options.now.allowed size c.requires.good.usable c.requires.greatest.allowed)
    c.requires.good.placing.aligned c.in_ok-lying.ensures.good.packable best.found.permuted best.found.count best.found.found)
