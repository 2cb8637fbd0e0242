use Rattle.atlas_sheet.proofs.DenseSheets.{whole_sheet}
use Rattle.atlas_sheet.proofs.dense.sheet_of.Goals as goal

pub returns-clause-whole : goal.returns-clause-whole
returns-clause-whole g c =
    whole_sheet c.args.options.now c.args.sprites.now _ c.args.placed.now _ c.in_ok-areas.areas.items c.args.order.now
    c.in_ok-places.ensures.all c.in_ok-areas.ensures.areas c.deref.ensures.value c.used_area-used_area.ensures c.in_ok-order.ensures.numbers
    c.requires.by
    c.requires.allowed c.requires.each c.requires.apart c.requires.upright c.requires.found c.requires.smaller
