use Rattle.atlas_sheet.proofs.GridCells.{room_of, takes}
use Rattle.atlas_sheet.proofs.Topmost.{topmost_found, topmost_none}
use Rattle.atlas_sheet.proofs.cells.place_sprite.Goals as goal

pub box_from-area-requires-clause-wide : goal.box_from-area-requires-clause-wide
box_from-area-requires-clause-wide g c =
    (room_of c.args.spacing _ _ c.cells_of.result c.asked-wanted.result c.in-Some.cells
    (rw c.in-Some.is at c.in_ok-take_cells.ensures.placed)
    c.requires.small c.cells_of.ensures.wide c.cells_of.ensures.high).0

pub box_from-area-requires-clause-high : goal.box_from-area-requires-clause-high
box_from-area-requires-clause-high g c =
    (room_of c.args.spacing _ _ c.cells_of.result c.asked-wanted.result c.in-Some.cells
    (rw c.in-Some.is at c.in_ok-take_cells.ensures.placed)
    c.requires.small c.cells_of.ensures.wide c.cells_of.ensures.high).1

pub returns-in-Some-clause-placed : goal.returns-in-Some-clause-placed
returns-in-Some-clause-placed g c =
    takes c.args.spacing _ _ c.args.sprite c.cells_of.result c.asked-wanted.result c.in-Some.cells c.box_from-area.result c.inset.result
    (rw c.in-Some.is at c.in_ok-take_cells.ensures.placed) c.asked-wanted.ensures c.cells_of.ensures.wide c.cells_of.ensures.high
    c.box_from-area.ensures.lies c.inset.ensures.padded c.inset.ensures.left c.inset.ensures.above c.inset.ensures.exact

pub returns-in-Some-clause-topmost : goal.returns-in-Some-clause-topmost
returns-in-Some-clause-topmost g c =
    topmost_found c.args.spacing _ _ c.args.sprite c.cells_of.result c.asked-wanted.result c.asked-wanted.ensures c.cells_of.ensures.cells
    c.in-Some.cells c.box_from-area.result c.inset.result (rw c.in-Some.is at c.in_ok-take_cells.ensures.placed)
    c.box_from-area.ensures.lies c.inset.ensures.padded

pub returns-in-None-clause-topmost : goal.returns-in-None-clause-topmost
returns-in-None-clause-topmost g c =
    topmost_none c.args.spacing _ _ c.args.sprite c.cells_of.result c.asked-wanted.result c.asked-wanted.ensures c.cells_of.ensures.cells
    (rw c.in-None.is at c.in_ok-take_cells.ensures.placed) c.requires.packable c.cells_of.ensures.wide c.cells_of.ensures.high
