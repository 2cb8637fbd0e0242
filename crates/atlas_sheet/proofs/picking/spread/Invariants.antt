use Rattle.atlas_sheet.proofs.GroupRows.{IsSpreadTo}
use Rattle.atlas_sheet.proofs.picking.spread.Given as goal

abbrev pub invariant-loop-chosen : goal.invariant-loop-chosen
invariant-loop-chosen g l = IsSpreadTo l.row l.found l.chosen-index l.next l.all.items
