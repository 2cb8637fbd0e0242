use Rattle.atlas_sheet.proofs.GroupRows.{IsPickedTo}
use Rattle.atlas_sheet.proofs.picking.picked.Given as goal

abbrev pub invariant-loop-number : goal.invariant-loop-number
invariant-loop-number g l = IsPickedTo l.row l.sprites l.number l.all.items
