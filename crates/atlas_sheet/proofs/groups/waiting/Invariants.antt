use Rattle.atlas_sheet.proofs.GroupRows.{IsWaitingTo}
use Rattle.atlas_sheet.proofs.groups.waiting.Given as goal

abbrev pub invariant-loop-number : goal.invariant-loop-number
invariant-loop-number g l = IsWaitingTo l.groups l.places l.number l.all.items
