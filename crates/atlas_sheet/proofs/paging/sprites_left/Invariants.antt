use Rattle.atlas_sheet.proofs.PageSteps.{IsLeftTo}
use Rattle.atlas_sheet.proofs.paging.sprites_left.Given as goal

abbrev pub invariant-loop-number : goal.invariant-loop-number
invariant-loop-number g l = IsLeftTo l.sprites l.places l.number l.left.items
