use Rattle.atlas_sheet.proofs.PageSteps.{IsPutTo}
use Rattle.atlas_sheet.proofs.paging.put_on.Given as goal

abbrev pub invariant-loop-place : goal.invariant-loop-place
invariant-loop-place g l = IsPutTo l.page l.places l.found l.place-index l.next l.all.items
