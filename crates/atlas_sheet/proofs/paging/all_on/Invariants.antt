use Rattle.std.proofs.Common.{◌≡◌, map, take, Some}
use Rattle.atlas_sheet.proofs.paging.all_on.Given as goal

abbrev pub invariant-loop-place : goal.invariant-loop-place
invariant-loop-place g l = map Some l.all.items ≡ take l.place-index l.places
