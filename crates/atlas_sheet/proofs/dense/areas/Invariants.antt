use Rattle.std.proofs.Common.{◌≡◌, map, take}
use Rattle.atlas_sheet.specs.Lying.{placed_area}
use Rattle.atlas_sheet.proofs.dense.areas.Given as goal

abbrev pub invariant-loop-place : goal.invariant-loop-place
invariant-loop-place g l = l.areas.items ≡ map placed_area (take l.place-index l.placed)
