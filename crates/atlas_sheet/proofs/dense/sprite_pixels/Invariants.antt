use Rattle.std.proofs.Common.{◌≡◌, min, take}
use Rattle.std.specs.List.{sum_by}
use Rattle.guillotiere.specs.Pixels.{sides_of}
use Rattle.atlas_sheet.specs.Allowances.{pixels}
use Rattle.atlas_sheet.proofs.dense.sprite_pixels.Given as goal

abbrev pub invariant-loop-sprite : goal.invariant-loop-sprite
invariant-loop-sprite l = l.area ≡ min (sum_by (λ s. pixels (sides_of s)) (take l.sprite-index l.sprites)) 18446744073709551615
