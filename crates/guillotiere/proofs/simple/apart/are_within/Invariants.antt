use Rattle.std.proofs.Common.{ℕ, ◌<◌, get_or}
use Rattle.atlas_model.specs.declared.geometry.Rectangle.{Rectangle}
use Rattle.atlas_model.specs.Pixels.{sides_of}
use Rattle.guillotiere.specs.Apart.{IsSolidWithin}
use Rattle.guillotiere.proofs.simple.apart.are_within.Given as goal

abbrev pub invariant-loop-area : goal.invariant-loop-area
invariant-loop-area l = (k : ℕ) (d : Rectangle) → k < l.area-index → IsSolidWithin (sides_of l.size) (get_or l.boxes k d)
