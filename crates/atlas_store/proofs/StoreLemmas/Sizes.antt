-- Sizes that aren't empty are the sides that they stand for.
use Rattle.std.proofs.Common.{◌≡◌, arith}
use Rattle.atlas_model.specs.declared.geometry.Size.{Size}
use Rattle.atlas_model.specs.Boxes.{IsPositive}
use Rattle.atlas_model.specs.Pixels.{sides_of, size_of}
use Rattle.atlas_model.proofs.StepLemmas.CallerGrants.{whole_side}

pub size_is : (size : Size) → IsPositive (sides_of size) → size ≡ size_of (sides_of size)
size_is size h = grind (arith, whole_side)
