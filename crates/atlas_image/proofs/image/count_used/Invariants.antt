use Rattle.std.proofs.Common.{◌≡◌, ◌≤◌}
use Rattle.atlas_image.specs.Imaged.{used_below}
use Rattle.atlas_image.proofs.image.count_used.Given as goal

abbrev pub invariant-loop-number : goal.invariant-loop-number
invariant-loop-number l =
    record { counted : l.count ≡ used_below l.nodes l.number; most : l.count ≤ l.number }
