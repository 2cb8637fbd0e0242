use Rattle.std.proofs.Common.{◌≡◌, ◌≤◌, ◌+◌, drop}
use Rattle.guillotiere_c.specs.Filling.{unplaced}
use Rattle.guillotiere_c.proofs.filled.unplaced.Given as goal

abbrev pub invariant-loop-place : goal.invariant-loop-place
invariant-loop-place l =
    (l.left + unplaced (drop l.place-index l.places) ≡ unplaced l.places) × (l.left ≤ l.place-index)
