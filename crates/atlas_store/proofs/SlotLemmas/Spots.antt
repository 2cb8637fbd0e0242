-- Where members lie, said in two ways.
use Rattle.std.proofs.Common.{ℕ, ◌+◌, ◌≡◌, arith}
use Rattle.atlas_model.specs.Boxes.{Axis, other, moved, origin}
use Rattle.atlas_store.specs.Slots.Standing.{spot}

pub moved-spot : (a : Axis) (p start e : ℕ) → moved a (spot a p start) e ≡ spot a (p + e) start
moved-spot a p start e = grind arith

pub spot-other : (a : Axis) (p start : ℕ) → spot (other a) start p ≡ spot a p start
spot-other a p start = grind arith

pub spot-origin : (a : Axis) → spot a 0 0 ≡ origin
spot-origin a = grind arith
