use Rattle.std.proofs.Common.{◌≡◌, flat_map}
use Rattle.atlas_pack.specs.Runs.{frame_in, left_in}
use Rattle.atlas_pack.proofs.packing.parted.Given as goal

abbrev pub invariant-loop-sprite : goal.invariant-loop-sprite
invariant-loop-sprite l = record {
  placed : l.frames.items ≡ flat_map frame_in l.yielded;
  others : l.left.items ≡ flat_map left_in l.yielded;
}
