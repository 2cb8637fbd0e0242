use Rattle.std.proofs.Common.{◌≡◌, map}
use Rattle.atlas_pack.specs.Runs.{page_frame_of}
use Rattle.atlas_pack.proofs.packing.page_frames.Given as goal

abbrev pub invariant-loop-sprite : goal.invariant-loop-sprite
invariant-loop-sprite l = l.frames.items ≡ map page_frame_of l.yielded
