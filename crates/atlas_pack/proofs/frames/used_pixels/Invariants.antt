use Rattle.std.proofs.Common.{◌≡◌, ◌*◌, ◌≤◌, take}
use Rattle.atlas_pack.specs.Frames.{used_pixels}
use Rattle.atlas_pack.proofs.frames.used_pixels.Given as goal

abbrev pub invariant-loop-frame : goal.invariant-loop-frame
invariant-loop-frame l = record {
  is : l.used ≡ used_pixels (take l.frame-index l.frames);
  few : l.used ≤ l.frame-index * 18446744073709551615;
}
