use Rattle.std.proofs.Common.{◌≡◌, flat_map, take}
use Rattle.atlas_pack.specs.Texts.{place_line}
use Rattle.atlas_pack.proofs.text.sprite_lines.Given as goal

abbrev pub invariant-loop-frame : goal.invariant-loop-frame
invariant-loop-frame l = l.text.items ≡ flat_map place_line (take l.frame-index l.frames)
