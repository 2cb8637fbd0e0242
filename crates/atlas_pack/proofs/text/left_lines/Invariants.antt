use Rattle.std.proofs.Common.{◌≡◌, flat_map, take}
use Rattle.atlas_pack.specs.Texts.{left_text}
use Rattle.atlas_pack.proofs.text.left_lines.Given as goal

abbrev pub invariant-loop-sprite : goal.invariant-loop-sprite
invariant-loop-sprite l = l.text.items ≡ flat_map left_text (take l.sprite-index l.left)
