use Rattle.std.proofs.Common.{◌≡◌, flat_map, take}
use Rattle.atlas_pack.specs.Pages.{page_line}
use Rattle.atlas_pack.proofs.pages.page_lines.Given as goal

abbrev pub invariant-loop-sprite : goal.invariant-loop-sprite
invariant-loop-sprite l = l.text.items ≡ flat_map page_line (take l.sprite-index l.sprites)
