use Rattle.std.proofs.Common.{◌≡◌, ◌*◌, ◌≤◌, take}
use Rattle.atlas_pack.specs.Pages.{used_on_pages}
use Rattle.atlas_pack.proofs.pages.used_pixels.Given as goal

abbrev pub invariant-loop-sprite : goal.invariant-loop-sprite
invariant-loop-sprite l = record {
  is : l.used ≡ used_on_pages (take l.sprite-index l.sprites);
  few : l.used ≤ l.sprite-index * 18446744073709551615;
}
