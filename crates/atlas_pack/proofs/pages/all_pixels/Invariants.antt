use Rattle.std.proofs.Common.{◌≡◌, ◌*◌, ◌≤◌, take}
use Rattle.atlas_pack.specs.Pages.{all_pixels}
use Rattle.atlas_pack.proofs.pages.all_pixels.Given as goal

abbrev pub invariant-loop-sheet : goal.invariant-loop-sheet
invariant-loop-sheet l = record {
  is : l.all ≡ all_pixels (take l.sheet-index l.sheets);
  few : l.all ≤ l.sheet-index * 4611686018427387904;
}
