use Rattle.std.proofs.Common.{◌≡◌, ◌*◌, ◌≤◌, take}
use Rattle.atlas_sheet.specs.Sheets.{used_area}
use Rattle.atlas_sheet.proofs.filling.used_area.Given as goal

abbrev pub invariant-loop-place : goal.invariant-loop-place
invariant-loop-place l = record {
  is : l.area ≡ used_area (take l.place-index l.places);
  few : l.area ≤ l.place-index * 18446744073709551615;
}
