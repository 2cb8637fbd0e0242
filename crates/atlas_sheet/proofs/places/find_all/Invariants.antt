use Rattle.std.proofs.Common.{◌≡◌, length, take, map, Some}
use Rattle.guillotiere.specs.Boxes.{IsPositive}
use Rattle.guillotiere.specs.SimpleStored.{simple_state_of}
use Rattle.atlas_sheet.specs.Sheets.{with_places}
use Rattle.atlas_sheet.proofs.FoundPlaces.{HaveFound}
use Rattle.atlas_sheet.proofs.places.find_all.Given as goal

abbrev pub invariant-loop-sprite : goal.invariant-loop-sprite
invariant-loop-sprite g l = record {
  long : length l.places.items ≡ length l.sprites;
  aligned : IsPositive (simple_state_of l.packer).options.alignment;
  going : HaveFound l.spacing
      (simple_state_of l.initial.packer) (simple_state_of l.packer) (with_places (map Some l.places.items) (take l.sprite-index l.order));
}
