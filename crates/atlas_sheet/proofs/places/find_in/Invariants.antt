use Rattle.std.proofs.Common.{take, IfSome}
use Rattle.guillotiere.specs.Boxes.{IsPositive}
use Rattle.guillotiere.specs.Choice.{HasNoRoom}
use Rattle.guillotiere.specs.SimpleStored.{simple_state_of}
use Rattle.atlas_sheet.specs.Sheets.{asked_sides, with_places}
use Rattle.atlas_sheet.proofs.FoundPlaces.{HaveFound}
use Rattle.atlas_sheet.proofs.places.find_in.Given as goal

abbrev pub invariant-loop-sprite : goal.invariant-loop-sprite
invariant-loop-sprite g l = record {
  aligned : IsPositive (simple_state_of l.packer).options.alignment;
  going : HaveFound l.spacing
      (simple_state_of l.initial.packer) (simple_state_of l.packer) (with_places l.places (take l.sprite-index l.order));
  refused : IfSome l.refused (λ s. HasNoRoom (simple_state_of l.packer).free (simple_state_of l.packer).options
      (asked_sides l.spacing.padding s));
}
