use Rattle.guillotiere.specs.Pixels.{sides_of}
use Rattle.atlas_sheet.specs.Settings.{spacing_of}
use Rattle.atlas_sheet.proofs.Arrangements.{IsShownTo}
use Rattle.atlas_sheet.proofs.placed.placed_all.Given as goal

abbrev pub invariant-loop-number : goal.invariant-loop-number
invariant-loop-number g l =
    IsShownTo (sides_of l.arrangement.size) (spacing_of l.options) l.options.turn l.sprites l.arrangement.places.items l.number
    l.placed.items
