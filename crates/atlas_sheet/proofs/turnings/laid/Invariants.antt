use Rattle.std.proofs.Common.{◌≡◌, map, take}
use Rattle.guillotiere.specs.Pixels.{sides_of}
use Rattle.atlas_sheet.specs.Turnings.{fitted, turned_to}
use Rattle.atlas_sheet.proofs.turnings.laid.Given as goal

abbrev pub invariant-loop-sprite : goal.invariant-loop-sprite
invariant-loop-sprite g l =
    l.lying.items ≡ map (λ s. fitted (sides_of l.sheet) l.spacing (turned_to l.how s)) (take l.sprite-index l.sprites)
