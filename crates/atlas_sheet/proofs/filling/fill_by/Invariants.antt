use Rattle.guillotiere.specs.Pixels.{sides_of}
use Rattle.atlas_sheet.proofs.BestWays.{IsGoing}
use Rattle.atlas_sheet.proofs.filling.fill_by.Given as goal

abbrev pub invariant-loop-way : goal.invariant-loop-way
invariant-loop-way g l =
    IsGoing (sides_of l.size) l.spacing l.sprites l.ways l.way-index l.best_way l.best.order.items l.best.places.items l.most
