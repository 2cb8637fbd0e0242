use Rattle.guillotiere.specs.Pixels.{sides_of}
use Rattle.atlas_sheet.proofs.WholeSheets.{found_places}
use Rattle.atlas_sheet.proofs.places.try_way.Goals as goal

pub returns-clause-places : goal.returns-clause-places
returns-clause-places g c =
    found_places (sides_of c.args.sheet) c.args.spacing c.args.way.choice c.args.sprites.now _ _ c.requires.positive c.requires.good.aligned
    c.requires.good.packable
    c.in_ok-order.ensures.permuted c.in_ok-places.ensures.count (rw c.deref.ensures.value at c.in_ok-places.ensures.found)

pub returns-clause-found : goal.returns-clause-found
returns-clause-found g c = record {
  count = c.in_ok-places.ensures.count;
  permuted = c.in_ok-order.ensures.permuted;
  greatest = c.in_ok-order.ensures.greatest;
  found = rw c.deref.ensures.value at c.in_ok-places.ensures.found;
}
