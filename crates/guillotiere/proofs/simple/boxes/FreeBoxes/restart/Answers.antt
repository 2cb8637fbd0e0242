use Rattle.std.proofs.Common.{map, arith}
use Rattle.guillotiere.specs.FreeBoxes.BoxShelves.{free_item_boxes, stored_item}
use Rattle.atlas_model.specs.Pixels.{box_of}
use Rattle.guillotiere.proofs.SimpleLemmas.BoxShelves.{empty-kept}
use Rattle.guillotiere.proofs.SimpleLemmas.ItemBoxes.{alone}
use Rattle.guillotiere.proofs.simple.boxes.FreeBoxes.restart.Goals as goal

pub add-requires-clause-kept : goal.add-requires-clause-kept
add-requires-clause-kept g c = grind (arith, empty-kept)

pub returns-clause-alone : goal.returns-clause-alone
returns-clause-alone g c =
    grind (arith, alone (free_item_boxes (map stored_item c.add.new.self.entries.items)) (box_of c.args.area))
