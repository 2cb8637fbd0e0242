use Rattle.std.proofs.Common.{arith}
use Rattle.guillotiere.proofs.SimpleLemmas.BoxShelves.{empty-kept}
use Rattle.guillotiere.proofs.simple.boxes.FreeBoxes.new.Goals as goal

pub returns-clause-kept : goal.returns-clause-kept
returns-clause-kept g c = grind (arith, empty-kept)
