use Rattle.atlas_model.specs.Pixels.{options_of}
use Rattle.guillotiere.proofs.simple.boxes.FreeBoxes.add.Goals as goal

pub put-requires-clause-claimed : goal.put-requires-clause-claimed
put-requires-clause-claimed g c = c.take-at.ensures.taken (options_of c.args.options.now) c.requires.kept
