use Rattle.guillotiere.specs.Stored.{state_of}
use Rattle.guillotiere.proofs.StepLemmas.LiveBoxes.{sound_is_tiled}
use Rattle.calling.proofs.tiled.by_lemma.Goals as goal

pub returns : goal.returns
returns g c = sound_is_tiled (state_of c.args.atlas.now) c.size-size.ensures.sound
