use Rattle.guillotiere.specs.Stored.{state_of}
use Rattle.calling.proofs.tiled.by_call.Goals as goal

pub returns : goal.returns
returns g c = c.sound_is_tiled.ensures (state_of c.args.atlas.now) c.size-size.ensures.sound
