use Rattle.guillotiere_recording.proofs.NamedStates.{events_keep_names}
use Rattle.guillotiere_recording.proofs.laws.events_keep_names.Goals as goal

pub returns : goal.returns
returns c = events_keep_names
