use Rattle.guillotiere_recording.proofs.Books.{sessions_are_named}
use Rattle.guillotiere_recording.proofs.laws.sessions_are_named.Goals as goal

pub returns : goal.returns
returns c = sessions_are_named
