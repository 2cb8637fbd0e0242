use Rattle.guillotiere_recording.proofs.Books.{books_are_true}
use Rattle.guillotiere_recording.proofs.laws.books_are_true.Goals as goal

pub returns : goal.returns
returns c = books_are_true
