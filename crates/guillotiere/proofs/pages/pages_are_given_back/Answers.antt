use Rattle.guillotiere.proofs.Callers.{pages_given_back}
use Rattle.guillotiere.proofs.pages.pages_are_given_back.Goals as goal

pub returns : goal.returns
returns c = pages_given_back
