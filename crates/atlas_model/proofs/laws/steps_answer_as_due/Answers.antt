use Rattle.atlas_model.proofs.StepLemmas.DueAnswers.{steps_answer_as_due}
use Rattle.atlas_model.proofs.laws.steps_answer_as_due.Goals as goal

pub returns : goal.returns
returns c = steps_answer_as_due
