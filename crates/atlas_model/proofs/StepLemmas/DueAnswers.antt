-- Requests are granted and denied as they are due.
use Rattle.std.proofs.Common.{arith}
use Rattle.atlas_model.specs.Laws.StepLaws.{StepsAnswerAsDue}
use Rattle.atlas_model.specs.Steps.AtlasCall.{Allocate}

pub steps_answer_as_due : StepsAnswerAsDue
steps_answer_as_due old new (Allocate r) reply h = grind arith
steps_answer_as_due old new k reply h = (tt, tt)
