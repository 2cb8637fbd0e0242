use Rattle.atlas_model.proofs.StepLemmas.Alike.{answers_without_ids, live_names_count}
use Rattle.atlas_model.proofs.laws.answers_without_ids.Goals as goal

pub returns : goal.returns
returns c = record { alike = answers_without_ids; live_names = live_names_count }
