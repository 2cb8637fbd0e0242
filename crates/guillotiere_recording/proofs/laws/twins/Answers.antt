use Rattle.guillotiere_recording.proofs.Twins.{twins_answer_alike, twins_share_names, new_sessions_are_twins, events_keep_twins}
use Rattle.guillotiere_recording.proofs.laws.twins.Goals as goal

pub returns : goal.returns
returns c = record {
  answers = twins_answer_alike;
  names = twins_share_names;
  beginning = new_sessions_are_twins;
  events = events_keep_twins;
}
