use Rattle.std.specs.Prelude.{◌≡◌}
use Rattle.guillotiere_recording.specs.Logs.{recording_of}
use Rattle.guillotiere_recording.specs.Replays.{first_events}
use Rattle.guillotiere_recording.proofs.log.Log.resume.Given as goal

-- The session recorded the events so far.
abbrev pub invariant-loop-at : goal.invariant-loop-at
invariant-loop-at g l = l.session.recording ≡ first_events l.at (recording_of l.fn.self)
