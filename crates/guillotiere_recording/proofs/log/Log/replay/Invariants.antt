use Rattle.guillotiere_recording.specs.Logs.{recording_of}
use Rattle.guillotiere_recording.specs.Sessions.{Named}
use Rattle.guillotiere_recording.specs.Recordings.{LeadsTo}
use Rattle.guillotiere_recording.specs.Replays.{first_events}
use Rattle.guillotiere_recording.specs.Standing.{ShowsNamed}
use Rattle.guillotiere_recording.proofs.log.Log.replay.Given as goal

-- The events so far led to what atlas and names show.
abbrev pub invariant-loop-at : goal.invariant-loop-at
invariant-loop-at g l = (s : Named) × LeadsTo (first_events l.at (recording_of l.fn.self)) s × ShowsNamed l.atlas l.names s
