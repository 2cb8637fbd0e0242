use Rattle.std.proofs.Common.{IfErr, subst}
use Rattle.guillotiere_recording.specs.Logs.{RecordingValue, recording_of}
use Rattle.guillotiere_recording.specs.Replays.{IsRecorded, MayFail}
use Rattle.guillotiere_recording.proofs.ReplayFaults.{faults_of_recorded}
use Rattle.guillotiere_recording.proofs.recording.Recording.replay.Goals as goal

pub returns-clause-recorded : goal.returns-clause-recorded
returns-clause-recorded g c =
    subst (λ (r : RecordingValue). IsRecorded r → IfErr c.replay.result (MayFail r)) c.self.view_is
    (faults_of_recorded (recording_of c.self.inside.log) c.replay.result c.replay.ensures.fault)
