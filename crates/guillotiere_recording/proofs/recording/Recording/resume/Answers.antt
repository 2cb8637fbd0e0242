use Rattle.std.proofs.Common.{IfErr, subst}
use Rattle.guillotiere_recording.specs.Logs.{RecordingValue, recording_of}
use Rattle.guillotiere_recording.specs.Replays.{MayFail}
use Rattle.guillotiere_recording.specs.Resuming.{IsOwnRecording}
use Rattle.guillotiere_recording.proofs.OwnFaults.{faults_of_own}
use Rattle.guillotiere_recording.proofs.recording.Recording.resume.Goals as goal

pub returns-clause-own : goal.returns-clause-own
returns-clause-own g c =
    subst (λ (r : RecordingValue). IsOwnRecording r → IfErr c.resume.result (MayFail r)) c.self.view_is
    (faults_of_own (recording_of c.self.inside.log) c.resume.result c.resume.ensures.fault)
