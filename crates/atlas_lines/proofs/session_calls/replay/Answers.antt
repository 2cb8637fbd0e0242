use Rattle.std.proofs.Common.{subst, IfErr}
use Rattle.guillotiere_recording.specs.Logs.{RecordingValue}
use Rattle.guillotiere_recording.specs.Replays.{IsRecorded, IsFaultOf, MayFail}
use Rattle.atlas_lines.proofs.session_calls.replay.Goals as goal

pub returns : goal.returns
returns g c =
    let P : RecordingValue → Type 0 = λ r. IsFaultOf r c.in-Err.fault × (IsRecorded r → MayFail r c.in-Err.fault) in
    subst P c.finish-recording.ensures.taken (
      c.in-Err.ensures.fault,
      λ recorded. subst (λ x. IfErr x (MayFail c.finish-recording.result)) c.in-Err.is
          (c.replay.ensures.recorded recorded),
    )
