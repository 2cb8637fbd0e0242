use Rattle.std.proofs.Common.{◌<◌, ◌^◌, ◌∙◌, subst, sym}
use Rattle.guillotiere_recording.specs.Recordings.{SessionValue}
use Rattle.guillotiere_recording.specs.Replays.{IsRecorded}
use Rattle.guillotiere_recording.specs.Resuming.{IsOwnRecording}
use Rattle.guillotiere_recording.proofs.allocator.RecordingAllocator.recording.Goals as goal

pub returns-clause-recorded : goal.returns-clause-recorded
returns-clause-recorded g c =
    subst IsRecorded (sym (c.from_log.ensures ∙ c.in_ok-clone.ensures.same)) (_, c.self.invariant.faithful.leads)

pub returns-clause-own : goal.returns-clause-own
returns-clause-own g c = λ few.
    subst IsOwnRecording (sym (c.from_log.ensures ∙ c.in_ok-clone.ensures.same))
    (record {
      recorded = (_, c.self.invariant.faithful.leads);
      count = _;
      few = subst (λ (v : SessionValue). v.given < 2 ^ 32)
          (sym c.self.view_is) few;
      given = c.self.invariant.faithful.given;
    })
