use Rattle.guillotiere_recording.specs.Logs.{recording_of}
use Rattle.guillotiere_recording.proofs.RecordedSessions.{new_session}
use Rattle.guillotiere_recording.proofs.allocator.RecordingAllocator.with_options.Goals as goal

pub invariant_of-result : goal.invariant_of-result
invariant_of-result g c =
    new_session c.in_ok-atlas.atlas c.new.result.items (recording_of c.new-2.result) c.args.size c.args.options.now
    c.requires.size c.requires.options c.in_ok-atlas.ensures.state c.new.ensures.items c.new-2.ensures
