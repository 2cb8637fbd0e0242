use Rattle.std.proofs.Common.{refl, ap, ◌∙◌}
use Rattle.guillotiere_recording.specs.Logs.{with_event, recording_of}
use Rattle.guillotiere_recording.specs.Events.EventValue.{Grow}
use Rattle.guillotiere_recording.proofs.RecordedSessions.{grown_session}
use Rattle.guillotiere_recording.proofs.allocator.RecordingAllocator.grow.Goals as goal

pub invariant_of-self-2 : goal.invariant_of-self-2
invariant_of-self-2 g c =
    let more = c.note.ensures ∙ ap (with_event (Grow c.args.new_size)) c.in_ok-make_room.ensures.same in
    grown_session _ c.grow.new.self c.self.inside.names.items (recording_of c.note.new.self) c.args.new_size c.self.invariant refl more
    c.in_ok-grow.ensures.step
