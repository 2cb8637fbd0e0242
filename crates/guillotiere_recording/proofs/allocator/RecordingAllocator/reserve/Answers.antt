use Rattle.guillotiere_recording.proofs.RecordedSessions.{same_state}
use Rattle.guillotiere_recording.proofs.allocator.RecordingAllocator.reserve.Goals as goal

pub invariant_of-self-2 : goal.invariant_of-self-2
invariant_of-self-2 g c = same_state _ c.reserve.new.self c.reserve.ensures.state c.self.invariant
