use Rattle.std.proofs.Common.{subst}
use Rattle.guillotiere.specs.Stored.{state_of}
use Rattle.guillotiere.specs.Visits.{AreFreeAreas}
use Rattle.guillotiere_recording.specs.Recordings.{SessionValue}
use Rattle.guillotiere_recording.proofs.allocator.RecordingAllocator.for_each_free_rectangle.Goals as goal

pub for_each_free_rectangle-requires : goal.for_each_free_rectangle-requires
for_each_free_rectangle-requires g c areas are =
    c.requires areas (subst (λ (v : SessionValue). AreFreeAreas (state_of v.atlas) areas) c.self.view_is are)
