-- The refusals of an atlas, as a recording allocator answers them.
use Rattle.guillotiere.specs.declared.AtlasError.{AtlasError}
use Rattle.guillotiere.specs.declared.AtlasError.TheVariants.{Memory, Slots, NotLive}
use Rattle.guillotiere_recording.specs.declared.error.RecordingError.{RecordingError}
use Rattle.guillotiere_recording.specs.declared.error.RecordingError.TheVariants as refusal

abbrev pub recording_error : AtlasError → RecordingError
recording_error Memory = refusal.Memory
recording_error Slots = refusal.Slots
recording_error NotLive = refusal.NotLive
