-- What is recorded, and what a log of events records.
use Rattle.std.specs.Prelude.{List, [], ◌∷◌, ◌++◌, map}
use Rattle.guillotiere.specs.declared.Size.{Size}
use Rattle.guillotiere.specs.declared.AllocatorOptions.{AllocatorOptions}
use Rattle.guillotiere_recording.specs.declared.log.Log.{Log}
use Rattle.guillotiere_recording.specs.Events.{EventValue, event_of}

-- The size and the options of the recorded atlas when it was new, and what happened since.
pub record RecordingValue : Type 0 where
  pub size : Size
  pub options : AllocatorOptions
  pub events : List EventValue

abbrev pub recording_of : {A : Type 0} → Log A → RecordingValue
recording_of log = record { size = log.size; options = log.options; events = map event_of log.events.items }

-- One event more, at the end.
abbrev pub with_event : EventValue → RecordingValue → RecordingValue
with_event event r = record r { events = r.events ++ event ∷ [] }
