-- A recorded session that is taken up again, on its way. No public clause cites this module.
use Rattle.guillotiere_recording.specs.declared.error.RecordingError.{RecordingError}
use Rattle.guillotiere_recording.specs.declared.error.RecordingError.TheVariants as refusal
use Rattle.guillotiere_recording.specs.declared.steps.EventFault.{EventFault}
use Rattle.guillotiere_recording.specs.declared.steps.EventFault.TheVariants as stop
use Rattle.guillotiere_recording.specs.Events.{EventValue}
use Rattle.guillotiere_recording.specs.Recordings.{SessionValue}
use Rattle.guillotiere_recording.specs.Resuming.{IsUnfit, AnswersElse, HasNoSlots}

-- Why an event isn't carried out by a session.
abbrev pub IsHalted : SessionValue → EventValue → EventFault → Type 0
IsHalted v event stop.Memory = Unit {0}
IsHalted v event stop.Slots = HasNoSlots v event
IsHalted v event stop.Differs = AnswersElse v event
IsHalted v event stop.Bad = IsUnfit v event

-- A refusal of a recording allocator; a name that isn't live and one that isn't left are the event's fault.
abbrev pub stop_of : RecordingError → EventFault
stop_of refusal.Memory = stop.Memory
stop_of refusal.Slots = stop.Slots
stop_of refusal.NotLive = stop.Bad
stop_of refusal.Names = stop.Bad
