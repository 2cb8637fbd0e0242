use Rattle.std.proofs.Common.{◌≡◌, map, take}
use Rattle.guillotiere_recording.specs.Events.{event_of}
use Rattle.guillotiere_recording.proofs.log.Log.clone.Given as goal

-- What was copied so far is the beginning of the events.
abbrev pub invariant-loop-event : goal.invariant-loop-event
invariant-loop-event g l = map event_of l.events.items ≡ map event_of (take l.event-index l.event-items)
