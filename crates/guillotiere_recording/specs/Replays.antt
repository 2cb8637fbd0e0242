-- What a replay of a recording answers: how the session ends, or the first event that can't be carried out as it says.
use Rattle.std.specs.Prelude.{◌≡◌, ℕ, suc, Bool, true, false, List, map, take, count_by, Any, Some, None, slice_get}
use Rattle.guillotiere.specs.declared.Allocation.{Allocation}
use Rattle.guillotiere.specs.declared.Change.{Change}
use Rattle.guillotiere.specs.declared.AtlasError.TheVariants as error
use Rattle.guillotiere.specs.Boxes.{Fits, IsPositive}
use Rattle.guillotiere.specs.Pixels.{sides_of, rectangle_of}
use Rattle.guillotiere.specs.Trees.{Grant}
use Rattle.guillotiere.specs.States.{State, IsLive}
use Rattle.guillotiere.specs.Refits.{Transfer, Rearrangement}
use Rattle.guillotiere.specs.Steps as atlas
use Rattle.guillotiere.specs.Steps.{AtlasCall, AtlasReply, Step}
use Rattle.guillotiere.specs.Steps.AtlasReply.{Allocated, NoRoom, Done, Changed, Refused}
use Rattle.guillotiere_recording.specs.declared.replay.ReplayFault.{ReplayFault}
use Rattle.guillotiere_recording.specs.declared.replay.ReplayFault.TheVariants as fault
use Rattle.guillotiere_recording.specs.declared.replay.ReplayStats.{ReplayStats}
use Rattle.guillotiere_recording.specs.Events.{EventValue, ListValue}
use Rattle.guillotiere_recording.specs.Events.EventValue.{Allocate, Deallocate, Grow, Rearrange, ResizeAndRearrange}
use Rattle.guillotiere_recording.specs.Logs.{RecordingValue}
use Rattle.guillotiere_recording.specs.Sessions.{Named, IsLiveName}
use Rattle.guillotiere_recording.specs.Recordings.{LeadsTo, AreBooked}
use Rattle.guillotiere_recording.specs.Twins.{is_plain_event}

-- Events that are counted.

abbrev pub is_granted_event : EventValue → Bool
is_granted_event (Allocate size (Some a)) = true
is_granted_event _ = false

abbrev pub is_freeing : EventValue → Bool
is_freeing (Deallocate name) = true
is_freeing _ = false

-- A request that had no room.
abbrev pub is_failed_request : EventValue → Bool
is_failed_request (Allocate size None) = true
is_failed_request _ = false

-- The events are those of a session.
abbrev pub IsRecorded : RecordingValue → Type 0
IsRecorded r = (last : Named) × LeadsTo r last

-- The events are those of a session; the live names with their boxes, by rising name, are those of its end, and each
-- kind of event is counted.
pub record IsReplayed {A : Type 0} (r : RecordingValue) (stats : ReplayStats A) : Type 0 where
  pub recorded : IsRecorded r
  pub live : AreBooked r.events stats.live.items
  pub allocations : stats.allocations ≡ count_by is_granted_event r.events
  pub deallocations : stats.deallocations ≡ count_by is_freeing r.events
  pub failed : stats.failed_allocations ≡ count_by is_failed_request r.events

-- The event can't be carried out: its new name is live, the name that it frees isn't, a side shrinks, or a size is
-- empty.
abbrev pub IsBad : Named → EventValue → Type 0
IsBad s (Allocate size None) = ⊥
IsBad s (Allocate size (Some a)) = IsLiveName s a.id
IsBad s (Deallocate name) = IsLiveName s name → ⊥
IsBad s (Grow size) = Fits s.state.size (sides_of size) → ⊥
IsBad s (Rearrange list) = ⊥
IsBad s (ResizeAndRearrange size list) = IsPositive (sides_of size) → ⊥

-- The call that an event asks for.
abbrev pub IsCall : Named → EventValue → AtlasCall → Type 0
IsCall s (Allocate size answer) call = call ≡ atlas.Allocate (sides_of size)
IsCall s (Deallocate name) call = (id : ℕ) × IsLive s.state id × (s.name id ≡ name) × (call ≡ atlas.Deallocate id)
IsCall s (Grow size) call = call ≡ atlas.Grow (sides_of size)
IsCall s (Rearrange list) call = call ≡ atlas.Rearrange
IsCall s (ResizeAndRearrange size list) call = call ≡ atlas.ResizeAndRearrange (sides_of size)

-- A list as it is shown under names: a change has the name of the old id twice.

abbrev pub shown_grant : (ℕ → ℕ) → Grant → Allocation
shown_grant name g = record { id = name g.id; rectangle = rectangle_of g.box }

abbrev pub shown_change : (ℕ → ℕ) → Transfer → Change
shown_change name t =
    record {
      old = shown_grant name t.old;
      new = record { id = name t.old.id; rectangle = rectangle_of t.new.box };
    }

abbrev pub shown_list : (ℕ → ℕ) → Rearrangement → ListValue
shown_list name answer =
    record { changes = map (shown_change name) answer.changes; failures = map (shown_grant name) answer.failures }

-- The reply is what the event says, but for the id of a grant.
abbrev pub AnswersEvent : Named → EventValue → AtlasReply → Type 0
AnswersEvent s (Allocate size None) reply = reply ≡ NoRoom
AnswersEvent s (Allocate size (Some a)) reply = (g : Grant) × (reply ≡ Allocated g) × (a.rectangle ≡ rectangle_of g.box)
AnswersEvent s (Deallocate name) reply = reply ≡ Done
AnswersEvent s (Grow size) reply = reply ≡ Done
AnswersEvent s (Rearrange list) reply =
    (answer : Rearrangement) × (reply ≡ Changed answer) × (list ≡ shown_list s.name answer)
AnswersEvent s (ResizeAndRearrange size list) reply =
    (answer : Rearrangement) × (reply ≡ Changed answer) × (list ≡ shown_list s.name answer)

abbrev pub is_refused : AtlasReply → Bool
is_refused (Refused error) = true
is_refused _ = false

-- The event isn't bad, and the model has a reply to its call that is no refusal and not what the event says.
pub record AnswersOtherwise (s : Named) (event : EventValue) : Type 0 where
  pub good : IsBad s event → ⊥
  pub call : AtlasCall
  pub asked : IsCall s event call
  pub reply : AtlasReply
  pub new : State
  pub step : Step s.state call reply new
  pub met : is_refused reply ≡ false
  pub other : AnswersEvent s event reply → ⊥

-- The event isn't bad, and the model has a refusal for slots as a reply to its call.
pub record LacksSlots (s : Named) (event : EventValue) : Type 0 where
  pub good : IsBad s event → ⊥
  pub call : AtlasCall
  pub asked : IsCall s event call
  pub step : Step s.state call (Refused error.Slots) s.state

-- The first events of a recording.
abbrev pub first_events : ℕ → RecordingValue → RecordingValue
first_events i r = record r { events = take i r.events }

-- The events before the i-th are recorded; from a state that they lead to, the i-th event stops the replay.
pub record StopsAt (r : RecordingValue) (i : ℕ) (Stops : Named → EventValue → Type 0) : Type 0 where
  pub event : EventValue
  pub here : slice_get r.events i ≡ Some event
  pub at : Named
  pub before : LeadsTo (first_events i r) at
  pub stops : Stops at event

-- Why a replay ends with a fault.
abbrev pub IsFaultOf : RecordingValue → ReplayFault → Type 0
IsFaultOf r fault.Memory = Unit {0}
IsFaultOf r fault.Slots = (i : ℕ) × StopsAt r i LacksSlots
IsFaultOf r (fault.Differs i) = StopsAt r i AnswersOtherwise
IsFaultOf r (fault.BadEvent i) = StopsAt r i IsBad

abbrev pub HasRearranging : List EventValue → Type 0
HasRearranging events = Any (λ e. is_plain_event e ≡ false) events

-- The faults of a recording of a session: one of its events is a rearranging, for `Differs` the i-th or one before it.
abbrev pub MayFail : RecordingValue → ReplayFault → Type 0
MayFail r fault.Memory = Unit {0}
MayFail r fault.Slots = HasRearranging r.events
MayFail r (fault.Differs i) = HasRearranging (take (suc i) r.events)
MayFail r (fault.BadEvent i) = ⊥
