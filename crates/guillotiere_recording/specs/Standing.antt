-- A replay on its way: its atlas, and the live ids by name. No public clause cites this module.
use Rattle.std.specs.Prelude.{◌≡◌, ℕ, ◌↔◌, Some}
use Rattle.std.specs.Ordering.{nat_cmp}
use Rattle.std.specs.BTreeMap.{BTreeMap, get}
use Rattle.guillotiere.specs.declared.Allocation.{Allocation}
use Rattle.guillotiere.specs.declared.AtlasError.{AtlasError}
use Rattle.guillotiere.specs.declared.AtlasError.TheVariants as refusal
use Rattle.guillotiere.specs.Pixels.{rectangle_of}
use Rattle.guillotiere.specs.Replies.{live_box}
use Rattle.guillotiere.specs.States.{State, IsLive}
use Rattle.guillotiere.specs.Stored.{AtlasValue, state_of}
use Rattle.guillotiere_recording.specs.declared.steps.EventFault.{EventFault}
use Rattle.guillotiere_recording.specs.declared.steps.EventFault.TheVariants as stop
use Rattle.guillotiere_recording.specs.declared.replay.ReplayFault.{ReplayFault}
use Rattle.guillotiere_recording.specs.declared.replay.ReplayFault.TheVariants as fault
use Rattle.guillotiere_recording.specs.Events.{EventValue}
use Rattle.guillotiere_recording.specs.Sessions.{Named, IsNamed, Leads}
use Rattle.guillotiere_recording.specs.Names.{box_or_none}
use Rattle.guillotiere_recording.specs.Replays.{IsBad, AnswersOtherwise, LacksSlots}

-- The names of live ids.
abbrev pub Names : Type 0
Names = BTreeMap ℕ ℕ

-- The map has each live name with its id, and nothing else.
abbrev pub Finds : Names → Named → Type 0
Finds names s = (name id : ℕ) → (get nat_cmp names name ≡ Some id) ↔ (IsLive s.state id × (s.name id ≡ name))

-- Atlas and names show this state.
pub record ShowsNamed (a : AtlasValue) (names : Names) (s : Named) : Type 0 where
  pub state : s.state ≡ state_of a
  pub finds : Finds names s
  pub named : IsNamed s

-- Whatever state atlas and names showed, the event leads from it to one that they show now.
abbrev pub CarriesOut : AtlasValue → Names → EventValue → AtlasValue → Names → Type 0
CarriesOut a names event b left =
    (s : Named) → ShowsNamed a names s → (t : Named) × Leads s event t × ShowsNamed b left t

-- Why an event isn't carried out, from whatever state atlas and names showed.
abbrev pub IsStopped : AtlasValue → Names → EventValue → EventFault → Type 0
IsStopped a names event stop.Memory = Unit {0}
IsStopped a names event stop.Slots = (s : Named) → ShowsNamed a names s → LacksSlots s event
IsStopped a names event stop.Differs = (s : Named) → ShowsNamed a names s → AnswersOtherwise s event
IsStopped a names event stop.Bad = (s : Named) → ShowsNamed a names s → IsBad s event

-- The fault of a replay whose i-th event isn't carried out.
abbrev pub fault_of : EventFault → ℕ → ReplayFault
fault_of stop.Memory i = fault.Memory
fault_of stop.Slots i = fault.Slots
fault_of stop.Differs i = fault.Differs i
fault_of stop.Bad i = fault.BadEvent i

-- An atlas's refusal; the last one never comes where the name was found.
abbrev pub event_fault : AtlasError → EventFault
event_fault refusal.Memory = stop.Memory
event_fault refusal.Slots = stop.Slots
event_fault refusal.NotLive = stop.Bad

-- What an entry shows: its name, and the rectangle of its id.
abbrev pub shown_entry : State → ℕ × ℕ → Allocation
shown_entry s e = record { id = e.0; rectangle = rectangle_of (box_or_none (live_box s e.1)) }
