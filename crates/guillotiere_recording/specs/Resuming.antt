-- What resuming a recording answers: a session that goes on from its end, or the first event that can't be carried out as it says.
use Rattle.std.specs.Prelude.{◌≡◌, ◌<◌, ℕ, ◌^◌, Option, Some, None, slice_get}
use Rattle.guillotiere.specs.declared.Allocation.{Allocation}
use Rattle.guillotiere.specs.declared.AtlasError.TheVariants as error
use Rattle.guillotiere.specs.Boxes.{Fits, IsPositive}
use Rattle.guillotiere.specs.Pixels.{sides_of}
use Rattle.guillotiere.specs.Steps.{AtlasCall, Step}
use Rattle.guillotiere.specs.Steps.AtlasReply.{Refused}
use Rattle.guillotiere.specs.Stored.{state_of}
use Rattle.guillotiere_recording.specs.declared.replay.ReplayFault.{ReplayFault}
use Rattle.guillotiere_recording.specs.declared.replay.ReplayFault.TheVariants as fault
use Rattle.guillotiere_recording.specs.Events.{EventValue, given_names}
use Rattle.guillotiere_recording.specs.Events.EventValue.{Allocate, Deallocate, Grow, Rearrange, ResizeAndRearrange}
use Rattle.guillotiere_recording.specs.Logs.{RecordingValue}
use Rattle.guillotiere_recording.specs.Sessions.{Named, IsLiveName, Leads}
use Rattle.guillotiere_recording.specs.Recordings.{SessionValue, session_of, first_names, IsFaithful}
use Rattle.guillotiere_recording.specs.Replays.{IsCall, IsRecorded, first_events}

-- The event can't be carried out in this session: its new name isn't the next one, the name that it frees isn't live, a side
-- shrinks, or a size is empty. Once all names were given a request has no answer.
abbrev pub IsUnfit : SessionValue → EventValue → Type 0
IsUnfit v (Allocate size None) = v.given ≡ 2 ^ 32
IsUnfit v (Allocate size (Some a)) = a.id ≡ v.given → ⊥
IsUnfit v (Deallocate name) = IsLiveName (session_of v) name → ⊥
IsUnfit v (Grow size) = Fits (state_of v.atlas).size (sides_of size) → ⊥
IsUnfit v (Rearrange list) = ⊥
IsUnfit v (ResizeAndRearrange size list) = IsPositive (sides_of size) → ⊥

-- Of two grants the name is the same.
abbrev pub IsSameName : Option Allocation → Option Allocation → Type 0
IsSameName None b = Unit {0}
IsSameName (Some a) None = Unit {0}
IsSameName (Some a) (Some b) = b.id ≡ a.id

-- Both events are the same call, with whatever answers, but for the name of a grant.
abbrev pub IsSameCall : EventValue → EventValue → Type 0
IsSameCall (Allocate size answer) (Allocate other another) = (other ≡ size) × IsSameName answer another
IsSameCall (Rearrange _) (Rearrange _) = Unit {0}
IsSameCall (ResizeAndRearrange size _) (ResizeAndRearrange other _) = other ≡ size
IsSameCall _ _ = ⊥

-- The session may answer the call of the event otherwise: another event of the same call leads on.
pub record AnswersElse (v : SessionValue) (event : EventValue) : Type 0 where
  pub other : EventValue
  pub same : IsSameCall event other
  pub next : Named
  pub leads : Leads (session_of v) other next
  pub differs : other ≡ event → ⊥

-- The atlas has a refusal for slots as a reply to the call of the event.
pub record HasNoSlots (v : SessionValue) (event : EventValue) : Type 0 where
  pub call : AtlasCall
  pub asked : IsCall (session_of v) event call
  pub step : Step (state_of v.atlas) call (Refused error.Slots) (state_of v.atlas)

-- A session has recorded the events before the i-th, and there the i-th one stops it.
pub record IsStoppedAt (r : RecordingValue) (i : ℕ) (Stops : SessionValue → EventValue → Type 0) : Type 0 where
  pub event : EventValue
  pub here : slice_get r.events i ≡ Some event
  pub at : SessionValue
  pub faithful : IsFaithful at
  pub before : at.recording ≡ first_events i r
  pub stops : Stops at event

-- What a recording allocator records: the events are those of a session, and gave the names 0, 1, 2, .. once each, fewer than
-- there are.
pub record IsOwnRecording (r : RecordingValue) : Type 0 where
  pub recorded : IsRecorded r
  pub count : ℕ
  pub few : count < 2 ^ 32
  pub given : given_names r.events ≡ first_names count

-- Why a recording isn't resumed.
abbrev pub IsResumeFault : RecordingValue → ReplayFault → Type 0
IsResumeFault r fault.Memory = Unit {0}
IsResumeFault r fault.Slots = (i : ℕ) × IsStoppedAt r i HasNoSlots
IsResumeFault r (fault.Differs i) = IsStoppedAt r i AnswersElse
IsResumeFault r (fault.BadEvent i) = IsStoppedAt r i IsUnfit
