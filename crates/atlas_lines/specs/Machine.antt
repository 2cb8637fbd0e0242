-- The tool as a machine: the reply to each command, by the steps of the allocators.
use Rattle.std.specs.Prelude.{ℕ, ◌≡◌, ⊤, ◌+◌, ◌<◌, ◌^◌, ◌↔◌, IsTrue, List, [], map, length, slice_index_or, count_by}
use Rattle.std.specs.Prelude.{Option, Some, None, Ok, Err}
use Rattle.guillotiere.specs.declared.Allocation.{Allocation}
use Rattle.guillotiere.specs.declared.Change.{Change}
use Rattle.guillotiere.specs.declared.AtlasError.TheVariants.{Memory}
use Rattle.guillotiere.specs.declared.Rectangle.{Rectangle}
use Rattle.guillotiere.specs.TheConstants.{DEFAULT_OPTIONS}
use Rattle.guillotiere.specs.declared.Size.{Size}
use Rattle.guillotiere.specs.declared.AtlasError.{AtlasError}
use Rattle.guillotiere.specs.declared.AtlasError.TheVariants as refusal
use Rattle.guillotiere.specs.Boxes.{Sides, Box, IsPositive, Fits, AreSameBoxes}
use Rattle.guillotiere.specs.Choice.{Options, AreValid, ComesFirst}
use Rattle.guillotiere.specs.Pixels.{sides_of, size_of, options_of, rectangle_of}
use Rattle.guillotiere.specs.Trees.{Grant}
use Rattle.guillotiere.specs.Refits.{Transfer, Rearrangement}
use Rattle.guillotiere.specs.States.{State, started, live_in, free_in}
use Rattle.guillotiere.specs.Steps.{AtlasCall, AtlasReply, Step}
use Rattle.guillotiere.specs.Steps.AtlasCall.{Allocate, Deallocate, ResizeAndRearrange}
use Rattle.guillotiere.specs.Replies.{IsLiveList}
use Rattle.guillotiere.specs.Stored.{AtlasValue}
use Rattle.guillotiere.specs.Stored as stored
use Rattle.guillotiere.specs.Simple.{SimpleState, SimpleAtlasCall, SimpleAnswer, SimpleStep, simple_start}
use Rattle.guillotiere.specs.SimpleStored.{SimpleValue, simple_state_of}
use Rattle.guillotiere_recording.specs.declared.error.RecordingError.{RecordingError}
use Rattle.guillotiere_recording.specs.declared.error.RecordingError.TheVariants as recording
use Rattle.guillotiere_recording.specs.Events.{EventValue, ListValue}
use Rattle.guillotiere_recording.specs.Logs.{RecordingValue, with_event}
use Rattle.guillotiere_recording.specs.Recordings.{SessionValue, AreBooked, session_of}
use Rattle.guillotiere_recording.specs.Replays.{IsRecorded, IsFaultOf, MayFail, is_granted_event, is_freeing}
use Rattle.guillotiere_recording.specs.Replays.{is_failed_request}
use Rattle.guillotiere_recording.specs.Sessions.{Named, IsLiveName, Leads}
use Rattle.atlas_words.specs.declared.commands.Command.{Command}
use Rattle.atlas_words.specs.declared.commands.Command.TheVariants.{Simple, Take, Atlas, Alloc, Live, Holes, AskSize}
use Rattle.atlas_words.specs.declared.commands.Command.TheVariants.{Free, Grow, Empty, Clear, Rearrange, Resize}
use Rattle.atlas_words.specs.declared.commands.Command.TheVariants.{FromAtlas, Record, Replay}
use Rattle.atlas_lines.specs.declared.replies.ReplayCounts.{ReplayCounts}
use Rattle.atlas_lines.specs.declared.replies.Reply.{Reply}
use Rattle.atlas_lines.specs.declared.replies.Reply.TheVariants.{Completed, Placed, NotPlaced, Allocated, Extent, Truth}
use Rattle.atlas_lines.specs.declared.replies.Reply.TheVariants.{NoAtlas, NoSimple, Invalid, Declined, NoNames}
use Rattle.atlas_lines.specs.declared.replies.Reply.TheVariants.{NoRecording, Replayed}
use Rattle.atlas_lines.specs.declared.standing.Standing.{Standing}
use Rattle.atlas_lines.specs.declared.standing.Standing.TheVariants as stands

-- A reply of one line, or of a line for each and one for their count.
pub data ToolReply : Type 0 where
  OneLine : (reply : Reply) → ToolReply
  LiveLines : (granted : List Allocation) → ToolReply
  HoleLines : (areas : List Rectangle) → ToolReply
  ChangeLines : (changes : List Change) → (failures : List Allocation) → ToolReply

-- A session that is recorded: an atlas under names, how many names were given, and what was recorded.
pub record Session : Type 0 where
  pub named : Named
  pub given : ℕ
  pub recording : RecordingValue

-- An atlas or a recorded session stands in one place.
pub record ToolState : Type 0 where
  pub stand : Standing State Session
  pub simple : Option SimpleState

-- What the tool stores: the values of its allocators.
pub record Held : Type 0 where
  pub stand : Standing AtlasValue SessionValue
  pub simple : Option SimpleValue

abbrev pub session_in : SessionValue → Session
session_in value = record { named = session_of value; given = value.given; recording = value.recording }

abbrev pub standing_in : Standing AtlasValue SessionValue → Standing State Session
standing_in stands.Nothing = stands.Nothing
standing_in (stands.Atlas value) = stands.Atlas (stored.state_of value)
standing_in (stands.Session value) = stands.Session (session_in value)

abbrev pub simple_in : Option SimpleValue → Option SimpleState
simple_in None = None
simple_in (Some value) = Some (simple_state_of value)

abbrev pub tool_state_of : Held → ToolState
tool_state_of held = record { stand = standing_in held.stand; simple = simple_in held.simple }

-- The atlas, if it stands there itself.
abbrev pub atlas_of : Standing State Session → Option State
atlas_of stands.Nothing = None
atlas_of (stands.Atlas state) = Some state
atlas_of (stands.Session session) = None

-- No atlas, no recorded session and no simple allocator.
abbrev pub at_start : ToolState
at_start = record { stand = stands.Nothing; simple = None }

abbrev pub with_atlas : ToolState → State → ToolState
with_atlas old made = record old { stand = stands.Atlas made }

abbrev pub with_session : ToolState → Session → ToolState
with_session old made = record old { stand = stands.Session made }

abbrev pub with_simple : ToolState → SimpleState → ToolState
with_simple old made = record old { simple = Some made }

-- The creation of a simple allocator, which takes the place of an earlier one.
abbrev pub CreatesSimple : ToolState → Sides → Reply → ToolState → Type 0
CreatesSimple old size Completed new =
    IsPositive size × (new ≡ with_simple old (simple_start size (options_of DEFAULT_OPTIONS)))
CreatesSimple old size Invalid new = (IsPositive size → ⊥) × (new ≡ old)
CreatesSimple old size (Declined error) new = (error ≡ Memory) × IsPositive size × (new ≡ old)
-- No other reply comes.
CreatesSimple old size _ new = ⊥

abbrev pub simple_reply : SimpleAnswer → Reply
simple_reply (SimpleAnswer.Granted box) = Placed (rectangle_of box)
simple_reply SimpleAnswer.NoRoom = NotPlaced
simple_reply SimpleAnswer.Done = Completed
simple_reply (SimpleAnswer.Refused error) = Declined error
simple_reply SimpleAnswer.BadCall = Invalid

-- A request to the simple allocator, if there is one.
abbrev pub RequestsSimple : Option SimpleState → Sides → Reply → Option SimpleState → Type 0
RequestsSimple None size reply new = (reply ≡ NoSimple) × (new ≡ None)
RequestsSimple (Some state) size reply new =
    (answer : SimpleAnswer) × (later : SimpleState)
    × SimpleStep state (SimpleAtlasCall.Allocate size) answer later × (reply ≡ simple_reply answer) × (new ≡ Some later)

-- The simple allocator takes over from the atlas, if there are both.
abbrev pub StartsSimple : Option State → Option SimpleState → Reply → Option SimpleState → Type 0
StartsSimple None simple reply new = (reply ≡ NoAtlas) × (new ≡ simple)
StartsSimple (Some source) None reply new = (reply ≡ NoSimple) × (new ≡ None)
StartsSimple (Some source) (Some state) reply new =
    (answer : SimpleAnswer) × (later : SimpleState)
    × SimpleStep state (SimpleAtlasCall.Start source) answer later × (reply ≡ simple_reply answer) × (new ≡ Some later)

-- The creation of an atlas, which takes the place of an earlier one or of a recorded session.
abbrev pub CreatesAtlas : ToolState → Sides → Options → Reply → ToolState → Type 0
CreatesAtlas old size options Completed new =
    IsPositive size × AreValid options × (new ≡ with_atlas old (started size options 16777216))
CreatesAtlas old size options Invalid new = (IsPositive size × AreValid options → ⊥) × (new ≡ old)
CreatesAtlas old size options (Declined error) new = (error ≡ Memory) × IsPositive size × AreValid options × (new ≡ old)
-- No other reply comes.
CreatesAtlas old size options _ new = ⊥

-- A recorded session that is new: an atlas of this size with the default options, and nothing recorded.
pub record IsNewSession (size : Size) (session : Session) : Type 0 where
  pub state : session.named.state ≡ started (sides_of size) (options_of DEFAULT_OPTIONS) 16777216
  pub recording : session.recording ≡ record { size = size; options = DEFAULT_OPTIONS; events = [] }
  pub given : session.given ≡ 0

-- The beginning of a recorded session, which takes the place of an atlas or of an earlier session.
abbrev pub BeginsSession : ToolState → Size → Reply → ToolState → Type 0
BeginsSession old size Completed new =
    IsPositive (sides_of size) × ((session : Session) × IsNewSession size session × (new ≡ with_session old session))
BeginsSession old size Invalid new = (IsPositive (sides_of size) → ⊥) × (new ≡ old)
BeginsSession old size (Declined error) new = (error ≡ Memory) × IsPositive (sides_of size) × (new ≡ old)
-- No other reply comes.
BeginsSession old size _ new = ⊥

abbrev pub allocation_of : Grant → Allocation
allocation_of g = record { id = g.id; rectangle = rectangle_of g.box }

-- The line that shows what the atlas answers.
abbrev pub ShowsAnswer : AtlasReply → Reply → Type 0
ShowsAnswer (AtlasReply.Allocated grant) reply = reply ≡ Allocated (allocation_of grant)
ShowsAnswer AtlasReply.NoRoom reply = reply ≡ NotPlaced
ShowsAnswer AtlasReply.Done reply = reply ≡ Completed
ShowsAnswer (AtlasReply.Refused error) reply = reply ≡ Declined error
ShowsAnswer AtlasReply.BadCall reply = reply ≡ Invalid
-- One line shows no list of changes.
ShowsAnswer (AtlasReply.Changed list) reply = ⊥

-- A call of an atlas.
abbrev pub AnswersCall : State → AtlasCall → Reply → State → Type 0
AnswersCall old call reply new = (answer : AtlasReply) × Step old call answer new × ShowsAnswer answer reply

-- What stands in the tool's place is called: an atlas, or a recorded session, of which R tells.
abbrev pub CallsStanding : Standing State Session → AtlasCall → (R : Session → Session → Type 0) → Reply
    → Standing State Session → Type 0
CallsStanding stands.Nothing call R reply new = (reply ≡ NoAtlas) × (new ≡ stands.Nothing)
CallsStanding (stands.Atlas state) call R reply new =
    (later : State) × AnswersCall state call reply later × (new ≡ stands.Atlas later)
CallsStanding (stands.Session session) call R reply new =
    (later : Session) × R session later × (new ≡ stands.Session later)

-- A session isn't asked what an atlas alone can answer.
abbrev pub HasNoAtlas : Reply → Session → Session → Type 0
HasNoAtlas reply old new = (reply ≡ NoAtlas) × (new ≡ old)

-- The line of a refusal in a session.
abbrev pub declined_line : RecordingError → Reply
declined_line recording.Memory = Declined refusal.Memory
declined_line recording.Slots = Declined refusal.Slots
declined_line recording.NotLive = Declined refusal.NotLive
declined_line recording.Names = NoNames

-- How many names are given after an event: a grant gives one more.
abbrev pub given_after : EventValue → ℕ → ℕ
given_after (EventValue.Allocate size (Some granted)) given = given + 1
given_after _ given = given

-- An event of a session: it led on, and was recorded; a grant took the next name.
pub record Records (old : Session) (event : EventValue) (new : Session) : Type 0 where
  pub led : Leads old.named event new.named
  pub recorded : new.recording ≡ with_event event old.recording
  pub given : new.given ≡ given_after event old.given

-- A refusal of a call to a session, for memory, or for slots where its atlas may refuse it so; nothing changes.
pub record Refuses (old : Session) (call : AtlasCall) (error : AtlasError) (new : Session) : Type 0 where
  pub slots : error ≡ refusal.Slots → Step old.named.state call (AtlasReply.Refused error) old.named.state
  pub live : error ≡ refusal.NotLive → ⊥
  pub kept : new ≡ old

-- A request to a session: granted under the next name, or without room; refused for names once all were given.
abbrev pub RecordsRequest : Session → Size → Reply → Session → Type 0
RecordsRequest old size (Allocated a) new =
    Records old (EventValue.Allocate size (Some a)) new × (a.id ≡ old.given) × (old.given ≡ 2 ^ 32 → ⊥)
RecordsRequest old size NotPlaced new = Records old (EventValue.Allocate size None) new × (old.given ≡ 2 ^ 32 → ⊥)
RecordsRequest old size NoNames new = (old.given ≡ 2 ^ 32) × (new ≡ old)
RecordsRequest old size (Declined error) new =
    Refuses old (Allocate (sides_of size)) error new × (old.given ≡ 2 ^ 32 → ⊥)
-- No other reply comes.
RecordsRequest old size _ new = ⊥

-- A freeing in a session, by name.
abbrev pub RecordsFreeing : Session → (name : ℕ) → Reply → Session → Type 0
RecordsFreeing old name Completed new = Records old (EventValue.Deallocate name) new
RecordsFreeing old name (Declined error) new =
    ((error ≡ refusal.NotLive) ↔ (IsLiveName old.named name → ⊥)) × (error ≡ refusal.Slots → ⊥) × (new ≡ old)
-- No other reply comes.
RecordsFreeing old name _ new = ⊥

-- A growth in a session.
abbrev pub RecordsGrowth : Session → Size → Reply → Session → Type 0
RecordsGrowth old size Completed new = Records old (EventValue.Grow size) new
RecordsGrowth old size Invalid new = (Fits old.named.state.size (sides_of size) → ⊥) × (new ≡ old)
RecordsGrowth old size (Declined error) new =
    Fits old.named.state.size (sides_of size) × Refuses old (AtlasCall.Grow (sides_of size)) error new
-- No other reply comes.
RecordsGrowth old size _ new = ⊥

abbrev pub change_of : Transfer → Change
change_of t = record { old = allocation_of t.old; new = allocation_of t.new }

abbrev pub change_lines : Rearrangement → ToolReply
change_lines list = ChangeLines (map change_of list.changes) (map allocation_of list.failures)

-- The lines that show what a rearranging answers: a list of changes, or one line.
abbrev pub ShowsRearranging : AtlasReply → ToolReply → Type 0
ShowsRearranging (AtlasReply.Changed list) reply = reply ≡ change_lines list
ShowsRearranging AtlasReply.BadCall reply = reply ≡ OneLine Invalid
ShowsRearranging (AtlasReply.Refused error) reply = reply ≡ OneLine (Declined error)
-- No other answer comes.
ShowsRearranging _ reply = ⊥

-- A rearranging of an atlas.
abbrev pub AnswersRearranging : State → AtlasCall → ToolReply → State → Type 0
AnswersRearranging old call reply new = (answer : AtlasReply) × Step old call answer new × ShowsRearranging answer reply

-- A rearranging in a session, whose lists hold names; `asks` says whether the call's condition holds.
abbrev pub RecordsRearranging : Session → AtlasCall → (asks : Type 0) → (recorded : ListValue → EventValue) → ToolReply
    → Session → Type 0
RecordsRearranging old call asks recorded (ChangeLines changes failures) new =
    Records old (recorded (record { changes = changes; failures = failures })) new
RecordsRearranging old call asks recorded (OneLine Invalid) new = (asks → ⊥) × (new ≡ old)
RecordsRearranging old call asks recorded (OneLine (Declined error)) new = asks × Refuses old call error new
-- No other reply comes.
RecordsRearranging old call asks recorded _ new = ⊥

-- A rearranging of what stands in the tool's place: an atlas, or a recorded session, of which R tells.
abbrev pub RearrangesStanding : Standing State Session → AtlasCall → (R : Session → Session → Type 0) → ToolReply
    → Standing State Session → Type 0
RearrangesStanding stands.Nothing call R reply new = (reply ≡ OneLine NoAtlas) × (new ≡ stands.Nothing)
RearrangesStanding (stands.Atlas state) call R reply new =
    (later : State) × AnswersRearranging state call reply later × (new ≡ stands.Atlas later)
RearrangesStanding (stands.Session session) call R reply new =
    (later : Session) × R session later × (new ≡ stands.Session later)

-- The live grants by rising slot, or no memory for the list.
abbrev pub ShowsLive : State → ToolReply → Type 0
ShowsLive state (LiveLines granted) =
    (grants : List Grant) × IsLiveList state grants × (granted ≡ map allocation_of grants)
ShowsLive state (OneLine reply) = reply ≡ Declined Memory
ShowsLive state (HoleLines areas) = ⊥
ShowsLive state (ChangeLines changes failures) = ⊥

-- The live names with their rectangles by rising name, or no memory for the list.
abbrev pub ShowsNames : Session → ToolReply → Type 0
ShowsNames session (LiveLines granted) = AreBooked session.recording.events granted
ShowsNames session (OneLine reply) = reply ≡ Declined Memory
ShowsNames session (HoleLines areas) = ⊥
ShowsNames session (ChangeLines changes failures) = ⊥

-- Each box lies above the next one, or at the same height and not right of it.
abbrev pub AreInOrder : List Box → Type 0
AreInOrder boxes =
    (k : ℕ) (b : Box) → k + 1 < length boxes → ComesFirst (slice_index_or boxes k b) (slice_index_or boxes (k + 1) b)

-- The free boxes from above to below and from left to right.
pub record AreHoles (state : State) (boxes : List Box) : Type 0 where
  pub free : AreSameBoxes boxes (free_in state)
  pub ordered : AreInOrder boxes

abbrev pub HoldsHoles : State → List Rectangle → Type 0
HoldsHoles state areas = (boxes : List Box) × AreHoles state boxes × (areas ≡ map rectangle_of boxes)

-- These boxes, or no memory for the list.
abbrev pub ShowsHoles : State → ToolReply → Type 0
ShowsHoles state (HoleLines areas) = HoldsHoles state areas
ShowsHoles state (OneLine reply) = reply ≡ Declined Memory
ShowsHoles state (LiveLines granted) = ⊥
ShowsHoles state (ChangeLines changes failures) = ⊥

abbrev pub ShowsSize : State → Reply → Type 0
ShowsSize state reply = reply ≡ Extent (size_of state.size)

-- `true` exactly if no id is live.
abbrev pub ShowsEmpty : State → Reply → Type 0
ShowsEmpty state (Truth answer) = IsTrue answer ↔ (live_in state ≡ [])
ShowsEmpty state _ = ⊥

-- One line of which this holds.
abbrev pub IsLine : (Reply → Type 0) → ToolReply → Type 0
IsLine P (OneLine reply) = P reply
IsLine P (LiveLines granted) = ⊥
IsLine P (HoleLines areas) = ⊥
IsLine P (ChangeLines changes failures) = ⊥

-- A look at what stands in the tool's place: P tells of an atlas, Q of a recorded session.
abbrev pub LooksAtStanding : Standing State Session → (P : State → ToolReply → Type 0)
    → (Q : Session → ToolReply → Type 0) → ToolReply → Type 0
LooksAtStanding stands.Nothing P Q reply = reply ≡ OneLine NoAtlas
LooksAtStanding (stands.Atlas state) P Q reply = P state reply
LooksAtStanding (stands.Session session) P Q reply = Q session reply

-- A session isn't looked at where an atlas alone can answer.
abbrev pub SaysNoAtlas : Session → ToolReply → Type 0
SaysNoAtlas session reply = reply ≡ OneLine NoAtlas

-- The events are those of a session; each kind of event is counted, and what is live at its end.
pub record CountsReplay (r : RecordingValue) (counts : ReplayCounts) : Type 0 where
  pub recorded : IsRecorded r
  pub allocations : counts.allocations ≡ count_by is_granted_event r.events
  pub deallocations : counts.deallocations ≡ count_by is_freeing r.events
  pub failed : counts.failed_allocations ≡ count_by is_failed_request r.events
  pub live : (booked : List Allocation) × AreBooked r.events booked × (counts.live ≡ length booked)

-- The line of a replay: what it counted, or its fault. Where the events are those of a session, a fault but for memory
-- needs a rearranging.
abbrev pub ShowsReplay : RecordingValue → Reply → Type 0
ShowsReplay r (Replayed (Ok counts)) = CountsReplay r counts
ShowsReplay r (Replayed (Err fault)) = IsFaultOf r fault × (IsRecorded r → MayFail r fault)
-- No other reply comes.
ShowsReplay r _ = ⊥

-- A replay, which ends the recorded session.
abbrev pub ReplaysStanding : Standing State Session → Reply → Standing State Session → Type 0
ReplaysStanding stands.Nothing reply new = (reply ≡ NoRecording) × (new ≡ stands.Nothing)
ReplaysStanding (stands.Atlas state) reply new = (reply ≡ NoRecording) × (new ≡ stands.Atlas state)
ReplaysStanding (stands.Session session) reply new = ShowsReplay session.recording reply × (new ≡ stands.Nothing)

-- From old, the command may have this reply and lead to new.
abbrev pub ToolStep : ToolState → Command → ToolReply → ToolState → Type 0
ToolStep old (Simple size) reply new = IsLine (λ line. CreatesSimple old (sides_of size) line new) reply
ToolStep old (Take size) reply new =
    IsLine (λ line. RequestsSimple old.simple (sides_of size) line new.simple) reply × (new.stand ≡ old.stand)
ToolStep old (Atlas size options) reply new =
    IsLine (λ line. CreatesAtlas old (sides_of size) (options_of options) line new) reply
ToolStep old (Record size) reply new = IsLine (λ line. BeginsSession old size line new) reply
ToolStep old Replay reply new =
    IsLine (λ line. ReplaysStanding old.stand line new.stand) reply × (new.simple ≡ old.simple)
ToolStep old (Alloc size) reply new =
    IsLine
    (λ line. CallsStanding old.stand (Allocate (sides_of size)) (λ s t. RecordsRequest s size line t) line
    new.stand) reply
    × (new.simple ≡ old.simple)
ToolStep old (Free id) reply new =
    IsLine (λ line. CallsStanding old.stand (Deallocate id) (λ s t. RecordsFreeing s id line t) line new.stand) reply
    × (new.simple ≡ old.simple)
ToolStep old (Grow size) reply new =
    IsLine
    (λ line. CallsStanding old.stand (AtlasCall.Grow (sides_of size)) (λ s t. RecordsGrowth s size line t) line
    new.stand) reply
    × (new.simple ≡ old.simple)
ToolStep old Clear reply new =
    IsLine (λ line. CallsStanding old.stand AtlasCall.Clear (λ s t. HasNoAtlas line s t) line new.stand) reply
    × (new.simple ≡ old.simple)
ToolStep old Rearrange reply new =
    RearrangesStanding old.stand AtlasCall.Rearrange
    (λ s t. RecordsRearranging s AtlasCall.Rearrange ⊤ EventValue.Rearrange reply t) reply new.stand
    × (new.simple ≡ old.simple)
ToolStep old (Resize size) reply new =
    RearrangesStanding old.stand (ResizeAndRearrange (sides_of size))
    (λ s t. RecordsRearranging s (ResizeAndRearrange (sides_of size)) (IsPositive (sides_of size))
    (EventValue.ResizeAndRearrange size) reply t)
    reply new.stand
    × (new.simple ≡ old.simple)
ToolStep old FromAtlas reply new =
    IsLine (λ line. StartsSimple (atlas_of old.stand) old.simple line new.simple) reply × (new.stand ≡ old.stand)
ToolStep old Live reply new = LooksAtStanding old.stand ShowsLive ShowsNames reply × (new ≡ old)
ToolStep old Holes reply new = LooksAtStanding old.stand ShowsHoles (λ s. ShowsHoles s.named.state) reply × (new ≡ old)
ToolStep old AskSize reply new =
    LooksAtStanding old.stand (λ state. IsLine (ShowsSize state)) (λ s. IsLine (ShowsSize s.named.state)) reply
    × (new ≡ old)
ToolStep old Empty reply new =
    LooksAtStanding old.stand (λ state. IsLine (ShowsEmpty state)) SaysNoAtlas reply × (new ≡ old)
