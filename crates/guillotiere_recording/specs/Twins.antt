-- Sessions that are one but for ids: what the one answers, the other answers.
use Rattle.std.specs.Prelude.{◌≡◌, ℕ, ◌↔◌, Bool, true, false, List, All, Some, None}
use Rattle.guillotiere.specs.Boxes.{Sides}
use Rattle.guillotiere.specs.Choice.{Options}
use Rattle.guillotiere.specs.Pixels.{sides_of, box_of}
use Rattle.guillotiere.specs.Trees.{Grant}
use Rattle.guillotiere.specs.States.{IsLive}
use Rattle.guillotiere.specs.Steps.{AtlasCall, AtlasReply, Step}
use Rattle.guillotiere.specs.Steps as atlas
use Rattle.guillotiere.specs.Steps.AtlasReply.{Allocated, NoRoom, Done}
use Rattle.guillotiere.specs.Renaming.{AreAlike, is_out_of_memory}
use Rattle.guillotiere_recording.specs.Events.{EventValue}
use Rattle.guillotiere_recording.specs.Events.EventValue.{Allocate, Deallocate, Grow}
use Rattle.guillotiere_recording.specs.Sessions.{Named, IsLiveName, IsNamed, KeepsNames, Leads, LeadOn, fresh_session}

-- The sessions are one but for ids: with names in place of ids their trees are the same.
abbrev pub AreTwins : Named → Named → Type 0
AreTwins s t = AreAlike s.name t.name s.state t.state

-- The event is a request, a freeing or a growth.
abbrev pub is_plain_event : EventValue → Bool
is_plain_event (Allocate size answer) = true
is_plain_event (Deallocate name) = true
is_plain_event (Grow size) = true
is_plain_event _ = false

-- The call that a plain event asks for in a session.
abbrev pub Asks : Named → EventValue → AtlasCall → Type 0
Asks s (Allocate size answer) call = call ≡ atlas.Allocate (sides_of size)
Asks s (Deallocate name) call = (id : ℕ) × IsLive s.state id × (s.name id ≡ name) × (call ≡ atlas.Deallocate id)
Asks s (Grow size) call = call ≡ atlas.Grow (sides_of size)
Asks s _ call = ⊥

-- The reply is what a plain event says, but for the id of a grant.
abbrev pub Says : EventValue → AtlasReply → Type 0
Says (Allocate size None) reply = reply ≡ NoRoom
Says (Allocate size (Some a)) reply = (g : Grant) × (reply ≡ Allocated g) × (g.box ≡ box_of a.rectangle)
Says (Deallocate name) reply = reply ≡ Done
Says (Grow size) reply = reply ≡ Done
Says _ reply = ⊥

-- A granted id has the name that the event gives.
abbrev pub NamesGrant : EventValue → AtlasReply → Named → Type 0
NamesGrant (Allocate size (Some a)) (Allocated g) t = t.name g.id ≡ a.id
NamesGrant _ reply t = Unit {0}

-- From twins, where a plain event leads the one on, the call that it asks for in the other, not refused for memory, is
-- answered as the event says. With names kept the event leads the other on too, and they are twins again.
abbrev pub TwinsAnswerAlike : Type 0
TwinsAnswerAlike =
    (s s' t t' : Named) (event : EventValue) (call : AtlasCall) (reply : AtlasReply) → IsNamed s → IsNamed t
    → AreTwins s t → is_plain_event event ≡ true → Leads s event s' → Asks t event call
    → Step t.state call reply t'.state
    → is_out_of_memory reply ≡ false
    → Says event reply × (KeepsNames t t' → NamesGrant event reply t' → Leads t event t' × AreTwins s' t')

-- Twins have the same live names.
abbrev pub TwinsShareNames : Type 0
TwinsShareNames = (s t : Named) (name : ℕ) → AreTwins s t → IsLiveName s name ↔ IsLiveName t name

-- New sessions of one size with the same options are twins.
abbrev pub NewSessionsAreTwins : Type 0
NewSessionsAreTwins =
    (size : Sides) (options : Options) (f g : ℕ → ℕ)
    → AreTwins (fresh_session size options f) (fresh_session size options g)

-- Twins that the same plain events lead on are twins again.
abbrev pub EventsKeepTwins : Type 0
EventsKeepTwins =
    (s s' t t' : Named) (events : List EventValue) → IsNamed s → IsNamed t → AreTwins s t
    → All (λ e. is_plain_event e ≡ true) events → LeadOn s events s' → LeadOn t events t' → AreTwins s' t'
