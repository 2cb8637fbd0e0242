-- What contracts see of recordings and of recording allocators.
use Rattle.std.specs.Prelude.{◌≡◌, ℕ, zero, suc, ◌<◌, ◌≤◌, ◌^◌, List, [], ◌∷◌, ◌++◌, All, AllPairs, map}
use Rattle.guillotiere.specs.declared.Allocation.{Allocation}
use Rattle.guillotiere.specs.declared.Size.{Size}
use Rattle.guillotiere.specs.declared.AllocatorOptions.{AllocatorOptions}
use Rattle.guillotiere.specs.Pixels.{sides_of, options_of}
use Rattle.guillotiere.specs.Replies.{grant_of, IsExact}
use Rattle.guillotiere.specs.States.{started}
use Rattle.guillotiere.specs.Stored.{AtlasValue, state_of}
use Rattle.guillotiere_recording.specs.declared.names.LiveName.{LiveName}
use Rattle.guillotiere_recording.specs.Events.{EventValue, given_names}
use Rattle.guillotiere_recording.specs.Logs.{RecordingValue}
use Rattle.guillotiere_recording.specs.Sessions.{Named, Recorded}
use Rattle.guillotiere_recording.specs.Books.{AreSameGrants, book}
use Rattle.guillotiere_recording.specs.Names.{AreRisingNames, AreLiveIds, name_among}

-- The atlas, the names of its live ids, how many names were given, and what was recorded.
pub record SessionValue : Type 0 where
  pub atlas : AtlasValue
  pub names : List LiveName
  pub given : ℕ
  pub recording : RecordingValue

-- The state of the atlas, and the names of its live ids.
abbrev pub session_of : SessionValue → Named
session_of v = record { state = state_of v.atlas; name = name_among v.names }

-- The names 0, 1, 2, .. up to a number.
abbrev pub first_names : ℕ → List ℕ
first_names zero = []
first_names (suc n) = first_names n ++ n ∷ []

-- The recorded events lead to this state.
abbrev pub LeadsTo : RecordingValue → Named → Type 0
LeadsTo r last = Recorded (sides_of r.size) (options_of r.options) r.events last

-- What is recorded leads to the atlas as it is and its names, and gave the names 0, 1, 2, .. once each.
pub record IsFaithful (v : SessionValue) : Type 0 where
  pub leads : LeadsTo v.recording (session_of v)
  pub given : given_names v.recording.events ≡ first_names v.given

-- A session that is new: an atlas of this size with these options, and nothing recorded.
pub record IsNew (size : Size) (options : AllocatorOptions) (v : SessionValue) : Type 0 where
  pub state : state_of v.atlas ≡ started (sides_of size) (options_of options) 16777216
  pub recording : v.recording ≡ record { size = size; options = options; events = [] }
  pub given : v.given ≡ 0

-- The live names with their boxes by rising name, as exact rectangles: the book of the events.
pub record AreBooked (events : List EventValue) (found : List Allocation) : Type 0 where
  pub list : AreSameGrants (map grant_of found) (book events)
  pub rising : AllPairs (λ (a b : Allocation). a.id < b.id) found
  pub exact : All (λ (a : Allocation). IsExact a.rectangle) found

-- What each recording allocator keeps.
pub record IsRecordedSession (v : SessionValue) : Type 0 where
  pub faithful : IsFaithful v
  pub ids : AreLiveIds (state_of v.atlas) v.names
  pub rising : AreRisingNames v.names
  pub below : All (λ (n : LiveName). n.name < v.given) v.names
  pub most : v.given ≤ 2 ^ 32
