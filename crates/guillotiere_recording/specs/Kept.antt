-- What a session keeps whatever its names are, and what a rearranging makes of names that a map keeps. No public clause
-- cites this module.
use Rattle.std.specs.Prelude.{◌≡◌, ℕ, ◌↔◌, List, Contains, Some, map}
use Rattle.std.specs.Ordering.{nat_cmp}
use Rattle.std.specs.BTreeMap.{get}
use Rattle.guillotiere.specs.declared.ChangeList.{ChangeList}
use Rattle.guillotiere.specs.Rearranging.{rearrangement_of}
use Rattle.guillotiere.specs.States.{State}
use Rattle.guillotiere.specs.Steps.{AtlasCall, Step}
use Rattle.guillotiere.specs.Steps as atlas
use Rattle.guillotiere.specs.Stored.{state_of}
use Rattle.guillotiere_recording.specs.declared.moves.Moved.{Moved}
use Rattle.guillotiere_recording.specs.declared.names.LiveName.{LiveName}
use Rattle.guillotiere_recording.specs.declared.steps.EventFault.{EventFault}
use Rattle.guillotiere_recording.specs.declared.steps.EventFault.TheVariants as stop
use Rattle.guillotiere_recording.specs.Events.{ListValue, list_value_of}
use Rattle.guillotiere_recording.specs.Moves.{IsMoved}
use Rattle.guillotiere_recording.specs.Names.{AreLiveIds}
use Rattle.guillotiere_recording.specs.Recordings.{SessionValue, session_of}
use Rattle.guillotiere_recording.specs.Sessions.{IsNamed}
use Rattle.guillotiere_recording.specs.Standing.{Names}

-- Each live id has one entry, and no two have one name.
pub record IsSessionKept (v : SessionValue) : Type 0 where
  pub ids : AreLiveIds (state_of v.atlas) v.names
  pub named : IsNamed (session_of v)

abbrev pub entry_in : ℕ × ℕ → LiveName
entry_in e = record { name = e.0; id = e.1 }

-- The entries of a map, by rising name.
abbrev pub entries_in : Names → List LiveName
entries_in names = map entry_in names.entries

-- The map has these entries, and no other.
abbrev pub HasEntries : List LiveName → Names → Type 0
HasEntries entries names = (name id : ℕ) → (get nat_cmp names name ≡ Some id) ↔ Contains entries (entry_in (name, id))

-- The list is the answer to a rearranging of an atlas whose live ids have these entries.
pub record IsRearranged {A : Type 0} (entries : List LiveName) (list : ChangeList A) : Type 0 where
  pub before : SessionValue
  pub kept : IsSessionKept before
  pub names : before.names ≡ entries
  pub new : State
  pub asked : AtlasCall
  pub step : Step (state_of before.atlas) asked (atlas.Changed (rearrangement_of list)) new

-- The list under names is the said one, and the map has the entries of what was moved.
pub record IsFollowed {A : Type 0} (entries : List LiveName) (list : ChangeList A) (said : ListValue) (names : Names)
    : Type 0 where
  pub moved : Moved A
  pub is : IsMoved entries list moved
  pub same : list_value_of moved.list ≡ said
  pub has : HasEntries moved.names.items names

-- The list under names is another than the said one.
pub record IsOtherList {A : Type 0} (entries : List LiveName) (list : ChangeList A) (said : ListValue) : Type 0 where
  pub moved : Moved A
  pub is : IsMoved entries list moved
  pub other : list_value_of moved.list ≡ said → ⊥

-- Why a list isn't followed.
abbrev pub IsUnlike : {A : Type 0} → List LiveName → ChangeList A → ListValue → EventFault → Type 0
IsUnlike entries list said stop.Memory = Unit {0}
IsUnlike entries list said stop.Differs = IsOtherList entries list said
IsUnlike entries list said stop.Slots = ⊥
IsUnlike entries list said stop.Bad = ⊥
