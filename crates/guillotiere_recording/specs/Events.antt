-- What contracts see of an event: its arguments and its answer, where every id is a name.
use Rattle.std.specs.Prelude.{ℕ, List, [], ◌∷◌, Option, Some}
use Rattle.guillotiere.specs.declared.Size.{Size}
use Rattle.guillotiere.specs.declared.Allocation.{Allocation}
use Rattle.guillotiere.specs.declared.Change.{Change}
use Rattle.guillotiere.specs.declared.ChangeList.{ChangeList}
use Rattle.guillotiere_recording.specs.declared.event.Event.{Event}
use Rattle.guillotiere_recording.specs.declared.event.Event.TheVariants as event

-- What moved, and what found no room.
pub record ListValue : Type 0 where
  pub changes : List Change
  pub failures : List Allocation

pub data EventValue : Type 0 where
  Allocate : (size : Size) → (answer : Option Allocation) → EventValue
  Deallocate : (name : ℕ) → EventValue
  Grow : (size : Size) → EventValue
  Rearrange : (list : ListValue) → EventValue
  ResizeAndRearrange : (size : Size) → (list : ListValue) → EventValue

abbrev pub list_value_of : {A : Type 0} → ChangeList A → ListValue
list_value_of list = record { changes = list.changes.items; failures = list.failures.items }

abbrev pub event_of : {A : Type 0} → Event A → EventValue
event_of (event.Allocate size answer) = Allocate size answer
event_of (event.Deallocate name) = Deallocate name
event_of (event.Grow size) = Grow size
event_of (event.Rearrange list) = Rearrange (list_value_of list)
event_of (event.ResizeAndRearrange size list) = ResizeAndRearrange size (list_value_of list)

-- The names that events give, in order.
abbrev pub given_names : List EventValue → List ℕ
given_names [] = []
given_names (Allocate size (Some granted) ∷ events) = granted.id ∷ given_names events
given_names (event ∷ events) = given_names events
