-- Books: what is live after events, folded from the events alone.
use Rattle.std.specs.Prelude.{◌≡◌, ◌==◌, Bool, not, List, [], ◌∷◌, ◌++◌, map, filter, count_by, Some, None}
use Rattle.guillotiere.specs.Boxes.{Sides}
use Rattle.guillotiere.specs.Choice.{Options}
use Rattle.guillotiere.specs.Trees.{Grant}
use Rattle.guillotiere.specs.Replies.{grant_of}
use Rattle.guillotiere_recording.specs.Events.{EventValue, ListValue}
use Rattle.guillotiere_recording.specs.Events.EventValue.{Allocate, Deallocate, Grow, Rearrange, ResizeAndRearrange}
use Rattle.guillotiere_recording.specs.Sessions.{Named, named_boxes, IsNamed, Leads, Recorded}

-- The new boxes of a list.
abbrev pub moved_boxes : ListValue → List Grant
moved_boxes list = map (λ c. grant_of c.new) list.changes

-- A grant adds, a freeing removes, a change list replaces all by its new boxes.
abbrev pub booked : List Grant → EventValue → List Grant
booked held (Allocate size None) = held
booked held (Allocate size (Some a)) = held ++ grant_of a ∷ []
booked held (Deallocate name) = filter (λ g. not (g.id == name)) held
booked held (Grow size) = held
booked held (Rearrange list) = moved_boxes list
booked held (ResizeAndRearrange size list) = moved_boxes list

abbrev pub book_from : List Grant → List EventValue → List Grant
book_from held [] = held
book_from held (event ∷ events) = book_from (booked held event) events

-- The live names with their boxes, by the events alone.
abbrev pub book : List EventValue → List Grant
book events = book_from [] events

-- The same grants, each as often, in whatever order.
abbrev pub AreSameGrants : List Grant → List Grant → Type 0
AreSameGrants gs hs = (p : Grant → Bool) → count_by p gs ≡ count_by p hs

-- An event from a named state leads to a named state.
abbrev pub EventsKeepNames : Type 0
EventsKeepNames = (old new : Named) (event : EventValue) → IsNamed old → Leads old event new → IsNamed new

-- Every state that recorded events lead to is a named one.
abbrev pub SessionsAreNamed : Type 0
SessionsAreNamed =
    (size : Sides) (options : Options) (events : List EventValue) (last : Named) → Recorded size options events last
    → IsNamed last

-- The book of recorded events lists the live names with their boxes, each once, in every state that they lead to.
abbrev pub BooksAreTrue : Type 0
BooksAreTrue =
    (size : Sides) (options : Options) (events : List EventValue) (last : Named) → Recorded size options events last
    → AreSameGrants (book events) (named_boxes last)
