-- Laws of the room that freeings would make: which ids a free box needs, and what each freeing adds.
use Rattle.std.specs.Prelude.{◌≡◌, ℕ, Bool, true, false, Some, All, Contains, ◌⊎◌}
use Rattle.atlas_model.specs.Boxes.{Sides, Box, box_sides, Fits, IsPositive, IsNonempty, IsInside}
use Rattle.atlas_model.specs.Trees.{Tree, grant, live, free_boxes, IsWellFormed}
use Rattle.atlas_model.specs.Changes.{and_id, only, release}
use Rattle.atlas_model.specs.Choice.{Options, rounded, HasRoom, HasNoRoom}
use Rattle.atlas_model.specs.States.{State, live_in, free_in, after_freeing, IsSound}
use Rattle.atlas_model.specs.Replies.{live_box}

-- A part of a set of ids that has all those whose boxes lie inside f.
pub record HasThoseInside (size : Sides) (t : Tree) (set part : ℕ → Bool) (f : Box) : Type 0 where
  pub of_set : (id : ℕ) → part id ≡ true → set id ≡ true
  pub inside : All (λ g. set g.id ≡ true → IsInside g.box f → part g.id ≡ true) (live size t)

-- A box that is free once a set is freed is free once those of the set are freed whose boxes lie inside it.
abbrev pub RoomComesFromInside : Type 0
RoomComesFromInside =
    (size : Sides) (t : Tree) (set part : ℕ → Bool) (f : Box) → IsWellFormed size t
    → HasThoseInside size t set part f → Contains (free_boxes size (release set t)) f
    → Contains (free_boxes size (release part t)) f

-- Where one id more is freed, each free box was free without it, or has a live box of that id inside.
abbrev pub FreeingMakesOneBox : Type 0
FreeingMakesOneBox =
    (size : Sides) (t : Tree) (set : ℕ → Bool) (id : ℕ) (g : Box) → IsWellFormed size t
    → Contains (free_boxes size (release (and_id set id) t)) g
    → Contains (free_boxes size (release set t)) g ⊎ ((b : Box) × Contains (live size t) (grant id b) × IsInside b g)

-- Free boxes that hold one nonempty box are one.
abbrev pub OneFreeBoxAround : Type 0
OneFreeBoxAround =
    (size : Sides) (t : Tree) (b f g : Box) → IsWellFormed size t → IsNonempty b → Contains (free_boxes size t) f
    → Contains (free_boxes size t) g → IsInside b f → IsInside b g → f ≡ g

-- Where a request has no room once a set is freed, nor fits the free box that is then around the box of one id more, it
-- has none with that id freed too.
abbrev pub RoomIsAround : Type 0
RoomIsAround =
    (s : State) (set : ℕ → Bool) (id : ℕ) (b f : Box) (r : Sides) → IsSound s → live_box s id ≡ Some b
    → Contains (free_in (after_freeing s (and_id set id))) f → IsInside b f
    → HasNoRoom (free_in (after_freeing s set)) s.options r → (Fits (rounded s.options r) (box_sides f) → ⊥)
    → HasNoRoom (free_in (after_freeing s (and_id set id))) s.options r

-- A positive request that fits a box that is free once a set is freed has room once those of the set are freed whose
-- boxes lie inside it.
abbrev pub RoomIsKept : Type 0
RoomIsKept =
    (s : State) (set part : ℕ → Bool) (f : Box) (r : Sides) → IsSound s → HasThoseInside s.size s.tree set part f
    → Contains (free_in (after_freeing s set)) f → IsPositive r → Fits (rounded s.options r) (box_sides f)
    → HasRoom (free_in (after_freeing s part)) s.options r

-- Freeing no id leaves the free boxes as they are.
abbrev pub NothingShownChangesNothing : Type 0
NothingShownChangesNothing = (s : State) → IsSound s → free_in (after_freeing s (λ k. false)) ≡ free_in s

-- What is free and what is live once an id is freed after a set is what is once both are freed at once.
pub record FreedTwice : Type 0 where
  pub free : (s : State) (set : ℕ → Bool) (id : ℕ)
      → free_in (after_freeing (after_freeing s set) (only id)) ≡ free_in (after_freeing s (and_id set id))
  pub live : (s : State) (set : ℕ → Bool) (id : ℕ)
      → live_in (after_freeing (after_freeing s set) (only id)) ≡ live_in (after_freeing s (and_id set id))

-- What has room once a part of a set is freed has room once the set is.
abbrev pub RoomGrows : Type 0
RoomGrows =
    (s : State) (set part : ℕ → Bool) (o : Options) (r : Sides) → IsSound s
    → ((id : ℕ) → part id ≡ true → set id ≡ true) → HasRoom (free_in (after_freeing s part)) o r
    → HasRoom (free_in (after_freeing s set)) o r
