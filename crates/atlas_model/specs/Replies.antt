-- What the atlas's calls answer, as the model sees it.
use Rattle.std.specs.Prelude.{◌≡◌, ◌==◌, ◌<◌, ℕ, List, [], ◌∷◌, All, count_by, find, Bool, Option, Some, None}
use Rattle.std.specs.Prelude.{option_map, Result, Ok, Err}
use Rattle.atlas_model.specs.declared.allocation.Allocation.{Allocation}
use Rattle.atlas_model.specs.declared.geometry.Rectangle.{Rectangle}
use Rattle.atlas_model.specs.declared.error.AtlasError.{AtlasError}
use Rattle.atlas_model.specs.Boxes.{Box}
use Rattle.atlas_model.specs.Pixels.{box_of, rectangle_of}
use Rattle.atlas_model.specs.Trees.{Grant, grant, slot_of}
use Rattle.atlas_model.specs.States.{State, live_in}
use Rattle.atlas_model.specs.Steps.{AtlasReply}
use Rattle.atlas_model.specs.Steps.AtlasReply.{Allocated, NoRoom, Done, Refused}

abbrev pub grant_of : Allocation → Grant
grant_of a = grant a.id (box_of a.rectangle)

-- The rectangle has the coordinates of a box.
abbrev pub IsExact : Rectangle → Type 0
IsExact rectangle = rectangle ≡ rectangle_of (box_of rectangle)

abbrev pub allocate_reply : Result (Option Allocation) AtlasError → AtlasReply
allocate_reply (Ok (Some a)) = Allocated (grant_of a)
allocate_reply (Ok None) = NoRoom
allocate_reply (Err error) = Refused error

-- Of a call that gives nothing back.
abbrev pub done_reply : Result (Unit {0}) AtlasError → AtlasReply
done_reply (Ok _) = Done
done_reply (Err error) = Refused error

-- The box of a live id.
abbrev pub live_box : State → ℕ → Option Box
live_box s id = option_map (λ g. g.box) (find (λ g. g.id == id) (live_in s))

-- Each slot number, the low 24 bits of an id, is below all that come after it.
abbrev pub AreRising : List Grant → Type 0
AreRising [] = Unit {0}
AreRising (g ∷ gs) = All (λ h. slot_of g.id < slot_of h.id) gs × AreRising gs

-- The live grants by rising slot.
pub record IsLiveList (s : State) (gs : List Grant) : Type 0 where
  pub live : (p : Grant → Bool) → count_by p gs ≡ count_by p (live_in s)
  pub rising : AreRising gs
