-- Rehearsals of freeings: what marks on the slots of an atlas show. Public clauses cite `AreShown` alone.
use Rattle.std.specs.Prelude.{ℕ, ◌≡◌, Bool, List, length}
use Rattle.atlas_store.specs.Slots.{nodes}
use Rattle.atlas_store.specs.Slots.Reading.{numbered_of}
use Rattle.atlas_store.specs.Slots.Rehearsing.{is_open, Shows}
use Rattle.atlas_store.specs.Stored.{AtlasValue, state_of}

-- The marks, one for each slot, show the ids of a set as freed: of the allocated slots just theirs are marked, and a container is exactly
-- if each slot in it is free or marked.
pub record AreShown (v : AtlasValue) (marks : List Bool) (set : ℕ → Bool) : Type 0 where
  pub each : length marks ≡ (state_of v).kept
  pub shown : Shows (is_open (nodes v.stored.shelf.slots) marks) set (numbered_of (nodes v.stored.shelf.slots))
