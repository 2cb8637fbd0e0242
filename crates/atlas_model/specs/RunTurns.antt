-- How many turns a run may take, counted from its calls and its replies alone.
use Rattle.std.specs.Prelude.{ℕ, ◌+◌, ◌*◌, List, ◌∷◌, length}
use Rattle.atlas_model.specs.Steps.{AtlasCall, AtlasReply}
use Rattle.atlas_model.specs.Steps.AtlasCall.{Allocate, Deallocate, Grow}
use Rattle.atlas_model.specs.Steps.AtlasReply.{Allocated, Done, Changed}

-- What a call did, as its reply says. A call that was refused or bad, or had no room, did nothing.

abbrev pub grants_of : AtlasCall → AtlasReply → ℕ
grants_of (Allocate r) (Allocated g) = 1
grants_of _ _ = 0

abbrev pub freeings_of : AtlasCall → AtlasReply → ℕ
freeings_of (Deallocate id) Done = 1
freeings_of _ _ = 0

abbrev pub growths_of : AtlasCall → AtlasReply → ℕ
growths_of (Grow n) Done = 1
growths_of _ _ = 0

-- How many boxes a rearranging placed anew.
abbrev pub moves_of : AtlasCall → AtlasReply → ℕ
moves_of call (Changed list) = length list.changes
moves_of _ _ = 0

-- What the calls of a run and their replies count, added up.
abbrev pub in_all : (AtlasCall → AtlasReply → ℕ) → List AtlasCall → List AtlasReply → ℕ
in_all count (call ∷ calls) (reply ∷ replies) = count call reply + in_all count calls replies
in_all count _ _ = 0

-- A freeing takes one turn, and one for each member fewer. A grant adds at most four members, a growth at most three,
-- and a rearranging leaves at most four for each box that it placed, and one. A start leaves one member.
abbrev pub turns_within : List AtlasCall → List AtlasReply → ℕ
turns_within calls replies =
    in_all freeings_of calls replies + 4 * in_all grants_of calls replies + 3 * in_all growths_of calls replies
    + 4 * in_all moves_of calls replies
