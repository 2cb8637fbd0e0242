-- Runs: lists of calls with their replies, and what a run leaves once what was granted in it is freed.
use Rattle.std.specs.Prelude.{◌≡◌, ℕ, ◌==◌, ◌⊎◌, Bool, true, false, ◌&&◌, not, if◌then◌else◌, List, [], ◌∷◌}
use Rattle.atlas_model.specs.Boxes.{Sides}
use Rattle.atlas_model.specs.Trees.{Tree, IsOneFree}
use Rattle.atlas_model.specs.Changes.{only, and_id, release, grown}
use Rattle.atlas_model.specs.States.{State}
use Rattle.atlas_model.specs.Steps.{AtlasCall, AtlasReply, Step}
use Rattle.atlas_model.specs.Steps.AtlasCall.{Allocate, Deallocate, Grow}
use Rattle.atlas_model.specs.Steps.AtlasReply.{Allocated, Done}

-- As many replies as calls, and a step from each state to the next.
abbrev pub Run : State → List AtlasCall → List AtlasReply → State → Type 0
Run old [] [] new = new ≡ old
Run old (call ∷ calls) (reply ∷ replies) new = (mid : State) × Step old call reply mid × Run mid calls replies new
Run old [] (reply ∷ replies) new = ⊥
Run old (call ∷ calls) [] new = ⊥

-- A set without an id.
abbrev pub but_id : (ℕ → Bool) → ℕ → ℕ → Bool
but_id s id k = s k && not (k == id)

-- The ids that a run granted and still holds, and the tree that its growths and its freeings of older ids alone make.
pub record Since : Type 0 where
  pub held : ℕ → Bool
  pub size : Sides
  pub tree : Tree

abbrev pub since_start : State → Since
since_start s = record { held = λ id. false; size = s.size; tree = s.tree }

-- A granted id is held; a freed id is held no more or, if it was older, is freed in the tree; a growth grows the tree.
abbrev pub since_call : Since → AtlasCall → AtlasReply → Since
since_call s (Allocate r) (Allocated g) = record s { held = and_id s.held g.id }
since_call s (Deallocate id) Done =
    if s.held id then record s { held = but_id s.held id } else record s { tree = release (only id) s.tree }
since_call s (Grow n) Done = record s { size = n; tree = grown s.size n s.tree }
since_call s _ _ = s

abbrev pub since : Since → List AtlasCall → List AtlasReply → Since
since s (call ∷ calls) (reply ∷ replies) = since (since_call s call reply) calls replies
since s _ _ = s

-- Only grants, freeings and growths are asked for.
abbrev pub is_plain : AtlasCall → Bool
is_plain (Allocate r) = true
is_plain (Deallocate id) = true
is_plain (Grow n) = true
is_plain _ = false

-- The trees are one; or, only where the size has changed, both are one free leaf as large as the atlas.
abbrev pub IsAsWithout : (before now : Sides) → Tree → Tree → Type 0
IsAsWithout before now t u = (t ≡ u) ⊎ ((now ≡ before → ⊥) × IsOneFree now t × IsOneFree now u)
