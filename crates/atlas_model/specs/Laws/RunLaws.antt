-- What holds along each run of an atlas, and what a run leaves: laws over runs.
use Rattle.std.specs.Prelude.{◌≡◌, ℕ, ◌*◌, ◌<◌, ◌≤◌, true, List, [], ◌∷◌, ◌++◌, map, count_by, sum_by, All}
use Rattle.atlas_model.specs.Boxes.{Box, whole_box, area, covers, IsNonempty, IsWithin}
use Rattle.atlas_model.specs.Trees.{IsWellFormed, IsNormal}
use Rattle.atlas_model.specs.Changes.{release}
use Rattle.atlas_model.specs.States.{State, live_in, free_in, IsSound}
use Rattle.atlas_model.specs.Steps.{AtlasCall, AtlasReply, Step}
use Rattle.atlas_model.specs.Laws.StepLaws.{live_count, Does, GrantsAsDue, DeniesAsDue}
use Rattle.atlas_model.specs.Runs.{Run, Since, since_start, since, is_plain, IsAsWithout}

-- The live boxes and the free ones.
abbrev pub boxes_in : State → List Box
boxes_in s = map (λ g. g.box) (live_in s) ++ free_in s

-- Live and free boxes tile the atlas as leaves of one normal tree of cuts: each unit square lies in exactly one of
-- them, none is empty or passes the atlas, and their areas add up to its area. No id has two live boxes. Where nothing
-- is live, the one free box is the whole atlas.
pub record IsTiled (s : State) : Type 0 where
  pub tree : IsWellFormed s.size s.tree
  pub normal : IsNormal s.tree.members
  pub squares : (x y : ℕ) → x < s.size.width → y < s.size.height → count_by (covers x y) (boxes_in s) ≡ 1
  pub boxes : All (λ b. IsNonempty b × IsWithin s.size b) (boxes_in s)
  pub areas : sum_by area (boxes_in s) ≡ s.size.width * s.size.height
  pub ids : (id : ℕ) → live_count id s ≤ 1
  pub alone : live_in s ≡ [] → free_in s ≡ whole_box s.size ∷ []

-- The state is sound, and its boxes tile the atlas.
pub record IsInOrder (s : State) : Type 0 where
  pub sound : IsSound s
  pub tiled : IsTiled s

-- The reply is one that the step owes, with all that follows.
pub record IsOwed (old : State) (call : AtlasCall) (reply : AtlasReply) (new : State) : Type 0 where
  pub step : Step old call reply new
  pub does : Does old call reply new
  pub grants : GrantsAsDue old call reply
  pub denies : DeniesAsDue old call reply

-- Each state on the way is in order, and each reply is owed.
abbrev pub IsRunInOrder : State → List AtlasCall → List AtlasReply → State → Type 0
IsRunInOrder old [] [] new = IsInOrder old × (new ≡ old)
IsRunInOrder old (call ∷ calls) (reply ∷ replies) new =
    IsInOrder old × (mid : State) × IsOwed old call reply mid × IsRunInOrder mid calls replies new
IsRunInOrder old [] (reply ∷ replies) new = ⊥
IsRunInOrder old (call ∷ calls) [] new = ⊥

-- Every run from a sound state keeps the atlas in order, to its last state, and each of its replies is owed.
abbrev pub RunsKeepOrder : Type 0
RunsKeepOrder =
    (old new : State) (calls : List AtlasCall) (replies : List AtlasReply) → IsSound old → Run old calls replies new
    → IsRunInOrder old calls replies new × IsInOrder new

-- What a run leaves once what it granted and still holds is freed.
abbrev pub since_run : State → List AtlasCall → List AtlasReply → Since
since_run old calls replies = since (since_start old) calls replies

-- Freeing what the run granted and still holds leaves the tree that its growths and its freeings of older ids alone
-- make; only where the atlas has another size than before may both be one free leaf along different axes.
pub record LeavesNoTrace (old : State) (calls : List AtlasCall) (replies : List AtlasReply) (new : State) : Type 0 where
  pub size : (since_run old calls replies).size ≡ new.size
  pub tree :
      IsAsWithout old.size new.size (release (since_run old calls replies).held new.tree)
      (since_run old calls replies).tree

-- Every run of grants, freeings and growths leaves no trace.
abbrev pub RunsLeaveNoTrace : Type 0
RunsLeaveNoTrace =
    (old new : State) (calls : List AtlasCall) (replies : List AtlasReply) → IsSound old
    → All (λ c. is_plain c ≡ true) calls
    → Run old calls replies new → LeavesNoTrace old calls replies new
