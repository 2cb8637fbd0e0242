-- Runs of the simple allocator, the boxes that are held along them, and their laws.
use Rattle.std.specs.Prelude.{◌≡◌, Bool, true, false, ◌||◌, List, [], ◌∷◌, ◌++◌}
use Rattle.atlas_model.specs.Boxes.{Sides, Box, IsPositive, AreDisjoint}
use Rattle.atlas_model.specs.Choice.{Options, AreValid}
use Rattle.atlas_model.specs.States.{State}
use Rattle.atlas_model.specs.Simple.{SimpleState, SimpleAtlasCall, SimpleAnswer, SimpleStep}
use Rattle.atlas_model.specs.Simple.{IsSimple, IsGuarded, live_boxes, simple_start}
use Rattle.atlas_model.specs.Simple.SimpleAtlasCall.{Allocate, Clear, Reset, Start}
use Rattle.atlas_model.specs.Simple.SimpleAnswer.{Granted, Done}

-- As many answers as calls, and a step from each state to the next.
abbrev pub SimpleRun : SimpleState → List SimpleAtlasCall → List SimpleAnswer → SimpleState → Type 0
SimpleRun old [] [] new = new ≡ old
SimpleRun old (call ∷ calls) (answer ∷ answers) new =
    (mid : SimpleState) × SimpleStep old call answer mid × SimpleRun mid calls answers new
SimpleRun old [] (answer ∷ answers) new = ⊥
SimpleRun old (call ∷ calls) [] new = ⊥

-- A granted box is held from then on. A clearing and a reset let go of every box, and a start from an atlas holds
-- what is live there.
abbrev pub held_after : List Box → SimpleAtlasCall → SimpleAnswer → List Box
held_after held (Allocate r) (Granted box) = held ++ box ∷ []
held_after held Clear Done = []
held_after held (Reset n o) Done = []
held_after held (Start source) Done = live_boxes source
held_after held call answer = held

-- The boxes that are held at the end of a run.
abbrev pub held_along : List Box → List SimpleAtlasCall → List SimpleAnswer → List Box
held_along held (call ∷ calls) (answer ∷ answers) = held_along (held_after held call answer) calls answers
held_along held _ _ = held

-- The granted boxes, in order.
abbrev pub granted_boxes : List SimpleAnswer → List Box
granted_boxes [] = []
granted_boxes (Granted box ∷ answers) = box ∷ granted_boxes answers
granted_boxes (_ ∷ answers) = granted_boxes answers

-- Whether the allocator began anew; a call that was refused or was a bad one changed nothing.
abbrev pub is_start : SimpleAtlasCall → SimpleAnswer → Bool
is_start Clear Done = true
is_start (Reset n o) Done = true
is_start (Start source) Done = true
is_start call answer = false

abbrev pub has_start : List SimpleAtlasCall → List SimpleAnswer → Bool
has_start (call ∷ calls) (answer ∷ answers) = is_start call answer || has_start calls answers
has_start _ _ = false

-- What a run keeps: each state is that of a simple allocator, and boxes held before it are guarded after it, with
-- those granted since; after a start, those that the atlas then held live, with those granted since.
pub record KeepsGuard (old : SimpleState) (calls : List SimpleAtlasCall) (answers : List SimpleAnswer)
    (new : SimpleState) : Type 0 where
  pub simple : IsSimple new
  pub held : (held : List Box) → IsGuarded old held → IsGuarded new (held_along held calls answers)
  -- Without a start, these are the boxes of before and the granted ones.
  pub granted :
      (held : List Box) → has_start calls answers ≡ false → IsGuarded old held
      → IsGuarded new (held ++ granted_boxes answers)

abbrev pub SimpleRunsKeepGuard : Type 0
SimpleRunsKeepGuard =
    (old new : SimpleState) (calls : List SimpleAtlasCall) (answers : List SimpleAnswer) → IsSimple old
    → SimpleRun old calls answers new → KeepsGuard old calls answers new

-- Where each list of held boxes begins: nothing is held after a creation, a clearing and a reset, and after a start
-- what is live in the source.
pub record SimpleStartsGuard : Type 0 where
  pub created : (size : Sides) (o : Options) → IsPositive size → AreValid o → IsGuarded (simple_start size o) []
  pub cleared : (old new : SimpleState) → IsSimple old → SimpleStep old Clear Done new → IsGuarded new []
  pub reset : (old new : SimpleState) (n : Sides) (o : Options) → SimpleStep old (Reset n o) Done new → IsGuarded new []
  pub started :
      (old new : SimpleState) (source : State) → SimpleStep old (Start source) Done new
      → IsGuarded new (live_boxes source)

-- Boxes that are guarded are disjoint from each other.
abbrev pub GuardedAreDisjoint : Type 0
GuardedAreDisjoint = (s : SimpleState) (held : List Box) → IsGuarded s held → AreDisjoint held
