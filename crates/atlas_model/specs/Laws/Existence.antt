-- Laws that the definitions are met: each call has a step, each proper start is sound, and rounding is least.
use Rattle.std.specs.Prelude.{◌≡◌, ℕ, ◌<◌, ◌≤◌, ◌%◌, false}
use Rattle.atlas_model.specs.Boxes.{Sides, IsPositive}
use Rattle.atlas_model.specs.Choice.{Options, AreValid, up}
use Rattle.atlas_model.specs.Trees.{most_slots}
use Rattle.atlas_model.specs.States.{State, IsSound, started}
use Rattle.atlas_model.specs.Steps.{AtlasCall, AtlasReply, Step}
use Rattle.atlas_model.specs.Renaming.{is_out_of_memory}

-- The rounded side is at least the side and a multiple of the step, and no such multiple is smaller.
pub record RoundingIsLeast : Type 0 where
  pub enough : (n step : ℕ) → 0 < step → n ≤ up n step
  pub multiple : (n step : ℕ) → 0 < step → up n step % step ≡ 0
  pub least : (n step m : ℕ) → 0 < step → m % step ≡ 0 → n ≤ m → up n step ≤ m

-- An atlas of a positive size, with valid options and a limit of at least 1, starts in a sound state.
abbrev pub StartsAreSound : Type 0
StartsAreSound =
    (size : Sides) (o : Options) (limit : ℕ) → IsPositive size → AreValid o → 1 ≤ limit → IsSound (started size o limit)

-- From each sound state, with a limit that ids can number, each call has a reply other than a refusal for memory, and a
-- state that it leads to.
abbrev pub StepsExist : Type 0
StepsExist =
    (s : State) (call : AtlasCall) → IsSound s → s.limit ≤ most_slots
    → (reply : AtlasReply) × (new : State) × (is_out_of_memory reply ≡ false) × Step s call reply new
