-- The ways in which a step may come out.
use Rattle.std.proofs.Common.{◌≡◌, ℕ, ◌≤◌, true, false, refl}
use Rattle.atlas_model.specs.Boxes.{Sides, Box, Fits, IsPositive}
use Rattle.atlas_model.specs.Changes.{only}
use Rattle.atlas_model.specs.Choice.{Options, AreValid}
use Rattle.atlas_model.specs.Laws.StepLaws.{is_refusal}
use Rattle.atlas_model.specs.Refits.{Rearrangement}
use Rattle.atlas_model.specs.Runs.{is_plain}
use Rattle.atlas_model.specs.States.{State, IsLive, started, after_freeing, after_growth}
use Rattle.atlas_model.specs.Steps.{AtlasCall, AtlasReply, Step, Grants, Rearranges, nodes_grown}
use Rattle.atlas_model.specs.Steps.AtlasCall.{Allocate, Deallocate, Grow, Clear, Reset, Rearrange, ResizeAndRearrange}
use Rattle.atlas_model.specs.Steps.AtlasReply.{Allocated, NoRoom, Done, Changed, Refused, BadCall}
use Rattle.atlas_model.specs.Trees.{Grant}
use Rattle.atlas_model.specs.declared.error.AtlasError.TheVariants.{Memory, Slots, NotLive}

-- What holds where nothing changes, and at each call that changes something, holds of each step.
module _ (old new : State) (P : AtlasCall → AtlasReply → Type 0)
    (unchanged : (call : AtlasCall) (reply : AtlasReply) → is_refusal reply ≡ true → new ≡ old → P call reply)
    (granting : (r : Sides) (f : Box) (g : Grant) → Grants old r f g new → P (Allocate r) (Allocated g))
    (freeing : (id : ℕ) → IsLive old id → new ≡ after_freeing old (only id) → P (Deallocate id) Done)
    (growing : (n : Sides) → Fits old.size n → nodes_grown old n ≤ old.limit → new ≡ after_growth old n → P (Grow n) Done)
    (clearing : new ≡ started old.size old.options old.limit → P Clear Done)
    (resetting : (n : Sides) (o : Options) → IsPositive n → AreValid o → new ≡ started n o old.limit → P (Reset n o) Done)
    (moving : (call : AtlasCall) (n : Sides) (list : Rearrangement) → is_plain call ≡ false
    → Rearranges old n (Changed list) new → P call (Changed list))
  where
    moves : (call : AtlasCall) (n : Sides) (reply : AtlasReply) → is_plain call ≡ false → Rearranges old n reply new
        → P call reply
    moves call n BadCall rare h = unchanged call BadCall refl h.1
    moves call n (Changed list) rare h = moving call n list rare h
    moves call n (Refused Slots) rare h = unchanged call (Refused Slots) refl h.4
    moves call n (Refused Memory) rare h = unchanged call (Refused Memory) refl h.1
    moves call n reply rare h = absurd h

    pub by_outcome : (call : AtlasCall) (reply : AtlasReply) → Step old call reply new → P call reply
    by_outcome (Allocate r) NoRoom h = unchanged (Allocate r) NoRoom refl h.1
    by_outcome (Allocate r) (Allocated g) h = granting r h.0 g h.1
    by_outcome (Allocate r) (Refused Slots) h = unchanged (Allocate r) (Refused Slots) refl h.3
    by_outcome (Allocate r) (Refused Memory) h = unchanged (Allocate r) (Refused Memory) refl h.4
    by_outcome (Deallocate id) Done h = freeing id h.0 h.1
    by_outcome (Deallocate id) (Refused NotLive) h = unchanged (Deallocate id) (Refused NotLive) refl h.1
    by_outcome (Grow n) BadCall h = unchanged (Grow n) BadCall refl h.1
    by_outcome (Grow n) Done h = growing n h.0 h.1 h.2
    by_outcome (Grow n) (Refused Slots) h = unchanged (Grow n) (Refused Slots) refl h.2
    by_outcome (Grow n) (Refused Memory) h = unchanged (Grow n) (Refused Memory) refl h.3
    by_outcome Clear Done h = clearing h
    by_outcome (Reset n o) BadCall h = unchanged (Reset n o) BadCall refl h.1
    by_outcome (Reset n o) Done h = resetting n o h.0 h.1 h.2
    by_outcome Rearrange reply h = moves Rearrange old.size reply refl h
    by_outcome (ResizeAndRearrange n) reply h = moves (ResizeAndRearrange n) n reply refl h
    by_outcome call reply h = absurd h
