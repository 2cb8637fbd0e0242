-- Which refusals come from where.
use Rattle.std.proofs.Common.{◌≡◌, ℕ, ◌<◌, ◌≤◌, ◌^◌, ◌⊎◌, inl, inr, arith, Result, Ok, Err, sym, subst, ◌∙◌}
use Rattle.std.proofs.lemmas.Bool.{cases_order}
use Rattle.std.specs.Result.{IsErrAnd}
use Rattle.guillotiere.specs.declared.AtlasError.{AtlasError}
use Rattle.guillotiere.specs.declared.AtlasError.TheVariants.{Memory, Slots, NotLive}
use Rattle.guillotiere.specs.States.{State, IsLive}
use Rattle.guillotiere.specs.Steps as atlas
use Rattle.guillotiere.specs.Steps.{AtlasCall, Step}
use Rattle.guillotiere_recording.specs.declared.error.RecordingError.{RecordingError}
use Rattle.guillotiere_recording.specs.declared.error.RecordingError.TheVariants as refusal
use Rattle.guillotiere_recording.specs.Errors.{recording_error}

-- A freeing of a live id is not refused.
pub freeing_succeeds : (s t : State) (id : ℕ) (e : AtlasError) → Step s (atlas.Deallocate id) (atlas.Refused e) t
    → IsLive s id → ⊥
freeing_succeeds s t id Memory step live = step
freeing_succeeds s t id Slots step live = step
freeing_succeeds s t id NotLive step live = step.0 live

slots_only : (e : AtlasError) → recording_error e ≡ refusal.Slots → e ≡ Slots
slots_only Memory h = cc
slots_only Slots h = cc
slots_only NotLive h = cc

-- `Slots` is the atlas's.
pub slots_step : {X : Type 0} (r : Result X RecordingError) (e : AtlasError) (s t : State) (call : AtlasCall)
    → IsErrAnd r (λ k. k ≡ recording_error e) → Step s call (atlas.Refused e) t → t ≡ s → r ≡ Err refusal.Slots
    → Step s call (atlas.Refused Slots) s
slots_step (Ok x) e s t call from step same is = cc
slots_step (Err k) e s t call from step same is =
    let slots : k ≡ refusal.Slots = cc in
    let its : e ≡ Slots = slots_only e (sym from ∙ slots) in
    subst (λ u. Step s call (atlas.Refused Slots) u) same (subst (λ x. Step s call (atlas.Refused x) t) its step)

-- Want of memory is no other refusal.
pub memory_only : {X : Type 0} (r : Result X RecordingError) (e : RecordingError) → e ≡ refusal.Memory
    → IsErrAnd r (λ k. k ≡ e)
    → r ≡ Err refusal.NotLive → ⊥
memory_only (Ok x) e memory from is = cc
memory_only (Err k) e memory from is = cc

-- Names are left where not all were given.
pub names_left : (n : ℕ) → n ≤ 2 ^ 32 → (n ≡ 4294967296 → ⊥) → n < 2 ^ 32
names_left n most other = by_order (cases_order n 4294967296)
  where
    by_order : (n ≡ 4294967296) ⊎ ((n < 4294967296) ⊎ (4294967296 < n)) → n < 2 ^ 32
    by_order (inl same) = absurd (other same)
    by_order (inr (inl less)) = omega arith
    by_order (inr (inr more)) = absurd (omega arith)
