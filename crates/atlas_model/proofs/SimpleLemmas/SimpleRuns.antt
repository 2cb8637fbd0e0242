-- Each run of the simple allocator keeps what is held guarded.
use Rattle.std.proofs.Common.{◌≡◌, ◌≤◌, arith, false, List, [], ◌∷◌, ◌++◌, append_assoc, refl, sym, subst}
use Rattle.std.proofs.lemmas.Bool.{or_parts, false≢true}
use Rattle.std.specs.List.{count_by}
use Rattle.std.proofs.lemmas.List.{append-nil}
use Rattle.std.proofs.lemmas.List.Sums.{sum_by-append}
use Rattle.atlas_model.specs.declared.error.AtlasError.TheVariants.{Memory}
use Rattle.atlas_model.specs.Boxes.{Box, covers}
use Rattle.atlas_model.specs.Simple.SimpleAtlasCall.{Allocate, Grow, Clear, Reset, Start}
use Rattle.atlas_model.specs.Simple.SimpleAnswer.{Granted, NoRoom, Done, Refused, BadCall}
use Rattle.atlas_model.specs.Simple.{SimpleState, IsSimple, IsGuarded, SimpleAtlasCall, SimpleAnswer, SimpleStep}
use Rattle.atlas_model.specs.Simple.SimpleRuns.{SimpleRun, held_after, held_along, granted_boxes, is_start, has_start, SimpleRunsKeepGuard}
use Rattle.atlas_model.specs.Simple.SimpleRuns.{SimpleStartsGuard, GuardedAreDisjoint}
use Rattle.atlas_model.proofs.SimpleLemmas.SimpleGrants.{one_if, start-simple}
use Rattle.atlas_model.proofs.SimpleLemmas.SimpleSteps.{step-simple, step-held, starts-guarded, none-guarded}

-- Along a run.

simple-along : (calls : List SimpleAtlasCall) (answers : List SimpleAnswer) (old new : SimpleState) → IsSimple old
    → SimpleRun old calls answers new → IsSimple new
simple-along [] [] old new simple run = subst IsSimple (sym run) simple
simple-along [] (answer ∷ answers) old new simple run = absurd run
simple-along (call ∷ calls) [] old new simple run = absurd run
simple-along (call ∷ calls) (answer ∷ answers) old new simple (mid, step, run) =
    simple-along calls answers mid new (step-simple old mid call answer simple step) run

held-along : (calls : List SimpleAtlasCall) (answers : List SimpleAnswer) (old new : SimpleState) (held : List Box)
    → IsSimple old → SimpleRun old calls answers new
    → IsGuarded old held → IsGuarded new (held_along held calls answers)
held-along [] [] old new held simple run guarded = subst (λ s. IsGuarded s held) (sym run) guarded
held-along [] (answer ∷ answers) old new held simple run guarded = absurd run
held-along (call ∷ calls) [] old new held simple run guarded = absurd run
held-along (call ∷ calls) (answer ∷ answers) old new held simple (mid, step, run) guarded =
    held-along calls answers mid new (held_after held call answer) (step-simple old mid call answer simple step) run
    (step-held old mid call answer held simple step guarded)

-- What is held without a start.

held-step : (old new : SimpleState) (call : SimpleAtlasCall) (answer : SimpleAnswer) (answers : List SimpleAnswer)
    (held : List Box)
    → SimpleStep old call answer new
    → is_start call answer ≡ false
    → held_after held call answer ++ granted_boxes answers ≡ held ++ granted_boxes (answer ∷ answers)
held-step old new (Allocate r) (Granted box) answers held step plain = append_assoc held (box ∷ []) (granted_boxes answers)
held-step old new (Allocate r) NoRoom answers held step plain = refl
held-step old new (Allocate r) (Refused Memory) answers held step plain = refl
held-step old new (Grow n) Done answers held step plain = refl
held-step old new (Grow n) BadCall answers held step plain = refl
held-step old new (Grow n) (Refused Memory) answers held step plain = refl
held-step old new Clear Done answers held step plain = absurd (false≢true (sym plain))
held-step old new (Reset n o) Done answers held step plain = absurd (false≢true (sym plain))
held-step old new (Reset n o) BadCall answers held step plain = refl
held-step old new (Start source) Done answers held step plain = absurd (false≢true (sym plain))
held-step old new (Start source) (Refused Memory) answers held step plain = refl
held-step old new call answer answers held step plain = absurd step

granted-along : (calls : List SimpleAtlasCall) (answers : List SimpleAnswer) (old new : SimpleState) (held : List Box)
    → SimpleRun old calls answers new
    → has_start calls answers ≡ false → held_along held calls answers ≡ held ++ granted_boxes answers
granted-along [] [] old new held run plain = sym (append-nil held)
granted-along [] (answer ∷ answers) old new held run plain = absurd run
granted-along (call ∷ calls) [] old new held run plain = absurd run
granted-along (call ∷ calls) (answer ∷ answers) old new held (mid, step, run) plain =
    grind (arith, or_parts, granted-along calls answers mid new (held_after held call answer) run, held-step)

pub simple_runs_keep_guard : SimpleRunsKeepGuard
simple_runs_keep_guard old new calls answers simple run = record {
  simple = simple-along calls answers old new simple run;
  held = λ held guarded. held-along calls answers old new held simple run guarded;
  granted = λ held plain guarded.
      subst (IsGuarded new) (granted-along calls answers old new held run plain) (held-along calls answers old new held simple run guarded);
}

pub simple_starts_guard : SimpleStartsGuard
simple_starts_guard = record {
  created = λ size o positive valid. none-guarded _ (start-simple size o positive valid);
  cleared = λ old new simple step. none-guarded new (step-simple old new Clear Done simple step);
  reset = λ old new n o step. none-guarded new (subst IsSimple (sym step.2) (start-simple n o step.0 step.1));
  started = λ old new source step. starts-guarded source new step;
}

pub guarded_are_disjoint : GuardedAreDisjoint
guarded_are_disjoint s held guarded x y =
    let more : count_by (covers x y) held ≤ count_by (covers x y) (held ++ s.free) =
    omega (arith, sum_by-append (λ (b : Box). one_if (covers x y b)) held s.free) in
    omega (arith, more, guarded.disjoint x y)
