-- What each call does to the boxes that callers hold.
use Rattle.std.proofs.Common.{arith, ◌≡◌, ℕ, ◌+◌, ◌==◌, true, false, not, List, length, refl, ap, subst, sym}
use Rattle.std.proofs.Common.{◌∙◌, IsSome, option_map}
use Rattle.std.proofs.lemmas.Bool.{false≢true, eqb-true}
use Rattle.std.specs.List.{filter, find}
use Rattle.atlas_model.specs.Boxes.{Sides, Fits}
use Rattle.atlas_model.specs.Callers.{KeepsLive, AddsBox, JoinsGuarded, LeavesNoBox, LeavesNoBoxes, KeepsAll}
use Rattle.atlas_model.specs.Laws.TreeLaws.{is_among}
use Rattle.atlas_model.specs.Replies.{live_box}
use Rattle.atlas_model.specs.States.{State, live_in, IsLive, IsSound, after_freeing}
use Rattle.atlas_model.specs.Steps.{AtlasReply, Step}
use Rattle.atlas_model.specs.Steps.AtlasCall.{Allocate, Deallocate, Grow}
use Rattle.atlas_model.specs.Steps.AtlasReply.{Allocated, NoRoom, Done, Refused, BadCall}
use Rattle.atlas_model.specs.Trees.{Grant}
use Rattle.atlas_model.specs.declared.error.AtlasError.TheVariants.{NotLive}
use Rattle.atlas_model.proofs.StepLemmas.StepEffects.{grants_lie_inside, freeings_remove_one, growths_keep_boxes, refusals_change_nothing}
use Rattle.atlas_model.proofs.StepLemmas.SoundSteps.{steps_keep, freeing_sound}
use Rattle.atlas_model.proofs.TreeLemmas.TreeLive.{live_release}
use Rattle.atlas_model.proofs.ListLemmas.CallerLemmas.{find-filter_gone, find-filter_kept}
use Rattle.atlas_model.proofs.StepLemmas.LiveBoxes.{is_for, live_have_boxes, unlive_box, granted_unused, granted_live, granted_here}
use Rattle.atlas_model.proofs.StepLemmas.LiveBoxes.{granted_others, granted_boxes, granted_count, freed_box, freed_others, freed_count}
use Rattle.atlas_model.proofs.StepLemmas.GuardedBoxes.{guarded_grant, guarded_freeing, guarded_growth}

-- An unchanged state keeps what is live.
same_keeps : (old new : State) → IsSound old → new ≡ old → KeepsLive old new
same_keeps old new sound same = subst (KeepsLive old) (sym same) (record { sound = sound; kept = λ id live. refl })

-- A freeing of a list leaves its ids without a box.
pub batch_leaves : (old new : State) (ids : List ℕ) → IsSound old → new ≡ after_freeing old (is_among ids)
    → LeavesNoBoxes old new ids
batch_leaves old new ids sound is = record {
  sound = subst IsSound (sym is) (freeing_sound old (is_among ids) sound);
  gone = λ id among.
      shown id
      ∙ ap (option_map (λ (g : Grant). g.box)) (find-filter_gone (is_for id) (λ g. not (is_among ids g.id)) (hits id among) (live_in old));
  others = λ id apart.
      shown id
      ∙ ap (option_map (λ (g : Grant). g.box)) (find-filter_kept (is_for id) (λ g. not (is_among ids g.id)) (misses id apart)
      (live_in old));
}
  where
    shown : (id : ℕ)
        → live_box new id ≡ option_map (λ (g : Grant). g.box) (find (is_for id) (filter (λ g. not (is_among ids g.id)) (live_in old)))
    shown id = grind (arith, is_for, live_release)

    hits : (id : ℕ) → is_among ids id ≡ true → (g : Grant) → (g.id == id) ≡ true → not (is_among ids g.id) ≡ false
    hits id among g is = ap not (ap (is_among ids) (eqb-true g.id id is) ∙ among)

    misses : (id : ℕ) → is_among ids id ≡ false → (g : Grant) → (g.id == id) ≡ true → not (is_among ids g.id) ≡ true
    misses id apart g is = ap not (ap (is_among ids) (eqb-true g.id id is) ∙ apart)

-- An id that isn't live has no box, and stays so.
pub unlive_leaves : (old new : State) (id : ℕ) → IsSound old → (IsLive old id → ⊥) → new ≡ old → LeavesNoBox old new id
unlive_leaves old new id sound dead same =
    subst (λ s. LeavesNoBox old s id) (sym same) (record {
      sound = sound;
      gone = unlive_box old id dead;
      others = λ k apart. refl;
      guarded = λ box held is guarded. absurd (cc (unlive_box old id dead));
    })

-- An unchanged state keeps all.
all_kept : (old new : State) → IsSound old → new ≡ old → KeepsAll old new
all_kept old new sound same =
    subst (KeepsAll old) (sym same) (record { sound = sound; live = refl; guarded = λ held guarded. guarded })

module _ (old new : State) (sound : IsSound old) where
  module _ (r : Sides) (g : Grant) (step : Step old (Allocate r) (Allocated g) new) where
    sound_new : IsSound new
    sound_new = steps_keep old new (Allocate r) (Allocated g) sound step

    pub grant_adds : AddsBox old new g.id g.box
    grant_adds =
        let its = grants_lie_inside old new r g sound step in
        record {
          unused = granted_unused old new r g sound_new its;
          live = granted_live old new r g sound_new its;
          here = granted_here old new r g sound_new its;
          boxes = granted_boxes old new r g sound_new its;
          count = granted_count old new r g sound_new its;
        }

    pub grant_guarded : JoinsGuarded old new g.box
    grant_guarded held guarded =
        guarded_grant old new sound sound_new (ap (λ s. s.size) step.1.state) r g (grants_lie_inside old new r g sound step) held guarded

    grant_keeps : KeepsLive old new
    grant_keeps = record {
      sound = sound_new;
      kept = λ id live. granted_others old new r g sound_new (grants_lie_inside old new r g sound step) id
          (λ same. absurd (dead id same live));
    }
      where
        dead : (id : ℕ) → id ≡ g.id → IsLive old id → ⊥
        dead id same live =
            let some : IsSome (live_box old g.id) = (live_have_boxes old g.id).0 (subst (IsLive old) same live) in
            false≢true (subst (λ o. IsSome o) grant_adds.unused some)

  -- A request keeps what is live, whatever is answered.
  pub request_keeps : (r : Sides) (reply : AtlasReply) → Step old (Allocate r) reply new → KeepsLive old new
  request_keeps r (Allocated g) step = grant_keeps r g step
  request_keeps r NoRoom step = same_keeps old new sound step.1
  request_keeps r (Refused error) step = same_keeps old new sound (refusals_change_nothing old new (Allocate r) (Refused error) step refl)
  request_keeps r reply step = absurd step

  -- After a freeing, refused or not, an id has no box.
  pub freeing_leaves : (id : ℕ) (reply : AtlasReply) → Step old (Deallocate id) reply new → LeavesNoBox old new id
  freeing_leaves id Done step =
      let its = freeings_remove_one old new id sound step in
      let sound_new = steps_keep old new (Deallocate id) Done sound step in
      record {
        sound = sound_new;
        gone = freed_box old new id its;
        others = freed_others old new id its;
        guarded = λ box held is guarded. guarded_freeing old new sound sound_new (ap (λ s. s.size) step.1) id box its is held guarded;
      }
  freeing_leaves id (Refused NotLive) step = unlive_leaves old new id sound step.0 step.1
  freeing_leaves id reply step = absurd step

  pub freeing_count : (id : ℕ) → Step old (Deallocate id) Done new → length (live_in new) + 1 ≡ length (live_in old)
  freeing_count id step = freed_count old new id (freeings_remove_one old new id sound step)

  -- A growth, refused or not, keeps all.
  pub growth_keeps : (n : Sides) (reply : AtlasReply) → Step old (Grow n) reply new → KeepsAll old new
  growth_keeps n Done step =
      let its = growths_keep_boxes old new n sound step in
      let sound_new = steps_keep old new (Grow n) Done sound step in
      record {
        sound = sound_new;
        live = its.live;
        guarded = λ held guarded. guarded_growth old new sound sound_new (subst (λ s. Fits old.size s.size) (sym step.2) step.0) its held
            guarded;
      }
  growth_keeps n (Refused error) step = all_kept old new sound (refusals_change_nothing old new (Grow n) (Refused error) step refl)
  growth_keeps n BadCall step = all_kept old new sound step.1
  growth_keeps n reply step = absurd step
