-- The boxes of live ids, and what grants, freeings and growths make of them.
use Rattle.std.proofs.Common.{◌≡◌, ℕ, ◌+◌, ◌≤◌, ◌==◌, Bool, true, false, not, cond, [], ◌∷◌, ◌++◌, length, refl, ap}
use Rattle.std.proofs.Common.{subst, sym, ◌∙◌, arith, Contains, Option, Some, None, IsSome, option_map}
use Rattle.std.proofs.lemmas.Bool.{eq-eqb, eqb-true, false≢true}
use Rattle.std.proofs.lemmas.Bool.Decides.{eqb_tells}
use Rattle.std.proofs.lemmas.List.Elements.{Contains-append_right}
use Rattle.std.proofs.lemmas.List.Filters.{length-filter_both}
use Rattle.std.proofs.lemmas.List.Sorted.{Contains-permutation}
use Rattle.std.proofs.lemmas.List.Sums.{length-filter}
use Rattle.std.specs.List.{count_by, filter, find}
use Rattle.atlas_model.specs.Boxes.{Box, Sides}
use Rattle.atlas_model.specs.Callers.{SoundIsTiled, LiveHaveBoxes}
use Rattle.atlas_model.specs.Laws.StepLaws.{live_count, IsGrantStep, IsFreeingStep}
use Rattle.atlas_model.specs.Replies.{live_box}
use Rattle.atlas_model.specs.States.{State, live_in, IsLive, IsSound}
use Rattle.atlas_model.specs.Trees.{Grant, ids}
use Rattle.atlas_model.proofs.TreeLemmas.TreeIds.{Contains-first}
use Rattle.atlas_model.proofs.ListLemmas.ListCounts.{count_some, split_at, IsSplitAt}
use Rattle.atlas_model.proofs.TreeLemmas.BoxLists.{count_live}
use Rattle.atlas_model.proofs.StepLemmas.RunOrder.{runs_keep_order}
use Rattle.atlas_model.proofs.ListLemmas.CallerLemmas.{length-permutation, find-counted, find-counted_once, find-uncounted}
use Rattle.atlas_model.proofs.ListLemmas.CallerLemmas.{find-permutation, find-filter_kept, find-filter_gone, count_by-permutation}

pub sound_is_tiled : SoundIsTiled
sound_is_tiled s sound = (runs_keep_order s s [] [] sound refl).1.tiled

abbrev pub is_for : ℕ → Grant → Bool
is_for id g = g.id == id

-- An id is live where it is counted.
pub counted_live : (s : State) (id : ℕ) → 1 ≤ live_count id s → IsLive s id
counted_live s id some =
    at_split (split_at (λ k. k == id) (ids s.tree.members) (omega (arith, some, count_live (λ k. k == id) s.size s.tree)))
  where
    at_split : IsSplitAt (λ k. k == id) (ids s.tree.members) → Contains (ids s.tree.members) id
    at_split at = subst (λ l. Contains l id) (sym at.is) (subst (Contains (at.before ++ at.here ∷ at.after)) (eqb-true at.here id at.passes)
        (Contains-append_right at.before (at.here ∷ at.after) at.here (Contains-first at.here at.after)))

pub live_counted : (s : State) (id : ℕ) → IsLive s id → 1 ≤ live_count id s
live_counted s id at =
    omega (
      arith,
      count_live (λ k. k == id) s.size s.tree,
      count_some (λ k. k == id) (ids s.tree.members) id at (eq-eqb id id refl),
    )

by_found : (o : Option Grant) → IsSome (option_map (λ (g : Grant). g.box) o) → o ≡ None → ⊥
by_found None some none = absurd (false≢true some)
by_found (Some g) some none = cc

pub live_have_boxes : LiveHaveBoxes
live_have_boxes s id = (forth, back)
  where
    forth : IsLive s id → IsSome (live_box s id)
    forth at =
        let found = find-counted (is_for id) (live_in s) (live_counted s id at) in
        subst (λ o. IsSome (option_map (λ (g : Grant). g.box) o)) (sym found.1) refl

    back : IsSome (live_box s id) → IsLive s id
    back some = grind (arith, by_found, find-uncounted, counted_live)

pub few_live : (s : State) (id : ℕ) → IsSound s → live_count id s ≤ 1
few_live s id sound = (sound_is_tiled s sound).ids id

-- A grant.
module _ (old new : State) (r : Sides) (g : Grant) (sound_new : IsSound new) (step : IsGrantStep old r g new) where
  at : Contains (live_in new) g
  at = Contains-permutation (g ∷ live_in old) (live_in new) g step.live (Contains-first g (live_in old))

  pub granted_unused : live_box old g.id ≡ None
  granted_unused = ap (option_map (λ (k : Grant). k.box)) (find-uncounted (is_for g.id) (live_in old) step.id)

  pub granted_live : IsLive new g.id
  granted_live = counted_live new g.id (count_some (is_for g.id) (live_in new) g at (eq-eqb g.id g.id refl))

  pub granted_here : live_box new g.id ≡ Some g.box
  granted_here =
      ap (option_map (λ (k : Grant). k.box))
      (find-counted_once (is_for g.id) (live_in new) g (few_live new g.id sound_new) at (eq-eqb g.id g.id refl))

  pub granted_others : (k : ℕ) → (k ≡ g.id → ⊥) → live_box new k ≡ live_box old k
  granted_others k differ =
      let same : count_by (is_for k) (live_in new) ≡ count_by (is_for k) (g ∷ live_in old) =
      count_by-permutation (is_for k) (g ∷ live_in old) (live_in new) step.live in
      ap (option_map (λ (h : Grant). h.box))
      (find-permutation (is_for k) (g ∷ live_in old) (live_in new) step.live (omega (arith, few_live new k sound_new))
      ∙ passed)
    where
      passed : find (is_for k) (g ∷ live_in old) ≡ find (is_for k) (live_in old)
      passed = grind arith

  pub granted_boxes : (k : ℕ) → live_box new k ≡ cond (k == g.id) (Some g.box) (live_box old k)
  granted_boxes k = grind (arith, eqb_tells, granted_here, granted_others)

  pub granted_count : length (live_in new) ≡ length (live_in old) + 1
  granted_count = length-permutation (g ∷ live_in old) (live_in new) step.live ∙ omega arith

-- A freeing.
freed_itself : (id : ℕ) (g : Grant) → (g.id == id) ≡ true → not (g.id == id) ≡ false
freed_itself id g is = ap not is

freed_other : (id k : ℕ) → (k ≡ id → ⊥) → (g : Grant) → (g.id == k) ≡ true → not (g.id == id) ≡ true
freed_other id k differ g is = grind arith

pub freed_box : (old new : State) (id : ℕ) → IsFreeingStep old id new → live_box new id ≡ None
freed_box old new id step = grind (arith, find-filter_gone, freed_itself)

pub freed_others : (old new : State) (id : ℕ) → IsFreeingStep old id new → (k : ℕ) → (k ≡ id → ⊥)
    → live_box new k ≡ live_box old k
freed_others old new id step k differ = grind (arith, find-filter_kept, freed_other)

pub freed_count : (old new : State) (id : ℕ) → IsFreeingStep old id new
    → length (live_in new) + 1 ≡ length (live_in old)
freed_count old new id step =
    let both : length (filter (λ g. not (g.id == id)) (live_in old)) + length (filter (is_for id) (live_in old)) ≡ length (live_in old) =
    length-filter_both (λ (g : Grant). not (g.id == id)) (is_for id) (λ g. twice (g.id == id)) (live_in old) in
    let one : length (filter (is_for id) (live_in old)) ≡ live_count id old = length-filter (is_for id) (live_in old) in
    omega (arith, both, one, step.one, ap length step.live)
  where
    twice : (b : Bool) → b ≡ not (not b)
    twice true = refl
    twice false = refl

-- An id that isn't live has no box.
pub unlive_box : (s : State) (id : ℕ) → (IsLive s id → ⊥) → live_box s id ≡ None
unlive_box s id dead = by_box (live_box s id) refl
  where
    by_box : (o : Option Box) → live_box s id ≡ o → live_box s id ≡ None
    by_box None e = e
    by_box (Some b) e = absurd (dead ((live_have_boxes s id).1 (subst (λ o. IsSome o) (sym e) refl)))
