-- Each event leads from a named state to a named state.
use Rattle.std.proofs.Common.{◌≡◌, ℕ, ◌+◌, ◌≤◌, ◌==◌, ◌⊎◌, inl, inr, eqb, Bool, true, false, ◌&&◌, not, List, [], ◌∷◌, ◌++◌, map, zero-add}
use Rattle.std.proofs.Common.{refl, ap, sym, subst, ◌∙◌, arith, Contains, Some, None}
use Rattle.std.specs.List.{count_by}
use Rattle.std.proofs.lemmas.Bool.{eqb-true, eq-eqb, false≢true}
use Rattle.std.proofs.lemmas.List.Elements.{All-contains, Contains-append_right}
use Rattle.guillotiere.specs.Boxes.{Sides}
use Rattle.guillotiere.specs.Pixels.{sides_of, box_of}
use Rattle.guillotiere.specs.Trees.{Grant, grant, ids}
use Rattle.guillotiere.specs.States.{State, IsLive, live_in}
use Rattle.guillotiere.specs.Steps as atlas
use Rattle.guillotiere.specs.Steps.{AtlasCall}
use Rattle.guillotiere.specs.Laws.StepLaws.{live_count, IsGrantStep, IsFreeingStep, IsGrowthStep, IsRearrangingStep}
use Rattle.guillotiere.specs.Refits.{Transfer}
use Rattle.guillotiere.specs.Renaming.{IsOneToOne}
use Rattle.guillotiere.proofs.ListLemmas.ListCounts.{count_by-cons, count_by-append, count_by-weaker, count_some, counted_once, split_at}
use Rattle.guillotiere.proofs.StepLemmas.StepEffects.{grants_lie_inside, freeings_remove_one, growths_keep_boxes, rearrangings_lose_nothing}
use Rattle.guillotiere.proofs.StepLemmas.SoundSteps.{steps_keep}
use Rattle.guillotiere.proofs.TreeLemmas.TreeBasics.{one_if}
use Rattle.guillotiere.proofs.TreeLemmas.TreeIds.{Contains-first}
use Rattle.guillotiere.proofs.StepLemmas.LiveBoxes.{counted_live, live_counted, few_live}
use Rattle.guillotiere.proofs.ListLemmas.CallerLemmas.{count_by-permutation}
use Rattle.guillotiere_recording.specs.Events.{ListValue}
use Rattle.guillotiere_recording.specs.Events.EventValue.{Allocate, Deallocate, Grow, Rearrange, ResizeAndRearrange}
use Rattle.guillotiere_recording.specs.Sessions.{Named, IsLiveName, IsNamed, KeepsNames, RearrangesUnder}
use Rattle.guillotiere_recording.specs.Books.{EventsKeepNames}
use Rattle.guillotiere_recording.proofs.Counts.{count_map, count_filter, count_alike}

-- Where nothing new is live, names stay one to one.
fewer : (old new : Named) → IsOneToOne old.name (ids old.state.tree.members)
    → ((id : ℕ) → live_count id new.state ≤ live_count id old.state) → KeepsNames old new
    → IsOneToOne new.name (ids new.state.tree.members)
fewer old new one less kept a b live_a live_b same =
    let old_a : IsLive old.state a = was a live_a in
    let old_b : IsLive old.state b = was b live_b in
    one a b old_a old_b (sym (kept a old_a live_a) ∙ same ∙ kept b old_b live_b)
  where
    was : (id : ℕ) → IsLive new.state id → IsLive old.state id
    was id live =
        let some : 1 ≤ live_count id new.state = live_counted new.state id live in
        let h : live_count id new.state ≤ live_count id old.state = less id in
        counted_live old.state id (omega arith)

-- What a grant counts.
pub grant_counts : (old new : State) (r : Sides) (g : Grant) → IsGrantStep old r g new → (id : ℕ)
    → live_count id new ≡ one_if (g.id == id) + live_count id old
grant_counts old new r g h id =
    count_by-permutation (λ k. k.id == id) (g ∷ live_in old) (live_in new) h.live
    ∙ count_by-cons (λ (k : Grant). k.id == id) g (live_in old)

granted_names : (old new : Named) (r : Sides) (g : Grant) (name : ℕ) → IsOneToOne old.name (ids old.state.tree.members)
    → IsGrantStep old.state r g new.state → (IsLiveName old name → ⊥) → new.name g.id ≡ name → KeepsNames old new
    → IsOneToOne new.name (ids new.state.tree.members)
granted_names old new r g name one step unused named kept a b live_a live_b same = by_age (age a live_a) (age b live_b)
  where
    age : (id : ℕ) → IsLive new.state id → (id ≡ g.id) ⊎ IsLive old.state id
    age id live = by_test (eqb g.id id) refl (live_counted new.state id live) (grant_counts old.state new.state r g step id)
      where
        by_test : (b : Bool) → eqb g.id id ≡ b → 1 ≤ live_count id new.state
            → live_count id new.state ≡ one_if b + live_count id old.state
            → (id ≡ g.id) ⊎ IsLive old.state id
        by_test true is some count = inl (sym (eqb-true g.id id is))
        by_test false is some count = inr (counted_live old.state id (omega arith))

    clash : (id other : ℕ) → IsLive new.state id → IsLive old.state id → other ≡ g.id → new.name other ≡ new.name id → ⊥
    clash id other live was is names =
        unused (id, was, sym (kept id was live) ∙ sym names ∙ ap new.name is ∙ named)

    by_age : (a ≡ g.id) ⊎ IsLive old.state a → (b ≡ g.id) ⊎ IsLive old.state b → a ≡ b
    by_age (inl new_a) (inl new_b) = new_a ∙ sym new_b
    by_age (inl new_a) (inr old_b) = absurd (clash b a live_b old_b new_a same)
    by_age (inr old_a) (inl new_b) = absurd (clash a b live_a old_a new_b (sym same))
    by_age (inr old_a) (inr old_b) = one a b old_a old_b (sym (kept a old_a live_a) ∙ same ∙ kept b old_b live_b)

-- What a freeing and a growth count.

pub freeing_counts : (old new : State) (freed : ℕ) → IsFreeingStep old freed new → (id : ℕ)
    → live_count id new ≡ count_by (λ g. not (g.id == freed) && g.id == id) (live_in old)
freeing_counts old new freed h id =
    ap (count_by (λ g. g.id == id)) h.live ∙ count_filter (λ g. not (g.id == freed)) (λ g. g.id == id) (live_in old)

pub freeing_less : (old new : State) (freed : ℕ) → IsFreeingStep old freed new → (id : ℕ)
    → live_count id new ≤ live_count id old
freeing_less old new freed h id =
    let e = freeing_counts old new freed h id in
    let few : count_by (λ g. not (g.id == freed) && g.id == id) (live_in old) ≤ live_count id old =
    count_by-weaker (λ g. not (g.id == freed) && g.id == id) (λ g. g.id == id) (λ g. second (not (g.id == freed)) (g.id == id))
    (live_in old) in
    omega arith
  where
    second : (x y : Bool) → (x && y) ≡ true → y ≡ true
    second true y is = is
    second false y is = cc

-- A freed id is live no more, and every other one as it was.

pub freed_is_gone : (old new : State) (freed : ℕ) → IsFreeingStep old freed new → live_count freed new ≡ 0
freed_is_gone old new freed h =
    freeing_counts old new freed h freed
    ∙ count_alike (λ g. not (g.id == freed) && g.id == freed) (λ g. false) (live_in old) (λ g at. never (g.id == freed))
    ∙ count_none (live_in old)
  where
    never : (b : Bool) → (not b && b) ≡ false
    never true = refl
    never false = refl

    count_none : (gs : List Grant) → count_by (λ g. false) gs ≡ 0
    count_none [] = refl
    count_none (g ∷ gs) = count_by-cons (λ k. false) g gs ∙ zero-add _ ∙ count_none gs

pub others_stay : (old new : State) (freed : ℕ) → IsFreeingStep old freed new → (id : ℕ) → eqb freed id ≡ false
    → live_count id new ≡ live_count id old
others_stay old new freed h id other =
    freeing_counts old new freed h id
    ∙ count_alike (λ g. not (g.id == freed) && g.id == id) (λ g. g.id == id) (live_in old)
    (λ g at. by_tests g.id (eqb g.id freed) refl (eqb g.id id) refl)
  where
    by_tests : (k : ℕ) (b : Bool) → eqb k freed ≡ b → (c : Bool) → eqb k id ≡ c → (not b && c) ≡ c
    by_tests k true is true says =
        let one : freed ≡ id = sym (eqb-true k freed is) ∙ eqb-true k id says in
        absurd (false≢true (sym other ∙ eq-eqb freed id one))
    by_tests k true is false says = refl
    by_tests k false is c says = refl

pub growth_counts : (old new : State) → IsGrowthStep old new → (id : ℕ) → live_count id new ≡ live_count id old
growth_counts old new h id = ap (count_by (λ g. g.id == id)) h.live

-- A rearranging.

-- One of the changes has an id as its new id.
moved_to : (old new : State) (asked : AtlasCall) (list : _) → IsRearrangingStep old list new → (id : ℕ) → IsLive new id
    → (t : Transfer) × Contains list.changes t × (t.new.id ≡ id)
moved_to old new asked list h id live =
    let some : 1 ≤ live_count id new = live_counted new id live in
    let same : count_by (λ (g : Grant). g.id == id) (map (λ t. t.new) list.changes) ≡ live_count id new =
    count_by-permutation (λ (g : Grant). g.id == id) (live_in new) (map (λ t. t.new) list.changes) h.after in
    let all : count_by (λ (g : Grant). g.id == id) (map (λ t. t.new) list.changes) ≡ count_by (λ t. t.new.id == id) list.changes =
    count_map (λ t. t.new) (λ (g : Grant). g.id == id) list.changes in
    let at = split_at (λ t. t.new.id == id) list.changes (omega arith) in
    let there : Contains (at.before ++ at.here ∷ at.after) at.here =
    Contains-append_right at.before (at.here ∷ at.after) at.here (Contains-first at.here at.after) in
    (at.here, subst (λ ts. Contains ts at.here) (sym at.is) there, eqb-true at.here.new.id id at.passes)

-- Among the changes an old id stands at most as often as it was live.
pub moved_from : (old new : State) (list : _) → IsRearrangingStep old list new → (id : ℕ)
    → count_by (λ t. t.old.id == id) list.changes ≤ live_count id old
moved_from old new list h id =
    let p : Grant → Bool = λ g. g.id == id in
    let a = count_by-permutation p (live_in old) (map (λ t. t.old) list.changes ++ list.failures) h.before in
    let b = count_by-append p (map (λ t. t.old) list.changes) list.failures in
    let c = count_map (λ t. t.old) p list.changes in
    omega (arith, a, b, c)

rearranged_names : (old new : Named) (asked : AtlasCall) (list : ListValue) → IsNamed old
    → RearrangesUnder old asked list new
    → IsOneToOne new.name (ids new.state.tree.members)
rearranged_names old new asked list good h a b live_a live_b same =
    let step = rearrangings_lose_nothing old.state new.state asked h.answer good.sound h.step in
    let t = moved_to old.state new.state asked h.answer step a live_a in
    let u = moved_to old.state new.state asked h.answer step b live_b in
    let name_t = All-contains (λ (t : Transfer). new.name t.new.id ≡ old.name t.old.id) h.answer.changes t.0 h.kept t.1 in
    let name_u = All-contains (λ (t : Transfer). new.name t.new.id ≡ old.name t.old.id) h.answer.changes u.0 h.kept u.1 in
    let names : old.name t.0.old.id ≡ old.name u.0.old.id =
    sym name_t ∙ ap new.name t.2 ∙ same ∙ sym (ap new.name u.2) ∙ name_u in
    let olds : t.0.old.id ≡ u.0.old.id = good.names t.0.old.id u.0.old.id (was step t.0 t.1) (was step u.0 u.1) names in
    let one : count_by (λ (k : Transfer). k.old.id == u.0.old.id) h.answer.changes ≤ 1 = at_most step u.0.old.id in
    let alike : t.0 ≡ u.0 =
    counted_once (λ (k : Transfer). k.old.id == u.0.old.id) h.answer.changes t.0 u.0 one t.1 u.1 (eq-eqb _ _ olds) (eq-eqb _ _ refl) in
    sym t.2 ∙ ap (λ (k : Transfer). k.new.id) alike ∙ u.2
  where
    at_most : IsRearrangingStep old.state h.answer new.state → (id : ℕ) → count_by (λ (k : Transfer). k.old.id == id) h.answer.changes ≤ 1
    at_most step id =
        let few = moved_from old.state new.state h.answer step id in
        let one = few_live old.state id good.sound in
        omega (arith, few, one)

    was : IsRearrangingStep old.state h.answer new.state → (t : Transfer) → Contains h.answer.changes t
        → IsLive old.state t.old.id
    was step t at =
        let some : 1 ≤ count_by (λ (k : Transfer). k.old.id == t.old.id) h.answer.changes =
        count_some (λ (k : Transfer). k.old.id == t.old.id) h.answer.changes t at (eq-eqb _ _ refl) in
        let few = moved_from old.state new.state h.answer step t.old.id in
        counted_live old.state t.old.id (omega (arith, some, few))

-- The limit stays.
rearranged_limit : (old new : Named) (asked : AtlasCall) (list : ListValue) → (n : Sides)
    → (h : RearrangesUnder old asked list new) → atlas.Rearranges old.state n (atlas.Changed h.answer) new.state
    → new.state.limit ≡ old.state.limit
rearranged_limit old new asked list n h step = ap (λ (s : State). s.limit) step.5

pub events_keep_names : EventsKeepNames
events_keep_names old new (Allocate size None) good (step, kept) = record {
  sound = steps_keep old.state new.state (atlas.Allocate (sides_of size)) atlas.NoRoom good.sound step;
  limit = ap (λ (s : State). s.limit) step.1 ∙ good.limit;
  names = fewer old new good.names (λ id. same id) kept;
}
  where
    same : (id : ℕ) → live_count id new.state ≤ live_count id old.state
    same id = let e : live_count id new.state ≡ live_count id old.state = ap (live_count id) step.1 in omega arith
events_keep_names old new (Allocate size (Some a)) good h = record {
  sound = steps_keep old.state new.state (atlas.Allocate (sides_of size)) (atlas.Allocated (grant h.id (box_of a.rectangle))) good.sound
      h.step;
  limit = ap (λ (s : State). s.limit) h.step.1.state ∙ good.limit;
  names = granted_names old new (sides_of size) (grant h.id (box_of a.rectangle)) a.id good.names
      (grants_lie_inside old.state new.state (sides_of size) (grant h.id (box_of a.rectangle)) good.sound h.step) h.unused h.named h.kept;
}
events_keep_names old new (Deallocate name) good h = record {
  sound = steps_keep old.state new.state (atlas.Deallocate h.id) atlas.Done good.sound h.step;
  limit = ap (λ (s : State). s.limit) h.step.1 ∙ good.limit;
  names = fewer old new good.names
      (freeing_less old.state new.state h.id (freeings_remove_one old.state new.state h.id good.sound h.step)) h.kept;
}
events_keep_names old new (Grow size) good (step, kept) = record {
  sound = steps_keep old.state new.state (atlas.Grow (sides_of size)) atlas.Done good.sound step;
  limit = ap (λ (s : State). s.limit) step.2 ∙ good.limit;
  names = fewer old new good.names (λ id. same id) kept;
}
  where
    same : (id : ℕ) → live_count id new.state ≤ live_count id old.state
    same id =
        let e = growth_counts old.state new.state (growths_keep_boxes old.state new.state (sides_of size) good.sound step) id in
        omega (arith, e)
events_keep_names old new (Rearrange list) good h = record {
  sound = steps_keep old.state new.state atlas.Rearrange (atlas.Changed h.answer) good.sound h.step;
  limit = rearranged_limit old new atlas.Rearrange list old.state.size h h.step ∙ good.limit;
  names = rearranged_names old new atlas.Rearrange list good h;
}
events_keep_names old new (ResizeAndRearrange size list) good h = record {
  sound = steps_keep old.state new.state (atlas.ResizeAndRearrange (sides_of size)) (atlas.Changed h.answer) good.sound h.step;
  limit = rearranged_limit old new (atlas.ResizeAndRearrange (sides_of size)) list (sides_of size) h h.step ∙ good.limit;
  names = rearranged_names old new (atlas.ResizeAndRearrange (sides_of size)) list good h;
}
