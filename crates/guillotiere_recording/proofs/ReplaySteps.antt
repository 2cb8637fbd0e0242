-- What one event of a replay makes of the atlas and of the names that it keeps.
use Rattle.std.proofs.Common.{◌≡◌, ℕ, ◌<◌, ◌≤◌, ◌==◌, ◌⊎◌, inl, inr, true, false, refl, ap, sym, subst, ◌∙◌, arith, Option, Some, None}
use Rattle.std.proofs.Common.{Result, Ok, Err}
use Rattle.std.specs.Cmp.{nat_cmp_is}
use Rattle.std.specs.Ordering.{nat_cmp, is_eq}
use Rattle.std.specs.declared.cmp.Ordering.TheVariants.{Less, Equal, Greater}
use Rattle.std.specs.BTreeMap.{get, Updates}
use Rattle.std.specs.Option.{is_some}
use Rattle.std.specs.Result.{IsErrAnd, IfErr}
use Rattle.std.proofs.lemmas.Bool.{eq-eqb, ne_eqb, false≢true, cases_eq, cases_order}
use Rattle.guillotiere.specs.declared.Size.{Size}
use Rattle.guillotiere.specs.declared.Allocation.{Allocation}
use Rattle.guillotiere.specs.Pixels.{sides_of, box_of}
use Rattle.guillotiere.specs.Trees.{grant}
use Rattle.guillotiere.specs.States.{State, IsLive}
use Rattle.guillotiere.specs.Renaming.{with_name}
use Rattle.guillotiere.specs.Replies.{grant_of, IsExact}
use Rattle.guillotiere.specs.Steps as atlas
use Rattle.guillotiere.specs.Steps.{AtlasReply, Step}
use Rattle.guillotiere.specs.Laws.StepLaws.{live_count, IsGrantStep, IsFreeingStep}
use Rattle.guillotiere.specs.Stored.{AtlasValue, state_of}
use Rattle.guillotiere.proofs.TreeLemmas.RenamedTrees.{with_name-itself, with_name-other}
use Rattle.guillotiere.proofs.StepLemmas.StepEffects.{grants_lie_inside, freeings_remove_one, growths_keep_boxes}
use Rattle.guillotiere.proofs.TreeLemmas.TreeBasics.{one_if}
use Rattle.guillotiere.proofs.StepLemmas.LiveBoxes.{counted_live, live_counted}
use Rattle.guillotiere_recording.specs.declared.steps.EventFault.{EventFault}
use Rattle.guillotiere_recording.specs.Events.EventValue.{Allocate, Deallocate, Grow}
use Rattle.guillotiere_recording.specs.Sessions.{Named, IsLiveName, GrantsUnder, FreesUnder, Leads}
use Rattle.guillotiere_recording.specs.Standing.{Names, Finds, ShowsNamed, CarriesOut}
use Rattle.guillotiere_recording.proofs.NamedStates.{grant_counts, growth_counts, freeing_less, freed_is_gone, others_stay}
use Rattle.guillotiere_recording.proofs.NamedStates.{events_keep_names}

-- look-ups

pub at_same : (k q : ℕ) → q ≡ k → is_eq (nat_cmp k q) ≡ true
at_same k q same = sym (ap is_eq (nat_cmp_is k q Equal (sym same)))

pub at_other : (k q : ℕ) → (q ≡ k → ⊥) → is_eq (nat_cmp k q) ≡ false
at_other k q other = by_order (cases_order k q)
  where
    by_order : (k ≡ q) ⊎ ((k < q) ⊎ (q < k)) → is_eq (nat_cmp k q) ≡ false
    by_order (inl same) = absurd (other (sym same))
    by_order (inr (inl less)) = sym (ap is_eq (nat_cmp_is k q Less less))
    by_order (inr (inr more)) = sym (ap is_eq (nat_cmp_is k q Greater more))

pub found : (o : Option ℕ) → is_some o ≡ true → (id : ℕ) × (o ≡ Some id)
found None is = absurd (false≢true is)
found (Some id) is = (id, refl)

pub not_missing : (o : Option ℕ) (id : ℕ) → is_some o ≡ false → o ≡ Some id → ⊥
not_missing o id missing is = false≢true (sym missing ∙ ap is_some is)

pub one_id : (o : Option ℕ) (a b : ℕ) → o ≡ Some a → o ≡ Some b → a ≡ b
one_id o a b is its = let same : Some a ≡ Some b = sym is ∙ its in cc

pub live_where_found : (a : AtlasValue) (names : Names) (s : Named) (name : ℕ) → ShowsNamed a names s
    → is_some (get nat_cmp names name) ≡ true → IsLiveName s name
live_where_found a names s name h is =
    let it = found (get nat_cmp names name) is in
    let live = (h.finds name it.0).0 it.1 in
    (it.0, live.0, live.1)

pub dead_where_missing : (a : AtlasValue) (names : Names) (s : Named) (name : ℕ) → ShowsNamed a names s
    → is_some (get nat_cmp names name) ≡ false → IsLiveName s name → ⊥
dead_where_missing a names s name h missing (id, live, is) =
    not_missing (get nat_cmp names name) id missing ((h.finds name id).1 (live, is))

-- Steps of a state that is shown.

pub step_of : (a : AtlasValue) (names : Names) (s : Named) (call : atlas.AtlasCall) (reply : AtlasReply) (new : State)
    → ShowsNamed a names s → Step (state_of a) call reply new → Step s.state call reply new
step_of a names s call reply new h step = subst (λ t. Step t call reply new) (sym h.state) step

-- A grant.

module _ (a b : AtlasValue) (names left : Names) (size : Size) (recorded granted : Allocation)
    (missing : is_some (get nat_cmp names recorded.id) ≡ false)
    (stepped : Step (state_of a) (atlas.Allocate (sides_of size)) (atlas.Allocated (grant_of granted)) (state_of b))
    (exact : IsExact granted.rectangle) (same : granted.rectangle ≡ recorded.rectangle)
    (updates : Updates nat_cmp names left recorded.id (Some granted.id)) (s : Named) (h : ShowsNamed a names s)
  where
    after_grant : Named
    after_grant = record { state = state_of b; name = with_name s.name granted.id recorded.id }

    grant_step : IsGrantStep s.state (sides_of size) (grant_of granted) (state_of b)
    grant_step = grants_lie_inside s.state (state_of b) (sides_of size) (grant_of granted) h.named.sound
        (step_of a names s (atlas.Allocate (sides_of size)) (atlas.Allocated (grant_of granted)) (state_of b) h stepped)

    still_other : (id : ℕ) → IsLive s.state id → id ≡ granted.id → ⊥
    still_other id live is =
        let some : 1 ≤ live_count id s.state = live_counted s.state id live in
        let none : live_count id s.state ≡ 0 = ap (λ k. live_count k s.state) is ∙ grant_step.id in
        omega (arith, some, none)

    grown_live : (id : ℕ) → IsLive s.state id → IsLive (state_of b) id
    grown_live id live =
        let some : 1 ≤ live_count id s.state = live_counted s.state id live in
        let counts = grant_counts s.state (state_of b) (sides_of size) (grant_of granted) grant_step id in
        counted_live (state_of b) id (omega (arith, some, counts))

    new_live : IsLive (state_of b) granted.id
    new_live =
        let counts = grant_counts s.state (state_of b) (sides_of size) (grant_of granted) grant_step granted.id in
        let one : one_if (granted.id == granted.id) ≡ 1 = ap one_if (eq-eqb granted.id granted.id refl) in
        counted_live (state_of b) granted.id (omega (arith, counts, one))

    was_live : (id : ℕ) → (id ≡ granted.id → ⊥) → IsLive (state_of b) id → IsLive s.state id
    was_live id other live =
        let some : 1 ≤ live_count id (state_of b) = live_counted (state_of b) id live in
        let counts = grant_counts s.state (state_of b) (sides_of size) (grant_of granted) grant_step id in
        let none : one_if (granted.id == id) ≡ 0 = ap one_if (ne_eqb granted.id id (λ is. other (sym is))) in
        counted_live s.state id (omega (arith, some, counts, none))

    granted_leads : GrantsUnder s size recorded
        (record { state = state_of b; name = with_name s.name granted.id recorded.id })
    granted_leads = record {
      id = granted.id;
      step = subst (λ r. Step s.state (atlas.Allocate (sides_of size)) (atlas.Allocated (grant granted.id (box_of r))) (state_of b)) same
          (step_of a names s (atlas.Allocate (sides_of size)) (atlas.Allocated (grant_of granted)) (state_of b) h stepped);
      exact = subst IsExact same exact;
      unused = dead_where_missing a names s recorded.id h missing;
      named = with_name-itself s.name granted.id recorded.id;
      kept = λ id live _. with_name-other s.name granted.id recorded.id id (still_other id live);
    }

    granted_finds : Finds left (record { state = state_of b; name = with_name s.name granted.id recorded.id })
    granted_finds name id = (by_name (cases_eq name recorded.id), λ (live, is). by_id (cases_eq id granted.id) live is)
      where
        by_name : (name ≡ recorded.id) ⊎ (name ≡ recorded.id → ⊥) → get nat_cmp left name ≡ Some id
            → IsLive (state_of b) id × (with_name s.name granted.id recorded.id id ≡ name)
        by_name (inl its) is =
            let one : granted.id ≡ id =
            one_id (get nat_cmp left recorded.id) granted.id id updates.1 (ap (get nat_cmp left) (sym its) ∙ is) in (
              subst (IsLive (state_of b)) one new_live,
              ap (with_name s.name granted.id recorded.id) (sym one) ∙ with_name-itself s.name granted.id recorded.id ∙ sym its,
            )
        by_name (inr other) is =
            let was = (h.finds name id).0 (sym (updates.2 name (at_other recorded.id name other)) ∙ is) in
            (grown_live id was.0, with_name-other s.name granted.id recorded.id id (still_other id was.0) ∙ was.1)

        by_id : (id ≡ granted.id) ⊎ (id ≡ granted.id → ⊥) → IsLive (state_of b) id
            → with_name s.name granted.id recorded.id id ≡ name → get nat_cmp left name ≡ Some id
        by_id (inl its) live is =
            let one : recorded.id ≡ name =
            sym (with_name-itself s.name granted.id recorded.id) ∙ ap (with_name s.name granted.id recorded.id) (sym its) ∙ is in
            ap (get nat_cmp left) (sym one) ∙ updates.1 ∙ ap Some (sym its)
        by_id (inr other) live is =
            let was : IsLive s.state id = was_live id other live in
            let named : s.name id ≡ name = sym (with_name-other s.name granted.id recorded.id id other) ∙ is in
            updates.2 name (at_other recorded.id name (λ its. dead_where_missing a names s recorded.id h missing (id, was, named ∙ its)))
            ∙ (h.finds name id).1 (was, named)

    pub granted_on : (t : Named) × Leads s (Allocate size (Some recorded)) t × ShowsNamed b left t
    granted_on = (
      record { state = state_of b; name = with_name s.name granted.id recorded.id },
      granted_leads,
      record {
        state = refl;
        finds = granted_finds;
        named = events_keep_names s (record { state = state_of b; name = with_name s.name granted.id recorded.id })
            (Allocate size (Some recorded)) h.named granted_leads;
      },
    )

-- A freeing.

pub freed_on : (a b : AtlasValue) (names left : Names) (name id : ℕ) → get nat_cmp names name ≡ Some id
    → Step (state_of a) (atlas.Deallocate id) atlas.Done (state_of b) → Updates nat_cmp names left name None
    → CarriesOut a names (Deallocate name) b left
freed_on a b names left name id its stepped updates s h = (
  record { state = state_of b; name = s.name },
  leads,
  record {
    state = refl;
    finds = finds;
    named = events_keep_names s (record { state = state_of b; name = s.name }) (Deallocate name) h.named leads;
  },
)
  where
    step : Step s.state (atlas.Deallocate id) atlas.Done (state_of b)
    step = step_of a names s (atlas.Deallocate id) atlas.Done (state_of b) h stepped

    effect : IsFreeingStep s.state id (state_of b)
    effect = freeings_remove_one s.state (state_of b) id h.named.sound step

    leads : FreesUnder s name (record { state = state_of b; name = s.name })
    leads = record {
      id = id;
      live = ((h.finds name id).0 its).0;
      named = ((h.finds name id).0 its).1;
      step = step;
      kept = λ k _ _. refl;
    }

    finds : Finds left (record { state = state_of b; name = s.name })
    finds n k = (by_name (cases_eq n name), λ (live, is). back live is)
      where
        by_name : (n ≡ name) ⊎ (n ≡ name → ⊥) → get nat_cmp left n ≡ Some k → IsLive (state_of b) k × (s.name k ≡ n)
        by_name (inl same) is =
            let none : None ≡ Some k = sym updates.1 ∙ ap (get nat_cmp left) (sym same) ∙ is in
            absurd (cc)
        by_name (inr other) is =
            let was = (h.finds n k).0 (sym (updates.2 n (at_other name n other)) ∙ is) in
            let apart : id ≡ k → ⊥ = λ one. other (sym was.1 ∙ ap s.name (sym one) ∙ ((h.finds name id).0 its).1) in
            let some : 1 ≤ live_count k s.state = live_counted s.state k was.0 in
            let counts = others_stay s.state (state_of b) id effect k (ne_eqb id k apart) in
            (counted_live (state_of b) k (omega (arith, some, counts)), was.1)

        back : IsLive (state_of b) k → s.name k ≡ n → get nat_cmp left n ≡ Some k
        back live is =
            let some : 1 ≤ live_count k (state_of b) = live_counted (state_of b) k live in
            let less = freeing_less s.state (state_of b) id effect k in
            let was : IsLive s.state k = counted_live s.state k (omega (arith, some, less)) in
            let had : get nat_cmp names n ≡ Some k = (h.finds n k).1 (was, is) in
            let gone = freed_is_gone s.state (state_of b) id effect in
            updates.2 n (at_other name n (λ same.
            let one : k ≡ id = one_id (get nat_cmp names name) k id (ap (get nat_cmp names) (sym same) ∙ had) its in
            let none : live_count k (state_of b) ≡ 0 = ap (λ i. live_count i (state_of b)) one ∙ gone in
            omega (arith, some, none))) ∙ had

-- A growth.

pub grown_on : (a b : AtlasValue) (names : Names) (size : Size)
    → Step (state_of a) (atlas.Grow (sides_of size)) atlas.Done (state_of b) → CarriesOut a names (Grow size) b names
grown_on a b names size stepped s h = (
  record { state = state_of b; name = s.name },
  (step, λ id _ _. refl),
  record {
    state = refl;
    finds = finds;
    named = events_keep_names s (record { state = state_of b; name = s.name }) (Grow size) h.named (step, λ id _ _. refl);
  },
)
  where
    step : Step s.state (atlas.Grow (sides_of size)) atlas.Done (state_of b)
    step = step_of a names s (atlas.Grow (sides_of size)) atlas.Done (state_of b) h stepped

    counts : (id : ℕ) → live_count id (state_of b) ≡ live_count id s.state
    counts = growth_counts s.state (state_of b) (growths_keep_boxes s.state (state_of b) (sides_of size) h.named.sound step)

    finds : Finds names (record { state = state_of b; name = s.name })
    finds n k = (
      λ is.
          let was = (h.finds n k).0 is in
          let some : 1 ≤ live_count k s.state = live_counted s.state k was.0 in
          let same = counts k in
          (counted_live (state_of b) k (omega (arith, some, same)), was.1),
      λ (live, is).
          let some : 1 ≤ live_count k (state_of b) = live_counted (state_of b) k live in
          let same = counts k in
          (h.finds n k).1 (counted_live s.state k (omega (arith, some, same)), is),
    )

-- What a fault says that is another one's.

pub stopped_as : {X : Type 0} (P : EventFault → Type 0) (r : Result X EventFault) (fault : EventFault)
    → IsErrAnd r (λ k. k ≡ fault)
    → P fault → IfErr r P
stopped_as P (Ok x) fault from holds = absurd from
stopped_as P (Err k) fault from holds = subst P (sym from) holds
