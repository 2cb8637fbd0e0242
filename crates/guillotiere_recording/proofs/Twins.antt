-- Sessions that are one but for ids.
use Rattle.std.proofs.Common.{◌≡◌, ℕ, ◌⊎◌, inl, inr, true, false, List, [], ◌∷◌, map, refl, ap, sym, subst, subst₂, ◌∙◌, Contains, Some}
use Rattle.std.proofs.Common.{None}
use Rattle.std.proofs.lemmas.Bool.{false≢true, cases_eq}
use Rattle.std.proofs.lemmas.List.Elements.{All-head, All-tail}
use Rattle.guillotiere.specs.declared.Allocation.{Allocation}
use Rattle.guillotiere.specs.Boxes.{Sides, Box}
use Rattle.guillotiere.specs.Choice.{rounded}
use Rattle.guillotiere.specs.Changes.{only, place}
use Rattle.guillotiere.specs.Pixels.{sides_of, box_of}
use Rattle.guillotiere.specs.Trees.{Tree, Grant, grant, ids}
use Rattle.guillotiere.specs.States.{State, IsLive}
use Rattle.guillotiere.specs.Steps as atlas
use Rattle.guillotiere.specs.Steps.{AtlasReply, Step}
use Rattle.guillotiere.specs.Steps.AtlasReply.{Allocated, NoRoom, Done, Changed, Refused, BadCall}
use Rattle.guillotiere.specs.Renaming.{renamed_tree, with_name, IsNewName, AreNamedAlike, AreAlike, AnswerAlike, is_out_of_memory}
use Rattle.guillotiere.proofs.StepLemmas.Alike.{named_at, ids_placed, ids_released, answers_without_ids, live_names_count}
use Rattle.guillotiere.proofs.TreeLemmas.RenamedTrees.{ids-renamed, with_name-itself, with_name-other}
use Rattle.guillotiere.proofs.TreeLemmas.TreeIds.{Contains-first, Contains-later, Contains-none, Contains-cons_cases}
use Rattle.guillotiere.proofs.TreeLemmas.TreeKept.{ids-grown}
use Rattle.guillotiere_recording.specs.Events.{EventValue}
use Rattle.guillotiere_recording.specs.Events.EventValue.{Allocate, Deallocate, Grow, Rearrange, ResizeAndRearrange}
use Rattle.guillotiere_recording.specs.Sessions.{Named, IsLiveName, IsNamed, KeepsNames, GrantsUnder, FreesUnder, Leads}
use Rattle.guillotiere_recording.specs.Twins.{AreTwins, is_plain_event, Says, NamesGrant, TwinsAnswerAlike, TwinsShareNames}
use Rattle.guillotiere_recording.specs.Twins.{NewSessionsAreTwins, EventsKeepTwins}
use Rattle.guillotiere_recording.proofs.NamedStates.{events_keep_names}

-- Names

-- What stands in a mapped list comes from an element.
came_from : (f : ℕ → ℕ) (xs : List ℕ) (y : ℕ) → Contains (map f xs) y → (x : ℕ) × Contains xs x × (f x ≡ y)
came_from f [] y at = absurd (Contains-none y at)
came_from f (x ∷ xs) y at =
    elim (Contains-cons_cases (f x) (map f xs) y at) [
      | inl same ↦ (x, Contains-first x xs, same)
      | inr later ↦
          let rest = came_from f xs y later in
          (rest.0, Contains-later x xs rest.0 rest.1, rest.2)
    ]

live_names : (s : Named) (name : ℕ) → IsLiveName s name → Contains (ids (renamed_tree s.name s.state.tree).members) name
live_names s name (id, live, is) =
    subst (λ xs. Contains xs name) (sym (ids-renamed s.name s.state.tree.members))
    (subst (Contains (map s.name (ids s.state.tree.members))) is (named_at s.name (ids s.state.tree.members) id live))

names_live : (s : Named) (name : ℕ) → Contains (ids (renamed_tree s.name s.state.tree).members) name → IsLiveName s name
names_live s name at =
    came_from s.name (ids s.state.tree.members) name
    (subst (λ xs. Contains xs name) (ids-renamed s.name s.state.tree.members) at)

pub twins_share_names : TwinsShareNames
twins_share_names s t name twins = (
  λ live. names_live t name (subst (λ (k : Tree). Contains (ids k.members) name) (sym twins.tree) (live_names s name live)),
  λ live. names_live s name (subst (λ (k : Tree). Contains (ids k.members) name) twins.tree (live_names t name live)),
)

new_name : (s : Named) (name : ℕ) → (IsLiveName s name → ⊥) → IsNewName s.name s.state.tree name
new_name s name unused at = unused (names_live s name at)

pub new_sessions_are_twins : NewSessionsAreTwins
new_sessions_are_twins size options f g = record {
  size = refl;
  options = refl;
  limit = refl;
  kept = refl;
  tree = refl;
  names = λ a b at_a at_b same. absurd (Contains-none a at_a);
  twins = λ a b at_a at_b same. absurd (Contains-none a at_a);
}

-- The names after a step that makes nothing live.
names_kept : (old new : Named) → ((id : ℕ) → IsLive new.state id → IsLive old.state id) → KeepsNames old new
    → AreNamedAlike old.name new.name (ids new.state.tree.members)
names_kept old new was kept id live = kept id (was id live) live

-- And after a grant.
names_granted : (old new : Named) (b : Box) (r : Sides) (g : Grant) (name : ℕ)
    → new.state.tree ≡ place old.state.size b r g.id old.state.tree
    → new.name g.id ≡ name → KeepsNames old new
    → AreNamedAlike (with_name old.name g.id name) new.name (ids new.state.tree.members)
names_granted old new b r g name is named kept id live =
    by_age (cases_eq id g.id) (ids_placed old.state.size b r g.id old.state.tree id
    (subst (λ (t : Tree). Contains (ids t.members) id) is live))
  where
    by_age : (id ≡ g.id) ⊎ (id ≡ g.id → ⊥) → (g.id ≡ id) ⊎ Contains (ids old.state.tree.members) id
        → new.name id ≡ with_name old.name g.id name id
    by_age (inl same) h =
        ap new.name same ∙ named ∙ sym (ap (with_name old.name g.id name) same ∙ with_name-itself old.name g.id name)
    by_age (inr other) (inl same) = absurd (other (sym same))
    by_age (inr other) (inr was) = kept id was live ∙ sym (with_name-other old.name g.id name id other)

still_same : (old new : State) → new ≡ old → (id : ℕ) → IsLive new id → IsLive old id
still_same old new is id live = subst (λ s. IsLive s id) is live

still_grown : (old new : State) (r : Sides) → Step old (atlas.Grow r) Done new → (id : ℕ) → IsLive new id
    → IsLive old id
still_grown old new r step id live =
    subst (λ xs. Contains xs id) (ids-grown old.size r old.tree.axis old.tree.members) (subst (λ s. IsLive s id) step.2 live)

still_freed : (old new : State) (freed : ℕ) → Step old (atlas.Deallocate freed) Done new → (id : ℕ) → IsLive new id
    → IsLive old id
still_freed old new freed step id live = ids_released (only freed) old.tree id (subst (λ s. IsLive s id) step.1 live)

-- What a reply is that is the answer to a grant.

granted_too : (f g : ℕ → ℕ) (s s' t' : State) (x : Grant) (reply : AtlasReply)
    → AnswerAlike f g s s' t' (Allocated x) reply
    → (b : Grant) × (reply ≡ Allocated b) × AnswerAlike f g s s' t' (Allocated x) (Allocated b)
granted_too f g s s' t' x (Allocated b) h = (b, refl, h)
granted_too f g s s' t' x NoRoom h = let e : NoRoom ≡ Allocated x = h.0 in absurd (cc)
granted_too f g s s' t' x Done h = let e : Done ≡ Allocated x = h.0 in absurd (cc)
granted_too f g s s' t' x (Changed list) h = let e : Changed list ≡ Allocated x = h.0 in absurd (cc)
granted_too f g s s' t' x (Refused error) h = let e : Refused error ≡ Allocated x = h.0 in absurd (cc)
granted_too f g s s' t' x BadCall h = let e : BadCall ≡ Allocated x = h.0 in absurd (cc)

-- What one event makes of twins: it says so, and with names kept it leads the other on too.
abbrev Agree : (s' t t' : Named) → EventValue → AtlasReply → Type 0
Agree s' t t' event reply =
    Says event reply × (KeepsNames t t' → NamesGrant event reply t' → Leads t event t' × AreTwins s' t')

module _ (s s' t t' : Named) (good : IsNamed s) (good_t : IsNamed t) (twins : AreTwins s t) (reply : AtlasReply)
    (met : is_out_of_memory reply ≡ false)
  where
    denied : (size : _) → Leads s (Allocate size None) s' → Step t.state (atlas.Allocate (sides_of size)) reply t'.state
        → Agree s' t t' (Allocate size None) reply
    denied size (step, kept) step' = (
      ans.0,
      λ kept' named. (
        (same, kept'),
        live_names_count s.name t.name s'.name t'.name s'.state t'.state ans.1
            (names_kept s s' (still_same s.state s'.state step.1) kept)
            (names_kept t t' (still_same t.state t'.state same.1) kept'),
      ),
    )
      where
        ans : (reply ≡ NoRoom) × AreAlike s.name t.name s'.state t'.state
        ans = answers_without_ids s.name t.name s.state t.state s'.state t'.state (atlas.Allocate (sides_of size))
            (atlas.Allocate (sides_of size)) NoRoom reply good.sound good_t.sound twins refl step step' refl met

        same : Step t.state (atlas.Allocate (sides_of size)) NoRoom t'.state
        same = subst (λ x. Step t.state (atlas.Allocate (sides_of size)) x t'.state) ans.0 step'

    granted : (size : _) (a : Allocation) → GrantsUnder s size a s'
        → Step t.state (atlas.Allocate (sides_of size)) reply t'.state → Agree s' t t' (Allocate size (Some a)) reply
    granted size a h step' = (
      (g, is.1, is.2.0),
      λ kept' named. (
        record {
          id = g.id;
          step = subst (λ x. Step t.state (atlas.Allocate (sides_of size)) (Allocated x) t'.state) (ap (grant g.id) is.2.0) same;
          exact = h.exact;
          unused = λ live. h.unused ((twins_share_names s t a.id twins).1 live);
          named = named_grant named;
          kept = kept';
        },
        live_names_count (with_name s.name h.id a.id) (with_name t.name g.id a.id) s'.name t'.name s'.state t'.state
            (is.2.1 a.id (new_name s a.id h.unused))
            (names_granted s s' h.step.0 (rounded s.state.options (sides_of size)) (grant h.id (box_of a.rectangle)) a.id
            (ap (λ (k : State). k.tree) h.step.1.state) h.named h.kept)
            (names_granted t t' same.0 (rounded t.state.options (sides_of size)) g a.id
            (ap (λ (k : State). k.tree) same.1.state) (named_grant named) kept'),
      ),
    )
      where
        is : (b : Grant) × (reply ≡ Allocated b)
            × AnswerAlike s.name t.name s.state s'.state t'.state (Allocated (grant h.id (box_of a.rectangle))) (Allocated b)
        is = granted_too s.name t.name s.state s'.state t'.state (grant h.id (box_of a.rectangle)) reply
            (answers_without_ids s.name t.name s.state t.state s'.state t'.state (atlas.Allocate (sides_of size))
            (atlas.Allocate (sides_of size)) (Allocated (grant h.id (box_of a.rectangle))) reply good.sound good_t.sound twins refl
            h.step step' refl met)

        g : Grant
        g = is.0

        same : Step t.state (atlas.Allocate (sides_of size)) (Allocated g) t'.state
        same = subst (λ x. Step t.state (atlas.Allocate (sides_of size)) x t'.state) is.1 step'

        named_grant : NamesGrant (Allocate size (Some a)) reply t' → t'.name g.id ≡ a.id
        named_grant named = subst (λ x. NamesGrant (Allocate size (Some a)) x t') is.1 named

    freed : (name id : ℕ) → FreesUnder s name s' → IsLive t.state id → t.name id ≡ name
        → Step t.state (atlas.Deallocate id) reply t'.state → Agree s' t t' (Deallocate name) reply
    freed name id h live is step' = (
      ans.0,
      λ kept' named. (
        record { id = id; live = live; named = is; step = same; kept = kept' },
        live_names_count s.name t.name s'.name t'.name s'.state t'.state ans.1
            (names_kept s s' (still_freed s.state s'.state h.id h.step) h.kept)
            (names_kept t t' (still_freed t.state t'.state id same) kept'),
      ),
    )
      where
        ans : (reply ≡ Done) × AreAlike s.name t.name s'.state t'.state
        ans = answers_without_ids s.name t.name s.state t.state s'.state t'.state (atlas.Deallocate h.id)
            (atlas.Deallocate id) Done reply good.sound good_t.sound twins
            (((λ at. live, λ at. h.live)), λ at. is ∙ sym h.named) h.step step' refl met

        same : Step t.state (atlas.Deallocate id) Done t'.state
        same = subst (λ x. Step t.state (atlas.Deallocate id) x t'.state) ans.0 step'

    grew : (size : _) → Leads s (Grow size) s' → Step t.state (atlas.Grow (sides_of size)) reply t'.state
        → Agree s' t t' (Grow size) reply
    grew size (step, kept) step' = (
      ans.0,
      λ kept' named. (
        (same, kept'),
        live_names_count s.name t.name s'.name t'.name s'.state t'.state ans.1
            (names_kept s s' (still_grown s.state s'.state (sides_of size) step) kept)
            (names_kept t t' (still_grown t.state t'.state (sides_of size) same) kept'),
      ),
    )
      where
        ans : (reply ≡ Done) × AreAlike s.name t.name s'.state t'.state
        ans = answers_without_ids s.name t.name s.state t.state s'.state t'.state (atlas.Grow (sides_of size))
            (atlas.Grow (sides_of size)) Done reply good.sound good_t.sound twins refl step step' refl met

        same : Step t.state (atlas.Grow (sides_of size)) Done t'.state
        same = subst (λ x. Step t.state (atlas.Grow (sides_of size)) x t'.state) ans.0 step'

pub twins_answer_alike : TwinsAnswerAlike
twins_answer_alike s s' t t' (Allocate size None) call reply good good_t twins plain h asks step met =
    denied s s' t t' good good_t twins reply met size h (subst (λ c. Step t.state c reply t'.state) asks step)
twins_answer_alike s s' t t' (Allocate size (Some a)) call reply good good_t twins plain h asks step met =
    granted s s' t t' good good_t twins reply met size a h (subst (λ c. Step t.state c reply t'.state) asks step)
twins_answer_alike s s' t t' (Deallocate name) call reply good good_t twins plain h (id, live, is, asks) step met =
    freed s s' t t' good good_t twins reply met name id h live is (subst (λ c. Step t.state c reply t'.state) asks step)
twins_answer_alike s s' t t' (Grow size) call reply good good_t twins plain h asks step met =
    grew s s' t t' good good_t twins reply met size h (subst (λ c. Step t.state c reply t'.state) asks step)
twins_answer_alike s s' t t' (Rearrange list) call reply good good_t twins plain h asks step met = absurd asks
twins_answer_alike s s' t t' (ResizeAndRearrange size list) call reply good good_t twins plain h asks step met = absurd asks

-- An event that leads twins on keeps them so.
pub event_keeps_twins : (s s' t t' : Named) (event : EventValue) → IsNamed s → IsNamed t → AreTwins s t
    → is_plain_event event ≡ true → Leads s event s' → Leads t event t' → AreTwins s' t'
event_keeps_twins s s' t t' (Allocate size None) good good_t twins plain h k =
    ((twins_answer_alike s s' t t' (Allocate size None) (atlas.Allocate (sides_of size)) NoRoom good good_t twins plain h refl
    k.0 refl).1 k.1 tt).1
event_keeps_twins s s' t t' (Allocate size (Some a)) good good_t twins plain h k =
    ((twins_answer_alike s s' t t' (Allocate size (Some a)) (atlas.Allocate (sides_of size))
    (Allocated (grant k.id (box_of a.rectangle))) good good_t twins plain h refl k.step refl).1 k.kept k.named).1
event_keeps_twins s s' t t' (Deallocate name) good good_t twins plain h k =
    ((twins_answer_alike s s' t t' (Deallocate name) (atlas.Deallocate k.id) Done good good_t twins plain h
    (k.id, k.live, k.named, refl) k.step refl).1 k.kept tt).1
event_keeps_twins s s' t t' (Grow size) good good_t twins plain h k =
    ((twins_answer_alike s s' t t' (Grow size) (atlas.Grow (sides_of size)) Done good good_t twins plain h refl k.0 refl).1 k.1 tt).1
event_keeps_twins s s' t t' (Rearrange list) good good_t twins plain h k = absurd (false≢true plain)
event_keeps_twins s s' t t' (ResizeAndRearrange size list) good good_t twins plain h k = absurd (false≢true plain)

pub events_keep_twins : EventsKeepTwins
events_keep_twins s s' t t' [] good good_t twins plain h k = subst₂ AreTwins (sym h) (sym k) twins
events_keep_twins s s' t t' (event ∷ events) good good_t twins plain (mid, h, rest) (mid', k, rest') =
    events_keep_twins mid s' mid' t' events (events_keep_names s mid event good h) (events_keep_names t mid' event good_t k)
    (event_keeps_twins s mid t mid' event good good_t twins (All-head (λ e. is_plain_event e ≡ true) event events plain) h k)
    (All-tail (λ e. is_plain_event e ≡ true) event events plain) rest rest'
