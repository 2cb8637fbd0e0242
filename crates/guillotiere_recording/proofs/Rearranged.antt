-- A rearranging under names keeps a session.
use Rattle.std.proofs.Common.{◌≡◌, ℕ, append-nil, ◌<◌, ◌≤◌, ◌==◌, ◌⊎◌, inl, inr, Bool, true, false, get_or, List, [], ◌∷◌, ◌++◌}
use Rattle.std.proofs.Common.{length, map, refl, ap, sym, subst, ◌∙◌, arith, All, Contains}
use Rattle.std.specs.List.{count_by}
use Rattle.std.specs.List.Sorted.{IsNonDecreasingBy}
use Rattle.std.proofs.lemmas.Bool.{eqb-true, eq-eqb, cases_lt}
use Rattle.std.proofs.lemmas.List.{get_or_default}
use Rattle.std.proofs.lemmas.List.Elements.{All-contains, All-map, Contains-append_right}
use Rattle.std.proofs.lemmas.List.Sorted.{All-permutation, Contains-permutation}
use Rattle.guillotiere.specs.declared.Allocation.{Allocation}
use Rattle.guillotiere.specs.declared.Change.{Change}
use Rattle.guillotiere.specs.declared.ChangeList.{ChangeList}
use Rattle.guillotiere.specs.Trees.{Grant}
use Rattle.guillotiere.specs.States.{State, IsLive, live_in}
use Rattle.guillotiere.specs.Steps as atlas
use Rattle.guillotiere.specs.Steps.{AtlasCall, Step}
use Rattle.guillotiere.specs.Laws.StepLaws.{live_count, IsRearrangingStep}
use Rattle.guillotiere.specs.Refits.{Transfer}
use Rattle.guillotiere.specs.Renaming.{renamed_grant}
use Rattle.guillotiere.specs.Replies.{grant_of, IsExact}
use Rattle.guillotiere.specs.Rearranging.{transfer_of, rearrangement_of, IsExactChange, AreExactChanges}
use Rattle.guillotiere.specs.Stored.{AtlasValue, state_of}
use Rattle.guillotiere.proofs.ListLemmas.ListCounts.{count_by-cons, count_by-append, count_some, split_at}
use Rattle.guillotiere.proofs.StepLemmas.SoundSteps.{steps_keep}
use Rattle.guillotiere.proofs.StepLemmas.StepEffects.{rearrangings_lose_nothing}
use Rattle.guillotiere.proofs.TreeLemmas.TreeBasics.{one_if}
use Rattle.guillotiere.proofs.TreeLemmas.TreeIds.{Contains-first, Contains-later}
use Rattle.guillotiere.proofs.ListLemmas.CallerLemmas.{Contains-map, count_by-permutation}
use Rattle.guillotiere.proofs.StepLemmas.LiveBoxes.{counted_live, few_live}
use Rattle.guillotiere.proofs.SimpleLemmas.ApartCrossings.{count_two}
use Rattle.guillotiere_recording.specs.declared.names.LiveName.{LiveName as Entry}
use Rattle.guillotiere_recording.specs.declared.moves.Moved.{Moved}
use Rattle.guillotiere_recording.specs.Events.{EventValue, list_value_of, given_names}
use Rattle.guillotiere_recording.specs.Logs.{RecordingValue, with_event}
use Rattle.guillotiere_recording.specs.Sessions.{renamed_transfer, RearrangesUnder, Leads}
use Rattle.guillotiere_recording.specs.Names.{AreRisingNames, entries_of, name_among}
use Rattle.guillotiere_recording.specs.Moves.{change_under, failure_under, entry_under, AreEntered, IsMoved}
use Rattle.guillotiere_recording.specs.Recordings.{SessionValue, session_of, IsRecordedSession}
use Rattle.guillotiere_recording.specs.Kept.{IsSessionKept}
use Rattle.guillotiere_recording.proofs.Counts.{count_map}
use Rattle.guillotiere_recording.proofs.Entries.{entry_of, name_of}
use Rattle.guillotiere_recording.proofs.NamedStates.{moved_from}
use Rattle.guillotiere_recording.proofs.RecordedSessions.{session_named, recorded_more, given_more, names_in}

-- What each session keeps.
pub kept_of : (v : SessionValue) → IsRecordedSession v → IsSessionKept v
kept_of v h = record { ids = h.ids; named = session_named v h }

-- Lists

pub map_twice : {X Y Z : Type 0} (f : Y → Z) (g : X → Y) (xs : List X) → map f (map g xs) ≡ map (λ x. f (g x)) xs
map_twice f g [] = refl
map_twice f g (x ∷ xs) = ap (λ ys. f (g x) ∷ ys) (map_twice f g xs)

count_weaker_in : {X : Type 0} (p q : X → Bool) (xs : List X) → ((x : X) → Contains xs x → p x ≡ true → q x ≡ true)
    → count_by p xs ≤ count_by q xs
count_weaker_in p q [] w = omega arith
count_weaker_in p q (x ∷ xs) w =
    let rest = count_weaker_in p q xs (λ y at is. w y (Contains-later x xs y at) is) in
    let a = count_by-cons p x xs in
    let b = count_by-cons q x xs in
    let here : one_if (p x) ≤ one_if (q x) = by_test (p x) refl in
    omega (arith, rest, a, b, here)
  where
    by_test : (b : Bool) → p x ≡ b → one_if b ≤ one_if (q x)
    by_test true is = rw (w x (Contains-first x xs) is) (omega arith)
    by_test false is = omega arith

pub strictly : (ns : List Entry) → IsNonDecreasingBy (λ (n : Entry). n.name) ns
    → ((name : ℕ) → count_by (λ (n : Entry). n.name == name) ns ≤ 1) → AreRisingNames ns
strictly ns order once i j d less below = by_place (cases_lt (get_or ns i d).name (get_or ns j d).name)
  where
    by_place : ((get_or ns i d).name < (get_or ns j d).name) ⊎ ((get_or ns j d).name ≤ (get_or ns i d).name)
        → (get_or ns i d).name < (get_or ns j d).name
    by_place (inl low) = low
    by_place (inr high) =
        let up : (get_or ns i d).name ≤ (get_or ns j d).name = order i j d (omega arith) below in
        let same : (get_or ns i d).name ≡ (get_or ns j d).name = omega (arith, up, high) in
        let two = count_two (λ (n : Entry). n.name == (get_or ns j d).name) ns i j d less below (eq-eqb _ _ same) (eq-eqb _ _ refl) in
        let one = once (get_or ns j d).name in
        absurd (omega (arith, two, one))

-- What was live has entries.

pub all_entered : {A : Type 0} (v : SessionValue) (new : State) (answer : ChangeList A) (asked : AtlasCall)
    → IsSessionKept v
    → Step (state_of v.atlas) asked (atlas.Changed (rearrangement_of answer)) new
    → AreEntered v.names answer.changes.items answer.failures.items
all_entered v new answer asked h step = record {
  changed = λ k d below. changed k d below;
  failed = λ k d below. failed k d below;
  once = λ id. (let one = few_live (state_of v.atlas) id h.named.sound in let i = h.ids id in omega (arith, one, i));
}
  where
    moves : IsRearrangingStep (state_of v.atlas) (rearrangement_of answer) new
    moves = rearrangings_lose_nothing (state_of v.atlas) new asked (rearrangement_of answer) h.named.sound step

    changed : (k : ℕ) (d : Change) → k < length answer.changes.items
        → 1 ≤ entries_of (get_or answer.changes.items k d).old.id v.names
    changed k d below =
        let c : Change = get_or answer.changes.items k d in
        let i = h.ids c.old.id in
        let few = moved_from (state_of v.atlas) new (rearrangement_of answer) moves c.old.id in
        let all = count_map transfer_of (λ (t : Transfer). t.old.id == c.old.id) answer.changes.items in
        let some = count_some (λ (x : Change). x.old.id == c.old.id) answer.changes.items c
        (k, below, get_or_default answer.changes.items k c d below) (eq-eqb _ _ refl) in
        omega (arith, i, few, all, some)

    failed : (k : ℕ) (d : Allocation) → k < length answer.failures.items
        → 1 ≤ entries_of (get_or answer.failures.items k d).id v.names
    failed k d below =
        let x : Allocation = get_or answer.failures.items k d in
        let p : Grant → Bool = λ g. g.id == x.id in
        let i = h.ids x.id in
        let a = count_by-permutation p (live_in (state_of v.atlas)) (map (λ (t : Transfer). t.old) (rearrangement_of answer).changes ++
        (rearrangement_of answer).failures) moves.before in
        let b = count_by-append p (map (λ (t : Transfer). t.old) (rearrangement_of answer).changes) (rearrangement_of answer).failures in
        let c = count_map grant_of p answer.failures.items in
        let some = count_some (λ (y : Allocation). y.id == x.id) answer.failures.items x
        (k, below, get_or_default answer.failures.items k x d below) (eq-eqb _ _ refl) in
        omega (arith, i, a, b, c, some)

-- The new entries are those of what is live now.
pub entered_anew : {A : Type 0} (v : SessionValue) (new : State) (answer : ChangeList A) (m : Moved A)
    (asked : AtlasCall)
    → IsSessionKept v
    → Step (state_of v.atlas) asked (atlas.Changed (rearrangement_of answer)) new → IsMoved v.names answer m
    → (id : ℕ) → entries_of id m.names.items ≡ live_count id new
entered_anew v new answer m asked h step moved id =
    let moves = rearrangings_lose_nothing (state_of v.atlas) new asked (rearrangement_of answer) h.named.sound step in
    let f = name_among v.names in
    let p : Grant → Bool = λ g. g.id == id in
    let a = count_by-permutation (λ (n : Entry). n.id == id) (map (entry_under f) answer.changes.items) m.names.items moved.entries in
    let b = count_map (entry_under f) (λ (n : Entry). n.id == id) answer.changes.items in
    let c = count_by-permutation p (live_in new) (map (λ (t : Transfer). t.new) (rearrangement_of answer).changes) moves.after in
    let d = count_map (λ (t : Transfer). t.new) p (rearrangement_of answer).changes in
    let e = count_map transfer_of (λ (t : Transfer). t.new.id == id) answer.changes.items in
    omega (arith, a, b, c, d, e)

pub rearranges_under : {A : Type 0} (v : SessionValue) (a : AtlasValue) (answer : ChangeList A) (m : Moved A)
    (asked : AtlasCall)
    → IsSessionKept v
    → Step (state_of v.atlas) asked (atlas.Changed (rearrangement_of answer)) (state_of a) → AreExactChanges answer
    → IsMoved v.names answer m → ((id : ℕ) → live_count id (state_of a) ≤ 1)
    → RearrangesUnder (session_of v) asked (list_value_of m.list) (record { state = state_of a; name = name_among m.names.items })
rearranges_under v a answer m asked h step exact moved few =
    let f = name_among v.names in
    record {
      answer = rearrangement_of answer;
      step = step;
      exact_changes = subst (λ xs. All IsExactChange xs) (sym moved.changes)
          (All-map IsExactChange (change_under f) answer.changes.items exact.changes);
      exact_failures = subst (λ xs. All (λ (x : Allocation). IsExact x.rectangle) xs) (sym moved.failures)
          (All-map (λ (x : Allocation). IsExact x.rectangle) (failure_under f) answer.failures.items exact.failures);
      changes = ap (map transfer_of) moved.changes ∙ map_twice transfer_of (change_under f) answer.changes.items
          ∙ sym (map_twice (renamed_transfer f) transfer_of answer.changes.items);
      failures = ap (map grant_of) moved.failures ∙ map_twice grant_of (failure_under f) answer.failures.items
          ∙ sym (map_twice (renamed_grant f) grant_of answer.failures.items);
      kept = All-map (λ (t : Transfer). name_among m.names.items t.new.id ≡ name_among v.names t.old.id) transfer_of answer.changes.items
          kept;
    }
  where
    kept : (k : ℕ) (d : Change) → k < length answer.changes.items
        → name_among m.names.items (get_or answer.changes.items k d).new.id ≡ name_among v.names (get_or answer.changes.items k d).old.id
    kept k d below =
        let c : Change = get_or answer.changes.items k d in
        let there = Contains-permutation (map (entry_under (name_among v.names)) answer.changes.items) m.names.items
        (entry_under (name_among v.names) c) moved.entries
        (Contains-map (entry_under (name_among v.names)) answer.changes.items c
        (k, below, get_or_default answer.changes.items k c d below)) in
        let e = entered_anew v (state_of a) answer m asked h step moved c.new.id in
        let one = few c.new.id in
        name_of c.new.id m.names.items (entry_under (name_among v.names) c) (omega (arith, e, one)) there refl

-- What is live after a rearranging is live once.
pub once_after : {A : Type 0} (v : SessionValue) (new : State) (answer : ChangeList A) (asked : AtlasCall)
    → IsSessionKept v
    → Step (state_of v.atlas) asked (atlas.Changed (rearrangement_of answer)) new → (id : ℕ) → live_count id new ≤ 1
once_after v new answer asked h step id =
    few_live new id
    (steps_keep (state_of v.atlas) new asked (atlas.Changed (rearrangement_of answer)) h.named.sound step)

-- Names stay apart.
pub names_apart : {A : Type 0} (v : SessionValue) (new : State) (answer : ChangeList A) (m : Moved A)
    (asked : AtlasCall)
    → IsSessionKept v
    → Step (state_of v.atlas) asked (atlas.Changed (rearrangement_of answer)) new → IsMoved v.names answer m
    → (name : ℕ) → count_by (λ (n : Entry). n.name == name) m.names.items ≤ 1
names_apart v new answer m asked h step moved name =
    let a = count_by-permutation (λ (n : Entry). n.name == name) (map (entry_under (name_among v.names)) answer.changes.items) m.names.items
    moved.entries in
    let b = count_map (entry_under (name_among v.names)) (λ (n : Entry). n.name == name) answer.changes.items in
    let few = by_count (cases_lt 0 (count_by (λ (c : Change). name_among v.names c.old.id == name) answer.changes.items)) in
    omega (arith, a, b, few)
  where
    moves : IsRearrangingStep (state_of v.atlas) (rearrangement_of answer) new
    moves = rearrangings_lose_nothing (state_of v.atlas) new asked (rearrangement_of answer) h.named.sound step

    live : (c : Change) → Contains answer.changes.items c → IsLive (state_of v.atlas) c.old.id
    live c at =
        let few = moved_from (state_of v.atlas) new (rearrangement_of answer) moves c.old.id in
        let all = count_map transfer_of (λ (t : Transfer). t.old.id == c.old.id) answer.changes.items in
        let some = count_some (λ (x : Change). x.old.id == c.old.id) answer.changes.items c at (eq-eqb _ _ refl) in
        counted_live (state_of v.atlas) c.old.id (omega (arith, few, all, some))

    by_count : (0 < count_by (λ (c : Change). name_among v.names c.old.id == name) answer.changes.items)
        ⊎ (count_by (λ (c : Change). name_among v.names c.old.id == name) answer.changes.items ≤ 0)
        → count_by (λ (c : Change). name_among v.names c.old.id == name) answer.changes.items ≤ 1
    by_count (inr none) = omega (arith, none)
    by_count (inl some) =
        let s = split_at (λ (c : Change). name_among v.names c.old.id == name) answer.changes.items (omega (arith, some)) in
        let there : Contains (s.before ++ s.here ∷ s.after) s.here =
        Contains-append_right s.before (s.here ∷ s.after) s.here (Contains-first s.here s.after) in
        let at : Contains answer.changes.items s.here = subst (λ cs. Contains cs s.here) (sym s.is) there in
        let few = count_weaker_in (λ (c : Change). name_among v.names c.old.id == name) (λ (c : Change). c.old.id == s.here.old.id)
        answer.changes.items
        (λ c in_it is. eq-eqb _ _ (h.named.names c.old.id s.here.old.id (live c in_it) (live s.here at)
        (eqb-true _ _ is ∙ sym (eqb-true _ _ s.passes)))) in
        let all = count_map transfer_of (λ (t : Transfer). t.old.id == s.here.old.id) answer.changes.items in
        let from = moved_from (state_of v.atlas) new (rearrangement_of answer) moves s.here.old.id in
        let one = few_live (state_of v.atlas) s.here.old.id h.named.sound in
        omega (arith, few, all, from, one)

pub rearranged_session : {A : Type 0} (v : SessionValue) (a : AtlasValue) (ns : List Entry) (r : RecordingValue)
    (answer : ChangeList A) (m : Moved A)
    (asked : AtlasCall) (event : EventValue) → IsRecordedSession v
    → Step (state_of v.atlas) asked (atlas.Changed (rearrangement_of answer)) (state_of a) → IsMoved v.names answer m
    → ns ≡ m.names.items → r ≡ with_event event v.recording → names_in event ≡ []
    → Leads (session_of v) event (record { state = state_of a; name = name_among m.names.items })
    → IsRecordedSession (record { atlas = a; names = ns; given = v.given; recording = r })
rearranged_session v a ns r answer m asked event h step moved names more none leads =
    subst (λ ms. IsRecordedSession (record { atlas = a; names = ms; given = v.given; recording = r })) (sym names)
    (subst (λ q. IsRecordedSession (record { atlas = a; names = m.names.items; given = v.given; recording = q })) (sym more) it)
  where
    low : (k : ℕ) (d : Change) → k < length answer.changes.items
        → name_among v.names (get_or answer.changes.items k d).old.id < v.given
    low k d below =
        let e = all_entered v (state_of a) answer asked (kept_of v h) step in
        let n = entry_of (get_or answer.changes.items k d).old.id v.names (e.changed k d below) in
        subst (λ x. x < v.given) (sym n.3) (All-contains (λ (x : Entry). x.name < v.given) v.names n.0 h.below n.1)

    it : IsRecordedSession
        (record { atlas = a; names = m.names.items; given = v.given; recording = with_event event v.recording })
    it = record {
      faithful = record {
        leads = recorded_more v.recording event (session_of v) (record { state = state_of a; name = name_among m.names.items })
            h.faithful.leads leads;
        given = given_more v.recording.events event ∙ ap (λ xs. given_names v.recording.events ++ xs) none ∙ append-nil _ ∙
            h.faithful.given;
      };
      ids = entered_anew v (state_of a) answer m asked (kept_of v h) step moved;
      rising = strictly m.names.items moved.sorted (names_apart v (state_of a) answer m asked (kept_of v h) step moved);
      below = All-permutation (λ (x : Entry). x.name < v.given) (map (entry_under (name_among v.names)) answer.changes.items) m.names.items
          moved.entries
          (All-map (λ (x : Entry). x.name < v.given) (entry_under (name_among v.names)) answer.changes.items low);
      most = h.most;
    }
