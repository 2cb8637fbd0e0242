-- What each call of a recording allocator keeps: its session stays one.
use Rattle.std.proofs.Common.{◌≡◌, ℕ, add-one, append-nil, ◌+◌, ◌<◌, ◌≤◌, ◌==◌, ◌^◌, eqb, Bool, true, false, get_or, List, [], ◌∷◌, ◌++◌}
use Rattle.std.proofs.Common.{length, refl, ap, sym, subst, ◌∙◌, arith, All, Contains, Some, None}
use Rattle.std.specs.List.{remove}
use Rattle.std.proofs.lemmas.Bool.{eqb-true, eq-eqb}
use Rattle.std.proofs.lemmas.List.{get_or_default}
use Rattle.std.proofs.lemmas.List.Elements.{All-contains, All-push}
use Rattle.std.proofs.lemmas.List.Quantifiers.{all_pairs_push, all_pairs_remove}
use Rattle.guillotiere.specs.declared.Size.{Size}
use Rattle.guillotiere.specs.declared.Allocation.{Allocation}
use Rattle.guillotiere.specs.declared.AllocatorOptions.{AllocatorOptions}
use Rattle.guillotiere.specs.Boxes.{IsPositive}
use Rattle.guillotiere.specs.Choice.{AreValid}
use Rattle.guillotiere.specs.Pixels.{sides_of, options_of}
use Rattle.guillotiere.specs.States.{State, IsLive, started}
use Rattle.guillotiere.specs.Steps as atlas
use Rattle.guillotiere.specs.Steps.{Step}
use Rattle.guillotiere.specs.Laws.StepLaws.{live_count, IsGrantStep, IsFreeingStep}
use Rattle.guillotiere.specs.Replies.{grant_of, IsExact}
use Rattle.guillotiere.specs.Stored.{AtlasValue, state_of}
use Rattle.guillotiere.proofs.ListLemmas.ListCounts.{count_some}
use Rattle.guillotiere.proofs.StepLemmas.SoundSteps.{steps_keep}
use Rattle.guillotiere.proofs.StepLemmas.StepEffects.{grants_lie_inside, freeings_remove_one, growths_keep_boxes}
use Rattle.guillotiere.proofs.TreeLemmas.TreeBasics.{one_if}
use Rattle.guillotiere.proofs.StepLemmas.LiveBoxes.{counted_live, live_counted, few_live}
use Rattle.guillotiere_recording.specs.declared.names.LiveName.{LiveName as Entry}
use Rattle.guillotiere_recording.specs.Events.{EventValue, given_names}
use Rattle.guillotiere_recording.specs.Events.EventValue.{Allocate, Deallocate, Grow, Rearrange, ResizeAndRearrange}
use Rattle.guillotiere_recording.specs.Logs.{RecordingValue, with_event}
use Rattle.guillotiere_recording.specs.Sessions.{Named, IsLiveName, IsNamed, GrantsUnder, FreesUnder, Leads, LeadOn, fresh_session}
use Rattle.guillotiere_recording.specs.Names.{entries_of, name_among, AreLiveIds}
use Rattle.guillotiere_recording.specs.Recordings.{SessionValue, session_of, first_names, LeadsTo, IsRecordedSession}
use Rattle.guillotiere_recording.proofs.Entries.{entry_of, name_of, entries_pushed, name_pushed}
use Rattle.guillotiere_recording.proofs.Entries.{names_pushed, All-removed, names_removed, entries_removed}
use Rattle.guillotiere_recording.proofs.NamedStates.{grant_counts, growth_counts, freed_is_gone, others_stay}
use Rattle.guillotiere_recording.proofs.Books.{sessions_are_named}

-- One event more.

lead_more : (events : List EventValue) (event : EventValue) (old mid new : Named) → LeadOn old events mid
    → Leads mid event new
    → LeadOn old (events ++ event ∷ []) new
lead_more [] event old mid new h more = (new, subst (λ s. Leads s event new) h more, refl)
lead_more (e ∷ events) event old mid new (next, first, rest) more = (next, first, lead_more events event next mid new rest more)

pub recorded_more : (r : RecordingValue) (event : EventValue) (mid new : Named) → LeadsTo r mid → Leads mid event new
    → LeadsTo (with_event event r) new
recorded_more r event mid new h more =
    record {
      nonempty = h.nonempty;
      valid = h.valid;
      name = h.name;
      leads = lead_more r.events event (fresh_session (sides_of r.size) (options_of r.options) h.name) mid new h.leads more;
    }

-- Which names an event gives.
abbrev pub names_in : EventValue → List ℕ
names_in event = given_names (event ∷ [])

pub given_more : (events : List EventValue) (event : EventValue)
    → given_names (events ++ event ∷ []) ≡ given_names events ++ names_in event
given_more [] event = refl
given_more (Allocate size (Some a) ∷ events) event = ap (λ ns. a.id ∷ ns) (given_more events event)
given_more (Allocate size None ∷ events) event = given_more events event
given_more (Deallocate name ∷ events) event = given_more events event
given_more (Grow size ∷ events) event = given_more events event
given_more (Rearrange list ∷ events) event = given_more events event
given_more (ResizeAndRearrange size list ∷ events) event = given_more events event

pub session_named : (v : SessionValue) → IsRecordedSession v → IsNamed (session_of v)
session_named v h =
    sessions_are_named (sides_of v.recording.size) (options_of v.recording.options) v.recording.events (session_of v) h.faithful.leads

-- A new one.

pub new_session : (a : AtlasValue) (ns : List Entry) (r : RecordingValue) (size : Size) (options : AllocatorOptions)
    → IsPositive (sides_of size) → AreValid (options_of options)
    → state_of a ≡ started (sides_of size) (options_of options) 16777216
    → ns ≡ [] → r ≡ record { size = size; options = options; events = [] }
    → IsRecordedSession (record { atlas = a; names = ns; given = 0; recording = r })
new_session a ns r size options nonempty valid state none empty =
    subst (λ ms. IsRecordedSession (record { atlas = a; names = ms; given = 0; recording = r })) (sym none)
    (subst (λ q. IsRecordedSession (record { atlas = a; names = []; given = 0; recording = q })) (sym empty) it)
  where
    it : IsRecordedSession
        (record { atlas = a; names = []; given = 0; recording = record { size = size; options = options; events = [] } })
    it = record {
      faithful = record {
        leads = record {
          nonempty = nonempty;
          valid = valid;
          name = name_among [];
          leads = ap (λ (s : State). let n : Named = record { state = s; name = name_among [] } in n) state;
        };
        given = refl;
      };
      ids = λ id. sym (ap (live_count id) state);
      rising = λ i j d before below. absurd (omega arith);
      below = λ k d below. absurd (omega arith);
      most = omega arith;
    }

-- The same names after an event that gives none.

pub same_session : (v : SessionValue) (a : AtlasValue) (ns : List Entry) (r : RecordingValue) (event : EventValue)
    → IsRecordedSession v
    → ns ≡ v.names → r ≡ with_event event v.recording → names_in event ≡ []
    → Leads (session_of v) event (record { state = state_of a; name = name_among v.names })
    → ((id : ℕ) → live_count id (state_of a) ≡ live_count id (state_of v.atlas))
    → IsRecordedSession (record { atlas = a; names = ns; given = v.given; recording = r })
same_session v a ns r event h names more none leads counts =
    subst (λ ms. IsRecordedSession (record { atlas = a; names = ms; given = v.given; recording = r })) (sym names)
    (subst (λ q. IsRecordedSession (record { atlas = a; names = v.names; given = v.given; recording = q })) (sym more) it)
  where
    it : IsRecordedSession
        (record { atlas = a; names = v.names; given = v.given; recording = with_event event v.recording })
    it = record {
      faithful = record {
        leads = recorded_more v.recording event (session_of v) (record { state = state_of a; name = name_among v.names }) h.faithful.leads
            leads;
        given = given_more v.recording.events event ∙ ap (λ ns. given_names v.recording.events ++ ns) none ∙ append-nil _ ∙
            h.faithful.given;
      };
      ids = λ id. h.ids id ∙ sym (counts id);
      rising = h.rising;
      below = h.below;
      most = h.most;
    }

pub unroomed_session : (v : SessionValue) (a : AtlasValue) (ns : List Entry) (r : RecordingValue) (size : Size)
    → IsRecordedSession v
    → ns ≡ v.names → r ≡ with_event (Allocate size None) v.recording
    → Step (state_of v.atlas) (atlas.Allocate (sides_of size)) atlas.NoRoom (state_of a)
    → IsRecordedSession (record { atlas = a; names = ns; given = v.given; recording = r })
unroomed_session v a ns r size h names more step =
    same_session v a ns r (Allocate size None) h names more refl (step, λ id _ _. refl) (λ id. ap (live_count id) step.1)

pub grown_session : (v : SessionValue) (a : AtlasValue) (ns : List Entry) (r : RecordingValue) (size : Size)
    → IsRecordedSession v
    → ns ≡ v.names → r ≡ with_event (Grow size) v.recording
    → Step (state_of v.atlas) (atlas.Grow (sides_of size)) atlas.Done (state_of a)
    → IsRecordedSession (record { atlas = a; names = ns; given = v.given; recording = r })
grown_session v a ns r size h names more step =
    same_session v a ns r (Grow size) h names more refl (step, λ id _ _. refl)
    (growth_counts (state_of v.atlas) (state_of a)
    (growths_keep_boxes (state_of v.atlas) (state_of a) (sides_of size) (session_named v h).sound step))

-- A grant.

abbrev pub named_entry : (name : ℕ) → Allocation → Entry
named_entry name g = record { name = name; id = g.id }

abbrev pub under : (name : ℕ) → Allocation → Allocation
under name g = record { id = name; rectangle = g.rectangle }

-- A name that is live is below those that are given next.
live_below : (v : SessionValue) (name : ℕ) → IsRecordedSession v → IsLiveName (session_of v) name → name < v.given
live_below v name h (id, live, is) =
    let some : 1 ≤ live_count id (state_of v.atlas) = live_counted (state_of v.atlas) id live in
    let r = entry_of id v.names (subst (λ n. 1 ≤ n) (sym (h.ids id)) some) in
    let few = All-contains (λ (n : Entry). n.name < v.given) v.names r.0 h.below r.1 in
    subst (λ n. n < v.given) (sym r.3 ∙ is) few

pub grants_under : (v : SessionValue) (a : AtlasValue) (size : Size) (g : Allocation) → IsRecordedSession v
    → Step (state_of v.atlas) (atlas.Allocate (sides_of size)) (atlas.Allocated (grant_of g)) (state_of a)
    → IsExact g.rectangle
    → GrantsUnder (session_of v) size (under v.given g)
    (record { state = state_of a; name = name_among (v.names ++ named_entry v.given g ∷ []) })
grants_under v a size g h step exact = record {
  id = g.id;
  step = step;
  exact = exact;
  unused = λ live. let less = live_below v v.given h live in absurd (omega (arith, less));
  named = name_pushed v.names (named_entry v.given g) (h.ids g.id ∙ grant.id);
  kept = λ id old new. names_pushed v.names (named_entry v.given g) id (some id old) (few id);
}
  where
    grant : IsGrantStep (state_of v.atlas) (sides_of size) (grant_of g) (state_of a)
    grant = grants_lie_inside (state_of v.atlas) (state_of a) (sides_of size) (grant_of g) (session_named v h).sound step

    some : (id : ℕ) → IsLive (state_of v.atlas) id → 1 ≤ entries_of id v.names
    some id live = subst (λ n. 1 ≤ n) (sym (h.ids id)) (live_counted (state_of v.atlas) id live)

    few : (id : ℕ) → entries_of id (v.names ++ named_entry v.given g ∷ []) ≤ 1
    few id =
        let e = entries_pushed id v.names (named_entry v.given g) in
        let i = h.ids id in
        let c = grant_counts (state_of v.atlas) (state_of a) (sides_of size) (grant_of g) grant id in
        let sound = steps_keep (state_of v.atlas) (state_of a) (atlas.Allocate (sides_of size)) (atlas.Allocated (grant_of g))
        (session_named v h).sound step in
        let one = few_live (state_of a) id sound in
        omega (arith, e, i, c, one)

pub granted_session : (v : SessionValue) (a : AtlasValue) (ns : List Entry) (r : RecordingValue) (size : Size)
    (g : Allocation)
    → IsRecordedSession v → v.given < 2 ^ 32
    → Step (state_of v.atlas) (atlas.Allocate (sides_of size)) (atlas.Allocated (grant_of g)) (state_of a)
    → IsExact g.rectangle
    → ns ≡ v.names ++ named_entry v.given g ∷ [] → r ≡ with_event (Allocate size (Some (under v.given g))) v.recording
    → IsRecordedSession (record { atlas = a; names = ns; given = v.given + 1; recording = r })
granted_session v a ns r size g h room step exact names more =
    subst (λ ms. IsRecordedSession (record { atlas = a; names = ms; given = v.given + 1; recording = r })) (sym names)
    (subst (λ q. IsRecordedSession (record { atlas = a; names = all; given = v.given + 1; recording = q })) (sym more) it)
  where
    all : List Entry
    all = v.names ++ named_entry v.given g ∷ []

    event : EventValue
    event = Allocate size (Some (under v.given g))

    now : Named
    now = record { state = state_of a; name = name_among (v.names ++ named_entry v.given g ∷ []) }

    grant : IsGrantStep (state_of v.atlas) (sides_of size) (grant_of g) (state_of a)
    grant = grants_lie_inside (state_of v.atlas) (state_of a) (sides_of size) (grant_of g) (session_named v h).sound step

    counted : (id : ℕ) → entries_of id (v.names ++ named_entry v.given g ∷ []) ≡ live_count id (state_of a)
    counted id =
        let e = entries_pushed id v.names (named_entry v.given g) in
        let i = h.ids id in
        let c = grant_counts (state_of v.atlas) (state_of a) (sides_of size) (grant_of g) grant id in
        omega (arith, e, i, c)

    names_given : given_names (v.recording.events ++ event ∷ []) ≡ first_names (v.given + 1)
    names_given =
        given_more v.recording.events event ∙ ap (λ ns. ns ++ v.given ∷ []) h.faithful.given ∙ sym (ap first_names (add-one v.given))

    it : IsRecordedSession
        (record { atlas = a; names = v.names ++ named_entry v.given g ∷ []; given = v.given + 1; recording = with_event event v.recording })
    it = record {
      faithful = record {
        leads = recorded_more v.recording event (session_of v) now h.faithful.leads (grants_under v a size g h step exact);
        given = names_given;
      };
      ids = counted;
      rising = all_pairs_push (λ (m n : Entry). m.name < n.name) v.names (named_entry v.given g) h.rising (λ k d below. h.below k d below);
      below = All-push (λ (n : Entry). n.name < v.given + 1) v.names (named_entry v.given g)
          (λ k d below. let less = h.below k d below in omega (arith, less)) (omega arith);
      most = omega (arith, room);
    }

-- A freeing.

freed_counts : (v : SessionValue) (a : AtlasValue) (at : ℕ) (d : Entry) → IsRecordedSession v → at < length v.names
    → Step (state_of v.atlas) (atlas.Deallocate (get_or v.names at d).id) atlas.Done (state_of a)
    → (id : ℕ) → entries_of id (remove v.names at) ≡ live_count id (state_of a)
freed_counts v a at d h below step id = by_test (eqb (get_or v.names at d).id id) refl
  where
    freed : ℕ
    freed = (get_or v.names at d).id

    gone : IsFreeingStep (state_of v.atlas) (get_or v.names at d).id (state_of a)
    gone = freeings_remove_one (state_of v.atlas) (state_of a) (get_or v.names at d).id (session_named v h).sound step

    by_test : (b : Bool) → eqb (get_or v.names at d).id id ≡ b
        → entries_of id (remove v.names at) ≡ live_count id (state_of a)
    by_test true is =
        let less = entries_removed id v.names at d below in
        let one : one_if (eqb (get_or v.names at d).id id) ≡ 1 = ap one_if is in
        let i = h.ids id in
        let only = few_live (state_of v.atlas) id (session_named v h).sound in
        let none = freed_is_gone (state_of v.atlas) (state_of a) (get_or v.names at d).id gone in
        let none_here : live_count id (state_of a) ≡ 0 = subst (λ k. live_count k (state_of a) ≡ 0)
        (eqb-true (get_or v.names at d).id id is) none in
        omega (arith, less, one, i, only, none_here)
    by_test false is =
        let less = entries_removed id v.names at d below in
        let one : one_if (eqb (get_or v.names at d).id id) ≡ 0 = ap one_if is in
        let i = h.ids id in
        let same = others_stay (state_of v.atlas) (state_of a) (get_or v.names at d).id gone id is in
        omega (arith, less, one, i, same)

pub frees_under : (v : SessionValue) (a : AtlasValue) (at : ℕ) (d : Entry) → IsRecordedSession v → at < length v.names
    → Step (state_of v.atlas) (atlas.Deallocate (get_or v.names at d).id) atlas.Done (state_of a)
    → FreesUnder (session_of v) (get_or v.names at d).name (record { state = state_of a; name = name_among (remove v.names at) })
frees_under v a at d h below step = record {
  id = (get_or v.names at d).id;
  live = step.0;
  named = name_of (get_or v.names at d).id v.names (get_or v.names at d) (few (get_or v.names at d).id) here refl;
  step = step;
  kept = λ id old new. names_removed v.names at id (some id new) (few id);
}
  where
    here : Contains v.names (get_or v.names at d)
    here = (at, below, get_or_default v.names at (get_or v.names at d) d below)

    few : (id : ℕ) → entries_of id v.names ≤ 1
    few id = let one = few_live (state_of v.atlas) id (session_named v h).sound in let i = h.ids id in omega (arith, one, i)

    some : (id : ℕ) → IsLive (state_of a) id → 1 ≤ entries_of id (remove v.names at)
    some id live = subst (λ n. 1 ≤ n) (sym (freed_counts v a at d h below step id)) (live_counted (state_of a) id live)

pub freed_session : (v : SessionValue) (a : AtlasValue) (ns : List Entry) (r : RecordingValue) (at : ℕ) (d : Entry)
    (name : ℕ)
    → IsRecordedSession v → at < length v.names → (get_or v.names at d).name ≡ name
    → Step (state_of v.atlas) (atlas.Deallocate (get_or v.names at d).id) atlas.Done (state_of a)
    → ns ≡ remove v.names at → r ≡ with_event (Deallocate name) v.recording
    → IsRecordedSession (record { atlas = a; names = ns; given = v.given; recording = r })
freed_session v a ns r at d name h below is step names more =
    subst (λ ms. IsRecordedSession (record { atlas = a; names = ms; given = v.given; recording = r })) (sym names)
    (subst (λ q. IsRecordedSession (record { atlas = a; names = remove v.names at; given = v.given; recording = q })) (sym more) it)
  where
    it : IsRecordedSession
        (record { atlas = a; names = remove v.names at; given = v.given; recording = with_event (Deallocate name) v.recording })
    it = record {
      faithful = record {
        leads = recorded_more v.recording (Deallocate name) (session_of v)
            (record { state = state_of a; name = name_among (remove v.names at) }) h.faithful.leads
            (subst (λ n. FreesUnder (session_of v) n (record { state = state_of a; name = name_among (remove v.names at) })) is
            (frees_under v a at d h below step));
        given = given_more v.recording.events (Deallocate name) ∙ append-nil _ ∙ h.faithful.given;
      };
      ids = freed_counts v a at d h below step;
      rising = all_pairs_remove (λ (m n : Entry). m.name < n.name) v.names at below h.rising;
      below = All-removed (λ (n : Entry). n.name < v.given) v.names at h.below;
      most = h.most;
    }

-- Live names are those of the entries.

pub entry_is_live : (v : SessionValue) (n : Entry) → IsRecordedSession v → Contains v.names n
    → IsLiveName (session_of v) n.name
entry_is_live v n h at =
    let some : 1 ≤ entries_of n.id v.names = count_some (λ (m : Entry). m.id == n.id) v.names n at (eq-eqb n.id n.id refl) in
    let one = few_live (state_of v.atlas) n.id (session_named v h).sound in
    let i = h.ids n.id in
    let live : IsLive (state_of v.atlas) n.id = counted_live (state_of v.atlas) n.id (subst (λ k. 1 ≤ k) i some) in
    (n.id, live, name_of n.id v.names n (omega (arith, one, i)) at refl)

pub live_has_entry : (v : SessionValue) (name : ℕ) → IsRecordedSession v → IsLiveName (session_of v) name
    → (n : Entry) × Contains v.names n × (n.name ≡ name)
live_has_entry v name h (id, live, is) =
    let some : 1 ≤ live_count id (state_of v.atlas) = live_counted (state_of v.atlas) id live in
    let r = entry_of id v.names (subst (λ n. 1 ≤ n) (sym (h.ids id)) some) in
    (r.0, r.1, sym r.3 ∙ is)

-- The same where the entry's name and id are at hand.

abbrev pub entry : (name id : ℕ) → Entry
entry name id = record { name = name; id = id }

freeing_at : (v : SessionValue) (a : AtlasValue) (at name id : ℕ) → get_or v.names at (entry name id) ≡ entry name id
    → Step (state_of v.atlas) (atlas.Deallocate id) atlas.Done (state_of a)
    → Step (state_of v.atlas) (atlas.Deallocate (get_or v.names at (entry name id)).id) atlas.Done (state_of a)
freeing_at v a at name id is step =
    subst (λ k. Step (state_of v.atlas) (atlas.Deallocate k) atlas.Done (state_of a)) (sym (ap (λ (n : Entry). n.id) is)) step

pub frees_name : (v : SessionValue) (a : AtlasValue) (at name id : ℕ) → IsRecordedSession v → at < length v.names
    → get_or v.names at (entry name id) ≡ entry name id
    → Step (state_of v.atlas) (atlas.Deallocate id) atlas.Done (state_of a)
    → FreesUnder (session_of v) name (record { state = state_of a; name = name_among (remove v.names at) })
frees_name v a at name id h below is step =
    subst (λ n. FreesUnder (session_of v) n (record { state = state_of a; name = name_among (remove v.names at) }))
    (ap (λ (n : Entry). n.name) is)
    (frees_under v a at (entry name id) h below (freeing_at v a at name id is step))

pub freed_name : (v : SessionValue) (a : AtlasValue) (ns : List Entry) (r : RecordingValue) (at name id : ℕ)
    → IsRecordedSession v
    → at < length v.names → get_or v.names at (entry name id) ≡ entry name id
    → Step (state_of v.atlas) (atlas.Deallocate id) atlas.Done (state_of a)
    → ns ≡ remove v.names at → r ≡ with_event (Deallocate name) v.recording
    → IsRecordedSession (record { atlas = a; names = ns; given = v.given; recording = r })
freed_name v a ns r at name id h below is step names more =
    freed_session v a ns r at (entry name id) name h below (ap (λ (n : Entry). n.name) is) (freeing_at v a at name id is step) names more

pub found_is_live : (v : SessionValue) (at name id : ℕ) → IsRecordedSession v → at < length v.names
    → get_or v.names at (entry name id) ≡ entry name id → IsLiveName (session_of v) name × IsLive (state_of v.atlas) id
found_is_live v at name id h below is =
    let there : Contains v.names (entry name id) = (at, below, is) in
    let some : 1 ≤ entries_of id v.names = count_some (λ (m : Entry). m.id == id) v.names (entry name id) there (eq-eqb id id refl) in
    (entry_is_live v (entry name id) h there, counted_live (state_of v.atlas) id (subst (λ k. 1 ≤ k) (h.ids id) some))

pub missing_is_not_live : (v : SessionValue) (name : ℕ) → IsRecordedSession v
    → All (λ (n : Entry). n.name ≡ name → ⊥) v.names
    → IsLiveName (session_of v) name → ⊥
missing_is_not_live v name h none live =
    let r = live_has_entry v name h live in
    All-contains (λ (n : Entry). n.name ≡ name → ⊥) v.names r.0 none r.1 r.2

-- The same of a value that is known by its fields, and of names that are known to be these.

pub led_by_freeing : (v w : SessionValue) (a : AtlasValue) (ns : List Entry) (at name called id : ℕ) → v ≡ w
    → name ≡ called
    → ns ≡ remove v.names at → IsRecordedSession v → at < length v.names
    → get_or v.names at (entry name id) ≡ entry name id
    → Step (state_of v.atlas) (atlas.Deallocate id) atlas.Done (state_of a)
    → FreesUnder (session_of w) called (record { state = state_of a; name = name_among ns })
led_by_freeing v w a ns at name called id value names left h below is step =
    subst (λ u. FreesUnder (session_of u) called (record { state = state_of a; name = name_among ns })) value
    (subst (λ n. FreesUnder (session_of v) n (record { state = state_of a; name = name_among ns })) names
    (subst (λ ms. FreesUnder (session_of v) name (record { state = state_of a; name = name_among ms })) (sym left)
    (frees_name v a at name id h below is step)))

pub led_by_grant : (v w : SessionValue) (a : AtlasValue) (ns : List Entry) (size : Size) (g answer : Allocation) → v ≡ w
    → ns ≡ v.names ++ named_entry v.given g ∷ [] → answer ≡ under v.given g → IsRecordedSession v
    → Step (state_of v.atlas) (atlas.Allocate (sides_of size)) (atlas.Allocated (grant_of g)) (state_of a)
    → IsExact g.rectangle
    → GrantsUnder (session_of w) size answer (record { state = state_of a; name = name_among ns })
led_by_grant v w a ns size g answer value more said h step exact =
    subst (λ u. GrantsUnder (session_of u) size answer (record { state = state_of a; name = name_among ns })) value
    (subst (λ x. GrantsUnder (session_of v) size x (record { state = state_of a; name = name_among ns })) (sym said)
    (subst (λ ms. GrantsUnder (session_of v) size (under v.given g) (record { state = state_of a; name = name_among ms })) (sym more)
    (grants_under v a size g h step exact)))

-- Another atlas in the same state.
pub same_state : (v : SessionValue) (a : AtlasValue) → state_of a ≡ state_of v.atlas → IsRecordedSession v
    → IsRecordedSession (record v { atlas = a })
same_state v a same h =
    record {
      faithful = record {
        leads = subst (λ (s : State). LeadsTo v.recording (record { state = s; name = name_among v.names })) (sym same) h.faithful.leads;
        given = h.faithful.given;
      };
      ids = subst (λ (s : State). AreLiveIds s v.names) (sym same) h.ids;
      rising = h.rising;
      below = h.below;
      most = h.most;
    }
