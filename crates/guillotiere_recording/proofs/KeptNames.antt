-- A rearranging in a replay: the names that a map keeps, before and after it.
use Rattle.std.proofs.Common.{◌≡◌, ℕ, ◌+◌, ◌<◌, ◌≤◌, ◌==◌, ◌⊎◌, inl, inr, false, List, [], ◌∷◌, ◌++◌, length, take, get_or, refl, ap, sym}
use Rattle.std.proofs.Common.{subst, ◌∙◌, zero-add, arith, All, Contains, Some, pos}
use Rattle.std.specs.List.{count_by}
use Rattle.std.specs.Ordering.{nat_cmp}
use Rattle.std.specs.BTreeMap.{get, Updates, IsOrdered}
use Rattle.std.proofs.lemmas.Bool.{eq-eqb, ne_eqb, cases_eq, cases_lt}
use Rattle.std.proofs.lemmas.List.{take_more, get_or-take, get_or_default, length-take-le}
use Rattle.std.proofs.lemmas.List.Elements.{All-contains, All-map, Contains-push, Contains-push_cases, Contains-append_left}
use Rattle.guillotiere.specs.declared.Size.{Size}
use Rattle.guillotiere.specs.declared.AllocatorOptions.{AllocatorOptions}
use Rattle.guillotiere.specs.States.{State, IsLive, IsSound}
use Rattle.guillotiere.specs.Laws.StepLaws.{live_count}
use Rattle.guillotiere.specs.Stored.{AtlasValue}
use Rattle.guillotiere.proofs.ListLemmas.ListCounts.{count_by-cons}
use Rattle.guillotiere.proofs.StepLemmas.LiveBoxes.{counted_live, live_counted, few_live}
use Rattle.guillotiere_recording.specs.declared.names.LiveName.{LiveName as Entry}
use Rattle.guillotiere_recording.specs.Logs.{RecordingValue}
use Rattle.guillotiere_recording.specs.Names.{AreRisingNames, entries_of, name_among}
use Rattle.guillotiere_recording.specs.Kept.{IsSessionKept, entry_in, entries_in, HasEntries}
use Rattle.guillotiere_recording.specs.Recordings.{SessionValue}
use Rattle.guillotiere_recording.specs.Sessions.{Named}
use Rattle.guillotiere_recording.specs.Standing.{Names, ShowsNamed}
use Rattle.guillotiere_recording.proofs.Counts.{count_map, count_alike}
use Rattle.guillotiere_recording.proofs.Entries.{entry_of}
use Rattle.guillotiere_recording.proofs.ReplaySteps.{at_other, one_id}
use Rattle.guillotiere_recording.proofs.ReplayEnds.{IsFound, keys_counted, how_many}

-- One entry more in a map.

pub has_more : (es : List Entry) (i : ℕ) (n : Entry) (names left : Names) → AreRisingNames es → i < length es
    → n ≡ get_or es i n
    → HasEntries (take i es) names → Updates nat_cmp names left n.name (Some n.id) → HasEntries (take (i + 1) es) left
has_more es i n names left rising low is has updates name id = (
  λ found. subst (λ xs. Contains xs (entry_in (name, id))) (sym next) (by_name (cases_eq name n.name) found),
  λ at. by_place (Contains-push_cases (take i es) n (entry_in (name, id)) (subst (λ xs. Contains xs (entry_in (name, id))) next at)),
)
  where
    next : take (i + 1) es ≡ take i es ++ n ∷ []
    next = take_more es i n low ∙ ap (λ e. take i es ++ e ∷ []) (sym is)

    by_name : (name ≡ n.name) ⊎ (name ≡ n.name → ⊥) → get nat_cmp left name ≡ Some id
        → Contains (take i es ++ n ∷ []) (entry_in (name, id))
    by_name (inl same) found =
        let one : n.id ≡ id = one_id (get nat_cmp left n.name) n.id id updates.1 (ap (get nat_cmp left) (sym same) ∙ found) in
        let whole : n ≡ entry_in (name, id) = λ j. record { name = sym same j; id = one j } in
        subst (Contains (take i es ++ n ∷ [])) whole (Contains-push (take i es) n)
    by_name (inr other) found =
        Contains-append_left (take i es) (n ∷ []) (entry_in (name, id))
        ((has name id).0 (sym (updates.2 name (at_other n.name name other)) ∙ found))

    by_place : Contains (take i es) (entry_in (name, id)) ⊎ (n ≡ entry_in (name, id)) → get nat_cmp left name ≡ Some id
    by_place (inl at) = updates.2 name (at_other n.name name (before at)) ∙ (has name id).1 at
      where
        before : Contains (take i es) (entry_in (name, id)) → name ≡ n.name → ⊥
        before (k, below, its) same =
            let long = length-take-le i es (omega arith) in
            let less : k < i = omega (arith, below, long) in
            let here : (get_or es k (entry_in (name, id))).name ≡ name =
            ap (λ (e : Entry). e.name) (sym (get_or-take i es k (entry_in (name, id)) less) ∙ its) in
            let rise : (get_or es k n).name < (get_or es i n).name = rising k i n less low in
            let one : (get_or es k n).name ≡ (get_or es k (entry_in (name, id))).name =
            ap (λ (e : Entry). e.name) (get_or_default es k n (entry_in (name, id)) (omega (arith, less, low))) in
            let two = ap (λ (e : Entry). e.name) is in
            omega (arith, here, rise, one, two, same)
    by_place (inr its) =
        let same : n.name ≡ name = ap (λ (e : Entry). e.name) its in
        let one : n.id ≡ id = ap (λ (e : Entry). e.id) its in
        ap (get nat_cmp left) (sym same) ∙ updates.1 ∙ ap Some one

-- The entries of names that a map keeps.

abbrev pub no_recording : RecordingValue
no_recording =
    let none : Size = record { width = pos 0; height = pos 0 } in
    let o : AllocatorOptions = record { alignment = none; small_size_threshold = pos 0; large_size_threshold = pos 0 } in
    record { size = none; options = o; events = [] }

abbrev pub value_of : AtlasValue → Names → SessionValue
value_of a names = record { atlas = a; names = entries_in names; given = 0; recording = no_recording }

module _ (a : AtlasValue) (names : Names) (s : Named) (h : ShowsNamed a names s) (ordered : IsOrdered nat_cmp names)
    (all : All (IsFound names) names.entries)
  where
    entry_found : (n : Entry) → Contains (entries_in names) n → get nat_cmp names n.name ≡ Some n.id
    entry_found n at =
        All-contains (λ (m : Entry). get nat_cmp names m.name ≡ Some m.id) (entries_in names) n
        (All-map (λ (m : Entry). get nat_cmp names m.name ≡ Some m.id) entry_in names.entries all) at

    counted : (id : ℕ) → entries_of id (entries_in names) ≡ count_by (λ (e : ℕ × ℕ). e.1 == id) names.entries
    counted id = count_map entry_in (λ (n : Entry). n.id == id) names.entries

    live_as_often : (id : ℕ) → 1 ≤ live_count id s.state → entries_of id (entries_in names) ≡ live_count id s.state
    live_as_often id some =
        let live : IsLive s.state id = counted_live s.state id some in
        let its : get nat_cmp names (s.name id) ≡ Some id = (h.finds (s.name id) id).1 (live, refl) in
        let alike = count_alike (λ (e : ℕ × ℕ). e.1 == id) (λ (e : ℕ × ℕ). e.0 == s.name id) names.entries (λ e at. told its e at) in
        let mapped = count_map (λ (e : ℕ × ℕ). e.0) (λ n. n == s.name id) names.entries in
        let keys = keys_counted names.entries ordered (s.name id) in
        let one : how_many (get nat_cmp names (s.name id)) ≡ 1 = ap how_many its in
        let few = few_live s.state id h.named.sound in
        let c = counted id in
        omega (arith, alike, mapped, keys, one, few, some, c)
      where
        told : get nat_cmp names (s.name id) ≡ Some id → (e : ℕ × ℕ) → Contains names.entries e
            → (e.1 == id) ≡ (e.0 == s.name id)
        told its e at = by_id (cases_eq e.1 id)
          where
            here : get nat_cmp names e.0 ≡ Some e.1
            here = All-contains (IsFound names) names.entries e all at

            by_id : (e.1 ≡ id) ⊎ (e.1 ≡ id → ⊥) → (e.1 == id) ≡ (e.0 == s.name id)
            by_id (inl same) =
                let named : s.name e.1 ≡ e.0 = ((h.finds e.0 e.1).0 here).1 in
                eq-eqb e.1 id same ∙ sym (eq-eqb e.0 (s.name id) (sym named ∙ ap s.name same))
            by_id (inr other) =
                ne_eqb e.1 id other
                ∙ sym (ne_eqb e.0 (s.name id) (λ same. other (one_id (get nat_cmp names e.0) e.1 id here
                (ap (get nat_cmp names) same ∙ its))))

    dead_counted : (id : ℕ) → live_count id s.state ≤ 0 → entries_of id (entries_in names) ≡ live_count id s.state
    dead_counted id none =
        let alike = count_alike (λ (e : ℕ × ℕ). e.1 == id) (λ (e : ℕ × ℕ). false) names.entries (λ e at. told e at) in
        let zero = count_none names.entries in
        let c = counted id in
        omega (arith, alike, zero, none, c)
      where
        told : (e : ℕ × ℕ) → Contains names.entries e → (e.1 == id) ≡ false
        told e at = ne_eqb e.1 id (λ same.
            let live = ((h.finds e.0 e.1).0 (All-contains (IsFound names) names.entries e all at)).0 in
            let some : 1 ≤ live_count id s.state = subst (λ k. 1 ≤ live_count k s.state) same (live_counted s.state e.1 live) in
            omega (arith, some, none))

        count_none : (es : List (ℕ × ℕ)) → count_by (λ (e : ℕ × ℕ). false) es ≡ 0
        count_none [] = refl
        count_none (e ∷ es) = count_by-cons (λ (e : ℕ × ℕ). false) e es ∙ zero-add _ ∙ count_none es

    ids_counted : (id : ℕ) → entries_of id (entries_in names) ≡ live_count id s.state
    ids_counted id = by_count (cases_lt 0 (live_count id s.state))
      where
        by_count : (0 < live_count id s.state) ⊎ (live_count id s.state ≤ 0)
            → entries_of id (entries_in names) ≡ live_count id s.state
        by_count (inl some) = live_as_often id (omega (arith, some))
        by_count (inr none) = dead_counted id none

    -- The entries name live ids as the state does.
    pub named_alike : (id : ℕ) → IsLive s.state id → name_among (entries_in names) id ≡ s.name id
    named_alike id live =
        let some : 1 ≤ live_count id s.state = live_counted s.state id live in
        let r = entry_of id (entries_in names) (subst (λ n. 1 ≤ n) (sym (ids_counted id)) some) in
        let named : s.name r.0.id ≡ r.0.name = ((h.finds r.0.name r.0.id).0 (entry_found r.0 r.1)).1 in
        r.3 ∙ sym named ∙ ap s.name r.2

    pub names_kept : IsSessionKept (value_of a names)
    names_kept = record {
      ids = λ id. ids_counted id ∙ ap (live_count id) h.state;
      named = record {
        sound = subst IsSound h.state h.named.sound;
        limit = ap (λ (t : State). t.limit) (sym h.state) ∙ h.named.limit;
        names = λ i j at_i at_j same.
            let live_i : IsLive s.state i = subst (λ t. IsLive t i) (sym h.state) at_i in
            let live_j : IsLive s.state j = subst (λ t. IsLive t j) (sym h.state) at_j in
            h.named.names i j live_i live_j (sym (named_alike i live_i) ∙ same ∙ named_alike j live_j);
      };
    }
