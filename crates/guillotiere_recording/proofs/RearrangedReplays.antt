-- What a rearranging in a replay makes of the atlas and of the names that it keeps.
use Rattle.std.proofs.Common.{◌≡◌, ℕ, Bool, ◌≤◌, ◌==◌, ◌++◌, map, get_or, refl, ap, sym, subst, ◌∙◌, arith, All, Contains}
use Rattle.std.specs.Ordering.{nat_cmp}
use Rattle.std.specs.BTreeMap.{IsOrdered}
use Rattle.std.proofs.lemmas.Bool.{eq-eqb}
use Rattle.std.proofs.lemmas.List.{get_or_default}
use Rattle.std.proofs.lemmas.List.Elements.{All-contains}
use Rattle.guillotiere.specs.declared.Size.{Size}
use Rattle.guillotiere.specs.declared.Allocation.{Allocation}
use Rattle.guillotiere.specs.declared.Change.{Change}
use Rattle.guillotiere.specs.declared.ChangeList.{ChangeList}
use Rattle.guillotiere.specs.Boxes.{IsPositive}
use Rattle.guillotiere.specs.Pixels.{sides_of}
use Rattle.guillotiere.specs.Trees.{Grant, grant}
use Rattle.guillotiere.specs.States.{State, IsLive, live_in}
use Rattle.guillotiere.specs.Refits.{Transfer, Rearrangement}
use Rattle.guillotiere.specs.Renaming.{renamed_grant}
use Rattle.guillotiere.specs.Replies.{grant_of, IsExact}
use Rattle.guillotiere.specs.Rearranging.{rearrangement_of, transfer_of, IsExactChange, AreExactChanges}
use Rattle.guillotiere.specs.Steps as atlas
use Rattle.guillotiere.specs.Steps.{AtlasCall, Step}
use Rattle.guillotiere.specs.Laws.StepLaws.{live_count, IsRearrangingStep}
use Rattle.guillotiere.specs.Stored.{AtlasValue, state_of}
use Rattle.guillotiere.proofs.ListLemmas.ListCounts.{count_by-append, count_some}
use Rattle.guillotiere.proofs.StepLemmas.StepEffects.{rearrangings_lose_nothing}
use Rattle.guillotiere.proofs.ListLemmas.CallerLemmas.{Contains-map, count_by-permutation}
use Rattle.guillotiere.proofs.StepLemmas.LiveBoxes.{counted_live, live_counted}
use Rattle.guillotiere_recording.specs.declared.moves.Moved.{Moved}
use Rattle.guillotiere_recording.specs.declared.steps.EventFault.{EventFault}
use Rattle.guillotiere_recording.specs.declared.steps.EventFault.TheVariants as stop
use Rattle.guillotiere_recording.specs.declared.names.LiveName.{LiveName as Entry}
use Rattle.guillotiere_recording.specs.Events.{EventValue, ListValue, list_value_of}
use Rattle.guillotiere_recording.specs.Events.EventValue.{Rearrange, ResizeAndRearrange}
use Rattle.guillotiere_recording.specs.Kept.{entry_in, entries_in, IsFollowed, IsOtherList, IsUnlike}
use Rattle.guillotiere_recording.specs.Moves.{change_under, failure_under, IsMoved}
use Rattle.guillotiere_recording.specs.Names.{entries_of, name_among}
use Rattle.guillotiere_recording.specs.Recordings.{session_of}
use Rattle.guillotiere_recording.specs.Replays.{AnswersOtherwise, shown_grant, shown_change, shown_list}
use Rattle.guillotiere_recording.specs.Sessions.{Named, renamed_transfer, RearrangesUnder, Leads}
use Rattle.guillotiere_recording.specs.Standing.{Names, ShowsNamed, Finds, IsStopped}
use Rattle.guillotiere_recording.proofs.Counts.{map_alike}
use Rattle.guillotiere_recording.proofs.Entries.{entry_of, name_of}
use Rattle.guillotiere_recording.proofs.NamedStates.{moved_from, events_keep_names}
use Rattle.guillotiere_recording.proofs.Rearranged.{map_twice, entered_anew, rearranges_under, once_after}
use Rattle.guillotiere_recording.proofs.ReplayEnds.{IsFound}
use Rattle.guillotiere_recording.proofs.KeptNames.{value_of, named_alike, names_kept}

-- What was moved or found no room was live.

live_old : (old new : State) (answer : Rearrangement) → IsRearrangingStep old answer new → (t : Transfer)
    → Contains answer.changes t
    → IsLive old t.old.id
live_old old new answer moves t at =
    let few = moved_from old new answer moves t.old.id in
    let some = count_some (λ (x : Transfer). x.old.id == t.old.id) answer.changes t at (eq-eqb _ _ refl) in
    counted_live old t.old.id (omega (arith, few, some))

live_failed : (old new : State) (answer : Rearrangement) → IsRearrangingStep old answer new → (x : Grant)
    → Contains answer.failures x
    → IsLive old x.id
live_failed old new answer moves x at =
    let p : Grant → Bool = λ g. g.id == x.id in
    let i = count_by-permutation p (live_in old) (map (λ (t : Transfer). t.old) answer.changes ++ answer.failures) moves.before in
    let j = count_by-append p (map (λ (t : Transfer). t.old) answer.changes) answer.failures in
    let some = count_some p answer.failures x at (eq-eqb _ _ refl) in
    counted_live old x.id (omega (arith, i, j, some))

module _ {A : Type 0} (a b : AtlasValue) (names : Names) (asked : AtlasCall) (list : ChangeList A)
    (stepped : Step (state_of a) asked (atlas.Changed (rearrangement_of list)) (state_of b)) (exact : AreExactChanges list)
    (ordered : IsOrdered nat_cmp names) (all : All (IsFound names) names.entries) (s : Named) (h : ShowsNamed a names s)
  where
    step : Step s.state asked (atlas.Changed (rearrangement_of list)) (state_of b)
    step = subst (λ t. Step t asked (atlas.Changed (rearrangement_of list)) (state_of b)) (sym h.state) stepped

    moves : IsRearrangingStep s.state (rearrangement_of list) (state_of b)
    moves = rearrangings_lose_nothing s.state (state_of b) asked (rearrangement_of list) h.named.sound step

    said_change : (c : Change) → Contains list.changes.items c
        → change_under (name_among (entries_in names)) c ≡ shown_change s.name (transfer_of c)
    said_change c at =
        let named = named_alike a names s h ordered all c.old.id (live_old s.state (state_of b) (rearrangement_of list) moves
        (transfer_of c) (Contains-map transfer_of list.changes.items c at)) in
        let its = All-contains IsExactChange list.changes.items c exact.changes at in
        λ i. record {
          old = record { id = named i; rectangle = its.0 i };
          new = record { id = named i; rectangle = its.1 i };
        }

    said_failure : (x : Allocation) → Contains list.failures.items x
        → failure_under (name_among (entries_in names)) x ≡ shown_grant s.name (grant_of x)
    said_failure x at =
        let named = named_alike a names s h ordered all x.id (live_failed s.state (state_of b) (rearrangement_of list) moves (grant_of x)
        (Contains-map grant_of list.failures.items x at)) in
        let its = All-contains (λ (y : Allocation). IsExact y.rectangle) list.failures.items x exact.failures at in
        λ i. record { id = named i; rectangle = its i }

    -- The list under names is the one that is shown.
    said_list : (m : Moved A) → IsMoved (entries_in names) list m
        → list_value_of m.list ≡ shown_list s.name (rearrangement_of list)
    said_list m is =
        let changes : m.list.changes.items ≡ map (shown_change s.name) (rearrangement_of list).changes =
        is.changes
        ∙ map_alike (change_under (name_among (entries_in names))) (λ c. shown_change s.name (transfer_of c)) list.changes.items said_change
        ∙ sym (map_twice (shown_change s.name) transfer_of list.changes.items) in
        let failures : m.list.failures.items ≡ map (shown_grant s.name) (rearrangement_of list).failures =
        is.failures
        ∙ map_alike (failure_under (name_among (entries_in names))) (λ x. shown_grant s.name (grant_of x)) list.failures.items said_failure
        ∙ sym (map_twice (shown_grant s.name) grant_of list.failures.items) in
        λ i. record { changes = changes i; failures = failures i }

    -- The names after it.
    module _ (said : ListValue) (left : Names) (followed : IsFollowed (entries_in names) list said left) where
      counts : (id : ℕ) → entries_of id followed.moved.names.items ≡ live_count id (state_of b)
      counts = entered_anew (value_of a names) (state_of b) list followed.moved asked (names_kept a names s h ordered all) stepped
          followed.is

      once : (id : ℕ) → live_count id (state_of b) ≤ 1
      once = once_after (value_of a names) (state_of b) list asked (names_kept a names s h ordered all) stepped

      under : RearrangesUnder (session_of (value_of a names)) asked (list_value_of followed.moved.list)
          (record { state = state_of b; name = name_among followed.moved.names.items })
      under = rearranges_under (value_of a names) b list followed.moved asked (names_kept a names s h ordered all) stepped exact followed.is
          once

      under_step : Step s.state asked (atlas.Changed under.answer) (state_of b)
      under_step = subst (λ t. Step t asked (atlas.Changed under.answer) (state_of b)) (sym h.state) under.step

      under_moves : IsRearrangingStep s.state under.answer (state_of b)
      under_moves = rearrangings_lose_nothing s.state (state_of b) asked under.answer h.named.sound under_step

      old_named : (t : Transfer) → Contains under.answer.changes t
          → name_among (entries_in names) t.old.id ≡ s.name t.old.id
      old_named t at = named_alike a names s h ordered all t.old.id (live_old s.state (state_of b) under.answer under_moves t at)

      failed_named : (x : Grant) → Contains under.answer.failures x → name_among (entries_in names) x.id ≡ s.name x.id
      failed_named x at = named_alike a names s h ordered all x.id (live_failed s.state (state_of b) under.answer under_moves x at)

      rearranged_under : RearrangesUnder s asked said
          (record { state = state_of b; name = name_among followed.moved.names.items })
      rearranged_under = record {
        answer = under.answer;
        step = under_step;
        exact_changes = subst (λ (l : ListValue). All IsExactChange l.changes) followed.same under.exact_changes;
        exact_failures = subst (λ (l : ListValue). All (λ (x : Allocation). IsExact x.rectangle) l.failures) followed.same
            under.exact_failures;
        changes = ap (λ (l : ListValue). map transfer_of l.changes) (sym followed.same) ∙ under.changes
            ∙ map_alike (renamed_transfer (name_among (entries_in names))) (renamed_transfer s.name) under.answer.changes
            (λ t at. ap (λ n. let x : Transfer = record { old = grant n t.old.box; new = grant n t.new.box } in x) (old_named t at));
        failures = ap (λ (l : ListValue). map grant_of l.failures) (sym followed.same) ∙ under.failures
            ∙ map_alike (renamed_grant (name_among (entries_in names))) (renamed_grant s.name) under.answer.failures
            (λ x at. ap (λ n. grant n x.box) (failed_named x at));
        kept = λ k d below.
            under.kept k d below
            ∙ old_named (get_or under.answer.changes k d)
            (k, below, get_or_default under.answer.changes k (get_or under.answer.changes k d) d below);
      }

      finds : Finds left (record { state = state_of b; name = name_among followed.moved.names.items })
      finds name id = (
        λ found.
            let at = (followed.has name id).0 found in
            let some : 1 ≤ entries_of id followed.moved.names.items =
            count_some (λ (n : Entry). n.id == id) followed.moved.names.items (entry_in (name, id)) at (eq-eqb id id refl) in
            let e = counts id in
            let one = once id in (
              counted_live (state_of b) id (omega (arith, some, e)),
              name_of id followed.moved.names.items (entry_in (name, id)) (omega (arith, e, one)) at refl,
            ),
        λ (live, is).
            let some = live_counted (state_of b) id live in
            let e = counts id in
            let r = entry_of id followed.moved.names.items (omega (arith, some, e)) in
            let whole : r.0 ≡ entry_in (name, id) = λ i. record { name = (sym r.3 ∙ is) i; id = r.2 i } in
            (followed.has name id).1 (subst (Contains followed.moved.names.items) whole r.1),
      )

      pub rearranged_on : (event : EventValue) → ((t : Named) → RearrangesUnder s asked said t → Leads s event t)
          → (t : Named) × Leads s event t × ShowsNamed b left t
      rearranged_on event leads =
          let led = leads (record { state = state_of b; name = name_among followed.moved.names.items }) rearranged_under in (
            record { state = state_of b; name = name_among followed.moved.names.items },
            led,
            record {
              state = refl;
              finds = finds;
              named = events_keep_names s (record { state = state_of b; name = name_among followed.moved.names.items }) event h.named led;
            },
          )

    -- A list that isn't the recorded one.

    pub other_rearranging : (said : ListValue) → IsOtherList (entries_in names) list said → asked ≡ atlas.Rearrange
        → AnswersOtherwise s (Rearrange said)
    other_rearranging said o is = record {
      good = λ bad. bad;
      call = asked;
      asked = is;
      reply = atlas.Changed (rearrangement_of list);
      new = state_of b;
      step = step;
      met = refl;
      other = λ (answer, its, same).
          let one : rearrangement_of list ≡ answer = cc in
          o.other (said_list o.moved o.is ∙ ap (shown_list s.name) one ∙ sym same);
    }

    pub other_resizing : (size : Size) (said : ListValue) → IsPositive (sides_of size)
        → IsOtherList (entries_in names) list said
        → asked ≡ atlas.ResizeAndRearrange (sides_of size) → AnswersOtherwise s (ResizeAndRearrange size said)
    other_resizing size said positive o is = record {
      good = λ bad. bad positive;
      call = asked;
      asked = is;
      reply = atlas.Changed (rearrangement_of list);
      new = state_of b;
      step = step;
      met = refl;
      other = λ (answer, its, same).
          let one : rearrangement_of list ≡ answer = cc in
          o.other (said_list o.moved o.is ∙ ap (shown_list s.name) one ∙ sym same);
    }

-- Why a list that isn't followed stops a replay.
pub unlike_stops : {A : Type 0} (a : AtlasValue) (names : Names) (list : ChangeList A) (said : ListValue)
    (event : EventValue) (e : EventFault)
    → ((s : Named) → ShowsNamed a names s → IsOtherList (entries_in names) list said → AnswersOtherwise s event)
    → IsUnlike (entries_in names) list said e → IsStopped a names event e
unlike_stops a names list said event stop.Memory other unlike = tt
unlike_stops a names list said event stop.Differs other unlike = λ s h. other s h unlike
unlike_stops a names list said event stop.Slots other unlike = absurd unlike
unlike_stops a names list said event stop.Bad other unlike = absurd unlike
