-- Which faults the replay of a recorded session may have.
use Rattle.std.proofs.Common.{◌≡◌, ℕ, zero, suc, add-one, ◌+◌, ◌<◌, ◌≤◌, ◌==◌, ◌⊎◌, inl, inr, Bool, true, false, List, [], ◌∷◌, ◌++◌}
use Rattle.std.proofs.Common.{length, take, refl, ap, sym, subst, ◌∙◌, arith, All, Contains, Some, None, Result, Ok, Err, IfErr, slice_get}
use Rattle.std.specs.List.{count_by}
use Rattle.std.proofs.lemmas.Bool.{eqb-true, eq-eqb, false≢true}
use Rattle.std.proofs.lemmas.List.{take_more, get_or_append_left, length-append}
use Rattle.std.proofs.lemmas.List.Elements.{All-take, All-contains, All-cons, Contains-push, Contains-append_right}
use Rattle.std.proofs.lemmas.Option.{get_or_from_slice_get, slice_get_within}
use Rattle.guillotiere.specs.declared.AtlasError.TheVariants as refusal
use Rattle.guillotiere.specs.Boxes.{Sides, Fits}
use Rattle.guillotiere.specs.Pixels.{sides_of, options_of, rectangle_of}
use Rattle.guillotiere.specs.Trees.{Grant}
use Rattle.guillotiere.specs.States.{State, live_in}
use Rattle.guillotiere.specs.Steps.{AtlasCall, AtlasReply, Step}
use Rattle.guillotiere.specs.Steps.AtlasReply.{Allocated, NoRoom, Done, Changed, Refused, BadCall}
use Rattle.guillotiere.specs.Renaming.{renamed_grant, is_out_of_memory}
use Rattle.guillotiere.proofs.ListLemmas.ListCounts.{count_by-weaker, split_at}
use Rattle.guillotiere.proofs.TreeLemmas.TreeIds.{Contains-first}
use Rattle.guillotiere.proofs.StepLemmas.LiveBoxes.{live_counted}
use Rattle.guillotiere_recording.specs.declared.replay.ReplayFault.{ReplayFault}
use Rattle.guillotiere_recording.specs.declared.replay.ReplayFault.TheVariants as fault
use Rattle.guillotiere_recording.specs.Events.{EventValue}
use Rattle.guillotiere_recording.specs.Events.EventValue.{Allocate, Deallocate, Grow, Rearrange, ResizeAndRearrange}
use Rattle.guillotiere_recording.specs.Logs.{RecordingValue}
use Rattle.guillotiere_recording.specs.Sessions.{Named, named_boxes, IsLiveName, Leads, LeadOn, Recorded, fresh_session}
use Rattle.guillotiere_recording.specs.Recordings.{LeadsTo}
use Rattle.guillotiere_recording.specs.Replays.{IsRecorded, IsBad, IsCall, AnswersEvent, is_refused, AnswersOtherwise, LacksSlots}
use Rattle.guillotiere_recording.specs.Replays.{IsFaultOf, HasRearranging, MayFail, first_events}
use Rattle.guillotiere_recording.specs.Twins.{is_plain_event, Asks, Says}
use Rattle.guillotiere_recording.proofs.Books.{sessions_are_named, books_are_true, listed_is_live}
use Rattle.guillotiere_recording.proofs.Counts.{count_map}
use Rattle.guillotiere_recording.proofs.Twins.{twins_answer_alike, new_sessions_are_twins, events_keep_twins}

-- Where an event stands among events that lead on, the session can be parted.

abbrev PartsAt : (old : Named) (before : List EventValue) (event : EventValue) → Type 0
PartsAt old before event = (mid : Named) × LeadOn old before mid × ((next : Named) × Leads mid event next)

lead_split : (events : List EventValue) (i : ℕ) (event : EventValue) (old new : Named) → slice_get events i ≡ Some event
    → LeadOn old events new → PartsAt old (take i events) event
lead_split [] i event old new here h = let no : None ≡ Some event = here in absurd (cc)
lead_split (e ∷ events) zero event old new here (next, first, rest) =
    let one : e ≡ event = cc in
    (old, refl, (next, subst (λ x. Leads old x next) one first))
lead_split (e ∷ events) (suc i) event old new here (next, first, rest) =
    let parts = lead_split events i event next new here rest in
    (parts.0, (next, first, parts.1), parts.2)

-- The size of an atlas after an event.

size_after : Sides → EventValue → Sides
size_after n (Grow size) = sides_of size
size_after n (ResizeAndRearrange size list) = sides_of size
size_after n (Allocate size answer) = n
size_after n (Deallocate name) = n
size_after n (Rearrange list) = n

step_size : (old new : Named) (event : EventValue) → Leads old event new
    → new.state.size ≡ size_after old.state.size event
unfolding size_after
step_size old new (Allocate size None) h = ap (λ (s : State). s.size) h.0.1
step_size old new (Allocate size (Some a)) h = ap (λ (s : State). s.size) h.step.1.state
step_size old new (Deallocate name) h = ap (λ (s : State). s.size) h.step.1
step_size old new (Grow size) h = ap (λ (s : State). s.size) h.0.2
step_size old new (Rearrange list) h = let step = h.step in ap (λ (s : State). s.size) step.5
step_size old new (ResizeAndRearrange size list) h = let step = h.step in ap (λ (s : State). s.size) step.5

same_sizes : (events : List EventValue) (s s' t t' : Named) → t.state.size ≡ s.state.size → LeadOn s events s'
    → LeadOn t events t'
    → t'.state.size ≡ s'.state.size
same_sizes [] s s' t t' same h k = ap (λ (n : Named). n.state.size) k ∙ same ∙ sym (ap (λ (n : Named). n.state.size) h)
same_sizes (event ∷ events) s s' t t' same (mid, h, rest) (mid', k, rest') =
    same_sizes events mid s' mid' t'
    (step_size t mid' event k ∙ ap (λ n. size_after n event) same ∙ sym (step_size s mid event h)) rest rest'

-- Live names are those that the book counts.

abbrev has_name : ℕ → Grant → Bool
has_name name g = g.id == name

name_counted : (s : Named) (name : ℕ) → IsLiveName s name → 1 ≤ count_by (has_name name) (named_boxes s)
name_counted s name (id, live, is) =
    let some = live_counted s.state id live in
    let mapped = count_map (renamed_grant s.name) (has_name name) (live_in s.state) in
    let more : count_by (λ g. g.id == id) (live_in s.state) ≤ count_by (λ (g : Grant). s.name g.id == name) (live_in s.state) =
    count_by-weaker (λ g. g.id == id) (λ g. s.name g.id == name)
    (λ g same. eq-eqb (s.name g.id) name (ap s.name (eqb-true g.id id same) ∙ is)) (live_in s.state) in
    omega (arith, some, mapped, more)

counted_name : (s : Named) (name : ℕ) → 1 ≤ count_by (has_name name) (named_boxes s) → IsLiveName s name
counted_name s name some =
    let mapped = count_map (renamed_grant s.name) (has_name name) (live_in s.state) in
    let at = split_at (λ (g : Grant). s.name g.id == name) (live_in s.state) (omega (arith, some, mapped)) in
    let there : Contains (at.before ++ at.here ∷ at.after) at.here =
    Contains-append_right at.before (at.here ∷ at.after) at.here (Contains-first at.here at.after) in (
      at.here.id,
      listed_is_live s.state at.here (subst (λ gs. Contains gs at.here) (sym at.is) there),
      eqb-true (s.name at.here.id) name at.passes,
    )

same_names : (r : RecordingValue) (s t : Named) (name : ℕ) → LeadsTo r s → LeadsTo r t → IsLiveName s name
    → IsLiveName t name
same_names r s t name led led' live =
    let a = books_are_true (sides_of r.size) (options_of r.options) r.events s led (has_name name) in
    let b = books_are_true (sides_of r.size) (options_of r.options) r.events t led' (has_name name) in
    let some = name_counted s name live in
    counted_name t name (omega (arith, a, b, some))

-- An event of the session isn't bad in a replay.

never_bad : (r : RecordingValue) (s s' t : Named) (event : EventValue) → LeadsTo r s → LeadsTo r t → Leads s event s'
    → IsBad t event → ⊥
never_bad r s s' t (Allocate size None) led led' h bad = bad
never_bad r s s' t (Allocate size (Some a)) led led' h bad = h.unused (same_names r t s a.id led' led bad)
never_bad r s s' t (Deallocate name) led led' h bad = bad (same_names r s t name led led' (h.id, h.live, h.named))
never_bad r s s' t (Grow size) led led' h bad =
    let step = h.0 in
    let size_is = same_sizes r.events (fresh_session (sides_of r.size) (options_of r.options) led.name) s
    (fresh_session (sides_of r.size) (options_of r.options) led'.name) t refl led.leads led'.leads in
    bad (subst (λ n. Fits n (sides_of size)) (sym size_is) step.0)
never_bad r s s' t (Rearrange list) led led' h bad = bad
never_bad r s s' t (ResizeAndRearrange size list) led led' h bad = let step = h.step in bad step.0

-- Plain events.

plain_or_not : (events : List EventValue) → All (λ e. is_plain_event e ≡ true) events ⊎ HasRearranging events
plain_or_not [] = inl (λ k d below. absurd (omega arith))
plain_or_not (e ∷ events) = by_test (is_plain_event e) refl (plain_or_not events)
  where
    by_test : (b : Bool) → is_plain_event e ≡ b → All (λ e. is_plain_event e ≡ true) events ⊎ HasRearranging events
        → All (λ e. is_plain_event e ≡ true) (e ∷ events) ⊎ HasRearranging (e ∷ events)
    by_test false is rest = inr (0, e, omega arith, refl, is)
    by_test true is (inl all) = inl (All-cons (λ e. is_plain_event e ≡ true) e events is all)
    by_test true is (inr (k, x, below, at, other)) = inr (k + 1, x, omega arith, rw add-one at, other)

asks : (t : Named) (event : EventValue) (call : AtlasCall) → is_plain_event event ≡ true → IsCall t event call
    → Asks t event call
asks t (Allocate size answer) call plain is = is
asks t (Deallocate name) call plain is = is
asks t (Grow size) call plain is = is
asks t (Rearrange list) call plain is = absurd (false≢true plain)
asks t (ResizeAndRearrange size list) call plain is = absurd (false≢true plain)

said_is_answer : (s s' t : Named) (event : EventValue) (reply : AtlasReply) → Leads s event s' → Says event reply
    → AnswersEvent t event reply
said_is_answer s s' t (Allocate size None) reply h says = says
said_is_answer s s' t (Allocate size (Some a)) reply h (g, is, box) = (g, is, h.exact ∙ ap rectangle_of (sym box))
said_is_answer s s' t (Deallocate name) reply h says = says
said_is_answer s s' t (Grow size) reply h says = says
said_is_answer s s' t (Rearrange list) reply h says = absurd says
said_is_answer s s' t (ResizeAndRearrange size list) reply h says = absurd says

not_said : (event : EventValue) → Says event (Refused refusal.Slots) → ⊥
not_said (Allocate size None) says = cc
not_said (Allocate size (Some a)) (g, is, box) = cc
not_said (Deallocate name) says = cc
not_said (Grow size) says = cc
not_said (Rearrange list) says = says
not_said (ResizeAndRearrange size list) says = says

met_memory : (reply : AtlasReply) → is_refused reply ≡ false → is_out_of_memory reply ≡ false
met_memory (Refused e) met = absurd (false≢true (sym met))
met_memory (Allocated g) met = refl
met_memory NoRoom met = refl
met_memory Done met = refl
met_memory (Changed list) met = refl
met_memory BadCall met = refl

-- Where all events so far are plain, the replay answers as the session did.
module _ (r : RecordingValue) (i : ℕ) (event : EventValue) (t : Named) (led' : LeadsTo (first_events i r) t) (last : Named)
    (led : LeadsTo r last)
    (here : slice_get r.events i ≡ Some event)
  where
    parts : PartsAt (fresh_session (sides_of r.size) (options_of r.options) led.name) (take i r.events) event
    parts = lead_split r.events i event (fresh_session (sides_of r.size) (options_of r.options) led.name) last here led.leads

    led_here : LeadsTo (first_events i r) parts.0
    led_here = record { nonempty = led.nonempty; valid = led.valid; name = led.name; leads = parts.1 }

    pub good_here : IsBad t event → ⊥
    good_here = never_bad (first_events i r) parts.0 parts.2.0 t event led_here led' parts.2.1

    says_so : All (λ e. is_plain_event e ≡ true) (take i r.events) → is_plain_event event ≡ true
        → (call : AtlasCall) (reply : AtlasReply) (new : State)
        → IsCall t event call → Step t.state call reply new → is_out_of_memory reply ≡ false → Says event reply
    says_so all plain call reply new asked step met =
        let size = sides_of r.size in
        let o = options_of r.options in
        let good = sessions_are_named size o (take i r.events) parts.0 led_here in
        let good' = sessions_are_named size o (take i r.events) t led' in
        let none : Recorded size o [] (fresh_session size o led.name) =
        record { nonempty = led.nonempty; valid = led.valid; name = led.name; leads = refl } in
        let none' : Recorded size o [] (fresh_session size o led'.name) =
        record { nonempty = led'.nonempty; valid = led'.valid; name = led'.name; leads = refl } in
        let start = sessions_are_named size o [] (fresh_session size o led.name) none in
        let start' = sessions_are_named size o [] (fresh_session size o led'.name) none' in
        let twins = events_keep_twins (fresh_session size o led.name) parts.0 (fresh_session size o led'.name) t (take i r.events) start
        start'
        (new_sessions_are_twins size o led.name led'.name) all parts.1 led'.leads in
        (twins_answer_alike parts.0 parts.2.0 t (record { state = new; name = t.name }) event call reply good good' twins plain parts.2.1
        (asks t event call plain asked) step met).0

    answers_so : All (λ e. is_plain_event e ≡ true) (take i r.events) → is_plain_event event ≡ true
        → AnswersOtherwise t event → ⊥
    answers_so all plain o =
        o.other (said_is_answer parts.0 parts.2.0 t event o.reply parts.2.1
        (says_so all plain o.call o.reply o.new o.asked o.step (met_memory o.reply o.met)))

    has_slots : All (λ e. is_plain_event e ≡ true) (take i r.events) → is_plain_event event ≡ true → LacksSlots t event
        → ⊥
    has_slots all plain o =
        not_said event (says_so all plain o.call (Refused refusal.Slots) t.state o.asked o.step refl)

    plain_here : All (λ e. is_plain_event e ≡ true) r.events → is_plain_event event ≡ true
    plain_here all =
        let its = get_or_from_slice_get r.events i event event here in
        subst (λ e. is_plain_event e ≡ true) its (all i event (slice_get_within r.events i event here))

    pub slots_fault : LacksSlots t event → HasRearranging r.events
    slots_fault o = by_kind (plain_or_not r.events)
      where
        by_kind : All (λ e. is_plain_event e ≡ true) r.events ⊎ HasRearranging r.events → HasRearranging r.events
        by_kind (inl all) = absurd (has_slots (All-take (λ e. is_plain_event e ≡ true) i r.events all) (plain_here all) o)
        by_kind (inr some) = some

    so_far : All (λ e. is_plain_event e ≡ true) (take (suc i) r.events)
        → All (λ e. is_plain_event e ≡ true) (take i r.events) × (is_plain_event event ≡ true)
    so_far all =
        let low = slice_get_within r.events i event here in
        let its = get_or_from_slice_get r.events i event event here in
        let next : take (suc i) r.events ≡ take i r.events ++ event ∷ [] =
        sym (ap (λ n. take n r.events) (add-one i)) ∙ take_more r.events i event low ∙ ap (λ e. take i r.events ++ e ∷ []) its in
        let both = subst (λ es. All (λ e. is_plain_event e ≡ true) es) next all in
        let first : All (λ e. is_plain_event e ≡ true) (take i r.events) = λ k d below.
        let more : k < length (take i r.events ++ event ∷ []) = omega (arith, below, length-append (take i r.events) (event ∷ [])) in
        subst (λ e. is_plain_event e ≡ true) (get_or_append_left (take i r.events) (event ∷ []) d k below) (both k d more) in
        let at = Contains-push (take i r.events) event in
        let plain : is_plain_event event ≡ true = All-contains (λ e. is_plain_event e ≡ true) (take i r.events ++ event ∷ []) event both at
        in
        (first, plain)

    pub differs_fault : AnswersOtherwise t event → HasRearranging (take (suc i) r.events)
    differs_fault o = by_kind (plain_or_not (take (suc i) r.events))
      where
        by_kind : All (λ e. is_plain_event e ≡ true) (take (suc i) r.events) ⊎ HasRearranging (take (suc i) r.events)
            → HasRearranging (take (suc i) r.events)
        by_kind (inr some) = some
        by_kind (inl all) = let both = so_far all in absurd (answers_so both.0 both.1 o)

    pub rearranging_here : is_plain_event event ≡ false → HasRearranging (take (suc i) r.events)
    rearranging_here is = by_kind (plain_or_not (take (suc i) r.events))
      where
        by_kind : All (λ e. is_plain_event e ≡ true) (take (suc i) r.events) ⊎ HasRearranging (take (suc i) r.events)
            → HasRearranging (take (suc i) r.events)
        by_kind (inr some) = some
        by_kind (inl all) = let both = so_far all in absurd (false≢true (sym is ∙ both.1))

pub recorded_faults : (r : RecordingValue) (f : ReplayFault) → IsRecorded r → IsFaultOf r f → MayFail r f
recorded_faults r fault.Memory recorded is = tt
recorded_faults r fault.Slots (last, led) (i, is) = slots_fault r i is.event is.at is.before last led is.here is.stops
recorded_faults r (fault.Differs i) (last, led) is = differs_fault r i is.event is.at is.before last led is.here is.stops
recorded_faults r (fault.BadEvent i) (last, led) is = good_here r i is.event is.at is.before last led is.here is.stops

pub faults_of_recorded : {X : Type 0} (r : RecordingValue) (result : Result X ReplayFault) → IfErr result (IsFaultOf r)
    → IsRecorded r
    → IfErr result (MayFail r)
faults_of_recorded r (Ok x) is recorded = tt
faults_of_recorded r (Err f) is recorded = recorded_faults r f recorded is
