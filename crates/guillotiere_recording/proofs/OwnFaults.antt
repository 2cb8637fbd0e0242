-- Which faults the resuming of a recording allocator's own recording may have.
use Rattle.std.proofs.Common.{◌≡◌, ℕ, zero, suc, add-one, ◌+◌, ◌<◌, ◌≤◌, ◌⊎◌, inl, inr, false, List, [], ◌∷◌, ◌++◌, length, take}
use Rattle.std.proofs.Common.{get_or, refl, ap, sym, subst, ◌∙◌, arith, Option, Some, None, Result, Ok, Err, IfErr, slice_get}
use Rattle.std.proofs.lemmas.Bool.{cases_lt}
use Rattle.std.proofs.lemmas.List.{append_assoc, get_or-append-add, get_or_append_left, length-append}
use Rattle.guillotiere.specs.declared.Allocation.{Allocation}
use Rattle.guillotiere.specs.declared.Size.{Size}
use Rattle.guillotiere.specs.Boxes.{Box}
use Rattle.guillotiere.specs.Pixels.{sides_of, rectangle_of, box_of}
use Rattle.guillotiere.specs.Trees.{grant}
use Rattle.guillotiere.specs.Steps as atlas
use Rattle.guillotiere.specs.Steps.{AtlasReply}
use Rattle.guillotiere.specs.Steps.AtlasReply.{Allocated, NoRoom}
use Rattle.guillotiere_recording.specs.declared.replay.ReplayFault.{ReplayFault}
use Rattle.guillotiere_recording.specs.declared.replay.ReplayFault.TheVariants as fault
use Rattle.guillotiere_recording.specs.Events.{EventValue, given_names}
use Rattle.guillotiere_recording.specs.Events.EventValue.{Allocate, Deallocate, Grow, Rearrange, ResizeAndRearrange}
use Rattle.guillotiere_recording.specs.Logs.{RecordingValue}
use Rattle.guillotiere_recording.specs.Sessions.{Named, Leads}
use Rattle.guillotiere_recording.specs.Recordings.{SessionValue, session_of, first_names, LeadsTo}
use Rattle.guillotiere_recording.specs.Replays.{IsBad, AnswersOtherwise, HasRearranging, MayFail, first_events}
use Rattle.guillotiere_recording.specs.Twins.{is_plain_event}
use Rattle.guillotiere_recording.specs.Resuming.{AnswersElse, HasNoSlots, IsOwnRecording, IsResumeFault, IsSameCall, IsSameName}
use Rattle.guillotiere_recording.specs.Resuming.{IsStoppedAt, IsUnfit}
use Rattle.guillotiere_recording.proofs.ReplayFaults.{good_here, slots_fault, differs_fault, rearranging_here}

-- The names that the first events gave come first.

abbrev names_in : EventValue → List ℕ
names_in event = given_names (event ∷ [])

given_head : (event : EventValue) (events : List EventValue) → given_names (event ∷ events) ≡ names_in event ++ given_names events
given_head (Allocate size (Some a)) events = refl
given_head (Allocate size None) events = refl
given_head (Deallocate name) events = refl
given_head (Grow size) events = refl
given_head (Rearrange list) events = refl
given_head (ResizeAndRearrange size list) events = refl

abbrev GivesAt : List EventValue → ℕ → EventValue → Type 0
GivesAt events i event =
    (rest : List ℕ) × (given_names events ≡ given_names (take i events) ++ (names_in event ++ rest))

gives_at : (events : List EventValue) (i : ℕ) (event : EventValue) → slice_get events i ≡ Some event → GivesAt events i event
gives_at [] i event here = let no : None ≡ Some event = here in absurd (cc)
gives_at (e ∷ events) zero event here =
    let one : e ≡ event = cc in
    (given_names events, given_head e events ∙ ap (λ x. names_in x ++ given_names events) one)
gives_at (e ∷ events) (suc i) event here =
    let more = gives_at events i event here in (
      more.0,
      given_head e events ∙ ap (λ ns. names_in e ++ ns) more.1
          ∙ sym (append_assoc (names_in e) (given_names (take i events)) (names_in event ++ more.0))
          ∙ ap (λ ns. ns ++ (names_in event ++ more.0)) (sym (given_head e (take i events))),
    )

-- The names 0, 1, 2, ..

how_many : (n : ℕ) → length (first_names n) ≡ n
how_many zero = refl
how_many (suc n) =
    let more : length (first_names n ++ n ∷ []) ≡ length (first_names n) + 1 = length-append (first_names n) (n ∷ []) in
    more ∙ ap (λ k. k + 1) (how_many n) ∙ add-one n

at_most : (k n : ℕ) → k < suc n → (k < n) ⊎ (k ≡ n)
at_most k n low =
    elim (cases_lt k n) [
      | inl less ↦ inl less
      | inr more ↦ inr (omega (arith, low, more))
    ]

named_at : (n k d : ℕ) → k < n → get_or (first_names n) k d ≡ k
named_at zero k d low = absurd (omega arith)
named_at (suc n) k d low = by_place (at_most k n low) (named_at n k d)
  where
    by_place : (k < n) ⊎ (k ≡ n) → (k < n → get_or (first_names n) k d ≡ k) → get_or (first_names n ++ n ∷ []) k d ≡ k
    by_place (inl less) before =
        get_or_append_left (first_names n) (n ∷ []) d k (subst (λ m. k < m) (sym (how_many n)) less) ∙ before less
    by_place (inr same) before =
        let last : get_or (first_names n ++ n ∷ []) (length (first_names n) + 0) d ≡ n = get_or-append-add (first_names n) (n ∷ []) 0 d in
        let here : length (first_names n) + 0 ≡ k = omega (arith, how_many n, same) in
        subst (λ m. get_or (first_names n ++ n ∷ []) m d ≡ n) here last ∙ sym same

next_is : (n given id : ℕ) (rest : List ℕ) → first_names n ≡ first_names given ++ (id ∷ rest) → id ≡ given
next_is n given id rest is =
    let long : length (first_names n) ≡ length (first_names given) + length (id ∷ rest) =
    ap length is ∙ length-append (first_names given) (id ∷ rest) in
    let low : given < n = omega (arith, long, how_many n, how_many given) in
    let there : get_or (first_names given ++ (id ∷ rest)) (length (first_names given) + 0) id ≡ id =
    get_or-append-add (first_names given) (id ∷ rest) 0 id in
    let place : length (first_names given) + 0 ≡ given = omega (arith, how_many given) in
    sym (subst (λ m. get_or (first_names given ++ (id ∷ rest)) m id ≡ id) place there)
    ∙ sym (ap (λ ns. get_or ns given id) is) ∙ named_at n given id low

no_more : (n given : ℕ) (rest : List ℕ) → first_names n ≡ first_names given ++ rest → given ≤ n
no_more n given rest is =
    let long : length (first_names n) ≡ length (first_names given) + length rest =
    ap length is ∙ length-append (first_names given) rest in
    omega (arith, long, how_many n, how_many given)

-- A request that is answered otherwise under the same name has another box, or one where there was none.

abbrev box_told : Box → AtlasReply → Box
box_told d (Allocated g) = g.box
box_told d reply = d

same_answer : (a b : Allocation) → a.id ≡ b.id → a.rectangle ≡ b.rectangle → Some a ≡ Some b
same_answer a b named same =
    ap (λ n. let x : Allocation = record { id = n; rectangle = a.rectangle } in Some x) named
    ∙ ap (λ r. let x : Allocation = record { id = b.id; rectangle = r } in Some x) same

request_else : (t next : Named) (size : Size) (recorded answer : Option Allocation) → Leads t (Allocate size answer) next
    → IsSameName recorded answer → (answer ≡ recorded → ⊥) → (IsBad t (Allocate size recorded) → ⊥)
    → AnswersOtherwise t (Allocate size recorded)
request_else t next size None None leads named differs good = absurd (differs refl)
request_else t next size None (Some a) leads named differs good =
    record {
      good = good;
      call = atlas.Allocate (sides_of size);
      asked = refl;
      reply = Allocated (grant leads.id (box_of a.rectangle));
      new = next.state;
      step = leads.step;
      met = refl;
      other = λ is. cc;
    }
request_else t next size (Some b) None leads named differs good =
    record {
      good = good;
      call = atlas.Allocate (sides_of size);
      asked = refl;
      reply = NoRoom;
      new = next.state;
      step = leads.0;
      met = refl;
      other = λ told. let is = told.1 in cc;
    }
request_else t next size (Some b) (Some a) leads named differs good =
    record {
      good = good;
      call = atlas.Allocate (sides_of size);
      asked = refl;
      reply = Allocated (grant leads.id (box_of a.rectangle));
      new = next.state;
      step = leads.step;
      met = refl;
      other = λ told.
          let same : box_of a.rectangle ≡ told.0.box = ap (box_told (box_of a.rectangle)) told.1 in
          differs (same_answer a b named (leads.exact ∙ ap rectangle_of same ∙ sym told.2));
    }

-- Where a session is stopped.
module _ (r : RecordingValue) (own : IsOwnRecording r) (i : ℕ) (event : EventValue) (here : slice_get r.events i ≡ Some event)
    (v : SessionValue) (led : LeadsTo (first_events i r) (session_of v))
  where
    good : IsBad (session_of v) event → ⊥
    good = good_here r i event (session_of v) led own.recorded.0 own.recorded.1 here

    slots : HasNoSlots v event → HasRearranging r.events
    slots o =
        slots_fault r i event (session_of v) led own.recorded.0 own.recorded.1 here
        (record { good = good; call = o.call; asked = o.asked; step = o.step })

    moved : is_plain_event event ≡ false → HasRearranging (take (suc i) r.events)
    moved is = rearranging_here r i event (session_of v) led own.recorded.0 own.recorded.1 here is

    otherwise : AnswersOtherwise (session_of v) event → HasRearranging (take (suc i) r.events)
    otherwise o = differs_fault r i event (session_of v) led own.recorded.0 own.recorded.1 here o

differs_own : (r : RecordingValue) (own : IsOwnRecording r) (i : ℕ) (event : EventValue) (here : slice_get r.events i ≡ Some event)
    (v : SessionValue) (led : LeadsTo (first_events i r) (session_of v)) → AnswersElse v event
    → HasRearranging (take (suc i) r.events)
differs_own r own i (Allocate size recorded) here v led e =
    otherwise r own i (Allocate size recorded) here v led (by_other e.other e.next e.same e.leads e.differs)
  where
    by_other : (other : EventValue) (next : Named) → IsSameCall (Allocate size recorded) other → Leads (session_of v) other next
        → (other ≡ Allocate size recorded → ⊥) → AnswersOtherwise (session_of v) (Allocate size recorded)
    by_other (Allocate s answer) next same leads differs =
        request_else (session_of v) next size recorded answer
        (subst (λ n. Leads (session_of v) (Allocate n answer) next) same.0 leads) same.1
        (λ is. differs (ap (λ n. let x : EventValue = Allocate n answer in x) same.0 ∙
        ap (λ a. let x : EventValue = Allocate size a in x) is))
        (good r own i (Allocate size recorded) here v led)
    by_other (Deallocate name) next same leads differs = absurd same
    by_other (Grow n) next same leads differs = absurd same
    by_other (Rearrange list) next same leads differs = absurd same
    by_other (ResizeAndRearrange n list) next same leads differs = absurd same
differs_own r own i (Deallocate name) here v led e = absurd e.same
differs_own r own i (Grow size) here v led e = absurd e.same
differs_own r own i (Rearrange list) here v led e = moved r own i (Rearrange list) here v led refl
differs_own r own i (ResizeAndRearrange size list) here v led e =
    moved r own i (ResizeAndRearrange size list) here v led refl

-- The names of the recording are those before the event, its own, and the rest.
abbrev NamesGoOn : ℕ → ℕ → EventValue → Type 0
NamesGoOn n given event = (rest : List ℕ) × (first_names n ≡ first_names given ++ (names_in event ++ rest))

names_go_on : (r : RecordingValue) (own : IsOwnRecording r) (i : ℕ) (event : EventValue) → slice_get r.events i ≡ Some event
    → (given : ℕ) → given_names (take i r.events) ≡ first_names given → NamesGoOn own.count given event
names_go_on r own i event here given is =
    let parts = gives_at r.events i event here in
    (parts.0, sym own.given ∙ parts.1 ∙ ap (λ ns. ns ++ (names_in event ++ parts.0)) is)

unfit_own : (r : RecordingValue) (own : IsOwnRecording r) (i : ℕ) (event : EventValue) (here : slice_get r.events i ≡ Some event)
    (v : SessionValue) (led : LeadsTo (first_events i r) (session_of v))
    → given_names (take i r.events) ≡ first_names v.given → IsUnfit v event → ⊥
unfit_own r own i (Allocate size None) here v led given unfit =
    let names = names_go_on r own i (Allocate size None) here v.given given in
    let few = own.few in
    let most = no_more own.count v.given names.0 names.1 in
    omega (arith, few, most, unfit)
unfit_own r own i (Allocate size (Some a)) here v led given unfit =
    let names = names_go_on r own i (Allocate size (Some a)) here v.given given in
    unfit (next_is own.count v.given a.id names.0 names.1)
unfit_own r own i (Deallocate name) here v led given unfit = good r own i (Deallocate name) here v led unfit
unfit_own r own i (Grow size) here v led given unfit = good r own i (Grow size) here v led unfit
unfit_own r own i (Rearrange list) here v led given unfit = unfit
unfit_own r own i (ResizeAndRearrange size list) here v led given unfit =
    good r own i (ResizeAndRearrange size list) here v led unfit

led_there : (r : RecordingValue) (i : ℕ) (Stops : SessionValue → EventValue → Type 0) (is : IsStoppedAt r i Stops)
    → LeadsTo (first_events i r) (session_of is.at)
led_there r i Stops is = subst (λ (x : RecordingValue). LeadsTo x (session_of is.at)) is.before is.faithful.leads

given_there : (r : RecordingValue) (i : ℕ) (Stops : SessionValue → EventValue → Type 0) (is : IsStoppedAt r i Stops)
    → given_names (take i r.events) ≡ first_names is.at.given
given_there r i Stops is =
    subst (λ (x : RecordingValue). given_names x.events ≡ first_names is.at.given) is.before is.faithful.given

own_faults : (r : RecordingValue) (f : ReplayFault) → IsOwnRecording r → IsResumeFault r f → MayFail r f
own_faults r fault.Memory own is = tt
own_faults r fault.Slots own (i, is) =
    slots r own i is.event is.here is.at (led_there r i HasNoSlots is) is.stops
own_faults r (fault.Differs i) own is =
    differs_own r own i is.event is.here is.at (led_there r i AnswersElse is) is.stops
own_faults r (fault.BadEvent i) own is =
    unfit_own r own i is.event is.here is.at (led_there r i IsUnfit is) (given_there r i IsUnfit is) is.stops

pub faults_of_own : {X : Type 0} (r : RecordingValue) (result : Result X ReplayFault) → IfErr result (IsResumeFault r)
    → IsOwnRecording r
    → IfErr result (MayFail r)
faults_of_own r (Ok x) is own = tt
faults_of_own r (Err f) is own = own_faults r f own is
