-- How a session that is taken up again goes on, stops and ends.
use Rattle.std.proofs.Common.{◌≡◌, ℕ, ◌+◌, ◌<◌, ◌≤◌, ◌^◌, ◌⊎◌, inl, inr, [], ◌∷◌, ◌++◌, length, take, get_or, refl, ap, sym, subst, ◌∙◌}
use Rattle.std.proofs.Common.{arith, Option, Some, None, IfSome, Result, Ok, Err, IfErr, slice_get}
use Rattle.std.proofs.lemmas.List.{take_more, take_all}
use Rattle.std.specs.Result.{IsErrAnd}
use Rattle.guillotiere.specs.declared.Allocation.{Allocation}
use Rattle.guillotiere.specs.declared.AtlasError.TheVariants as error
use Rattle.guillotiere.specs.declared.Rectangle.{Rectangle}
use Rattle.guillotiere.specs.declared.Size.{Size}
use Rattle.guillotiere.specs.Pixels.{sides_of}
use Rattle.guillotiere.specs.Steps as atlas
use Rattle.guillotiere.specs.Steps.{Step}
use Rattle.guillotiere.specs.Stored.{state_of}
use Rattle.guillotiere_recording.specs.declared.error.RecordingError.{RecordingError}
use Rattle.guillotiere_recording.specs.declared.error.RecordingError.TheVariants as refusal
use Rattle.guillotiere_recording.specs.declared.steps.EventFault.{EventFault}
use Rattle.guillotiere_recording.specs.declared.steps.EventFault.TheVariants as stop
use Rattle.guillotiere_recording.specs.Events.{EventValue}
use Rattle.guillotiere_recording.specs.Events.EventValue.{Allocate}
use Rattle.guillotiere_recording.specs.Logs.{RecordingValue, with_event}
use Rattle.guillotiere_recording.specs.Sessions.{Named, Leads}
use Rattle.guillotiere_recording.specs.Recordings.{SessionValue, session_of, IsFaithful}
use Rattle.guillotiere_recording.specs.Replays.{first_events}
use Rattle.guillotiere_recording.specs.Resuming.{IsResumeFault, IsSameName, AnswersElse}
use Rattle.guillotiere_recording.specs.Halting.{IsHalted, stop_of}
use Rattle.guillotiere_recording.specs.Standing.{fault_of}

pub one_more : (r old new : RecordingValue) (i : ℕ) (event : EventValue) → i < length r.events
    → get_or r.events i event ≡ event
    → old ≡ first_events i r → new ≡ with_event event old → new ≡ first_events (i + 1) r
one_more r old new i event low here before more =
    let next : take (i + 1) r.events ≡ take i r.events ++ event ∷ [] =
    take_more r.events i event low ∙ ap (λ e. take i r.events ++ e ∷ []) here in
    more ∙ ap (with_event event) before ∙ ap (λ es. let it : RecordingValue = record r { events = es } in it) (sym next)

pub whole : (r last : RecordingValue) (i : ℕ) → length r.events ≤ i → last ≡ first_events i r → last ≡ r
whole r last i all is = is ∙ ap (λ es. let it : RecordingValue = record r { events = es } in it) (take_all i r.events all)

pub stops : (r : RecordingValue) (i : ℕ) (event : EventValue) (fault : EventFault) (v : SessionValue)
    → slice_get r.events i ≡ Some event
    → IsFaithful v → v.recording ≡ first_events i r → IsHalted v event fault → IsResumeFault r (fault_of fault i)
stops r i event stop.Memory v here faithful before halted = tt
stops r i event stop.Slots v here faithful before halted =
    (i, record { event = event; here = here; at = v; faithful = faithful; before = before; stops = halted })
stops r i event stop.Differs v here faithful before halted =
    record { event = event; here = here; at = v; faithful = faithful; before = before; stops = halted }
stops r i event stop.Bad v here faithful before halted =
    record { event = event; here = here; at = v; faithful = faithful; before = before; stops = halted }

-- A grant of the next name with the recorded rectangle is the recorded one.
pub same_grant : (size : Size) (answer : Option Allocation) (granted recorded : Allocation) (given : ℕ)
    (old new : RecordingValue)
    → answer ≡ Some granted → IfSome answer (λ a. a.id ≡ given) → recorded.id ≡ given
    → granted.rectangle ≡ recorded.rectangle
    → new ≡ with_event (Allocate size answer) old → new ≡ with_event (Allocate size (Some recorded)) old
same_grant size answer granted recorded given old new is named asked same more =
    let ids : granted.id ≡ recorded.id = subst (λ (o : Option Allocation). IfSome o (λ a. a.id ≡ given)) is named ∙ sym asked in
    let both : granted ≡ recorded =
    ap (λ n. let a : Allocation = record { id = n; rectangle = granted.rectangle } in a) ids
    ∙ ap (λ r. let a : Allocation = record { id = recorded.id; rectangle = r } in a) same in
    more ∙ ap (λ (o : Option Allocation). with_event (Allocate size o) old) (is ∙ ap Some both)

abbrev answer_of : EventValue → Option Allocation
answer_of (Allocate size answer) = answer
answer_of _ = None

-- A grant of the next name has the name of the recorded one.
pub next_name : (answer : Option Allocation) (recorded : Allocation) (given : ℕ) → IfSome answer (λ a. a.id ≡ given)
    → recorded.id ≡ given → IsSameName (Some recorded) answer
next_name None recorded given named asked = tt
next_name (Some a) recorded given named asked = named ∙ sym asked

-- A request is answered otherwise than the event says.
pub answered_else : (v : SessionValue) (size : Size) (answer recorded : Option Allocation) (next : Named)
    → Leads (session_of v) (Allocate size answer) next → IsSameName recorded answer → (answer ≡ recorded → ⊥)
    → AnswersElse v (Allocate size recorded)
answered_else v size answer recorded next leads named other =
    record {
      other = Allocate size answer;
      same = (refl, named);
      next = next;
      leads = leads;
      differs = λ is. other (ap answer_of is);
    }

-- A grant with another rectangle is another grant.
pub other_box : (answer : Option Allocation) (granted recorded : Allocation) → answer ≡ Some granted
    → (granted.rectangle ≡ recorded.rectangle → ⊥) → answer ≡ Some recorded → ⊥
other_box answer granted recorded is other same =
    let both : Some granted ≡ Some recorded = sym is ∙ same in
    other (ap (λ (o : Option Allocation). box_in granted o) both)
  where
    box_in : Allocation → Option Allocation → Rectangle
    box_in a None = a.rectangle
    box_in a (Some b) = b.rectangle

pub no_grant : (answer : Option Allocation) (recorded : Allocation) → answer ≡ None → answer ≡ Some recorded → ⊥
no_grant None recorded is same = cc
no_grant (Some a) recorded is same = cc

pub some_grant : (answer : Option Allocation) (granted : Allocation) → answer ≡ Some granted → answer ≡ None → ⊥
some_grant None granted is same = cc
some_grant (Some a) granted is same = cc

-- A request of the next name that is refused.
pub refused_grant : {X : Type 0} (r : Result X EventFault) (v : SessionValue) (size : Size)
    (recorded : Option Allocation) (e : RecordingError)
    → IsErrAnd r (λ k. k ≡ stop_of e) → v.given < 2 ^ 32
    → (e ≡ refusal.Names) ⊎ ((e ≡ refusal.Slots) ⊎ (e ≡ refusal.Memory))
    → (e ≡ refusal.Names → v.given ≡ 2 ^ 32)
    → (e ≡ refusal.Slots → Step (state_of v.atlas) (atlas.Allocate (sides_of size)) (atlas.Refused error.Slots) (state_of v.atlas))
    → IfErr r (IsHalted v (Allocate size recorded))
refused_grant (Ok x) v size recorded e from below only names slots = tt
refused_grant (Err k) v size recorded e from below only names slots = by_kind only
  where
    by_kind : (e ≡ refusal.Names) ⊎ ((e ≡ refusal.Slots) ⊎ (e ≡ refusal.Memory)) → IsHalted v (Allocate size recorded) k
    by_kind (inl is) = let all = names is in absurd (omega arith)
    by_kind (inr (inl is)) =
        subst (λ f. IsHalted v (Allocate size recorded) f) (sym (from ∙ ap stop_of is))
        (record { call = atlas.Allocate (sides_of size); asked = refl; step = slots is })
    by_kind (inr (inr is)) = subst (λ f. IsHalted v (Allocate size recorded) f) (sym (from ∙ ap stop_of is)) tt
