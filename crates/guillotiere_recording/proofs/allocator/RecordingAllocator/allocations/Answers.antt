use Rattle.std.proofs.Common.{◌≡◌, map, sym, subst, ap, ◌∙◌, All, IsSome, IfOk, Result, Ok, Err}
use Rattle.guillotiere.specs.Stored.{state_of}
use Rattle.guillotiere.specs.Replies.{live_box}
use Rattle.guillotiere_recording.specs.declared.names.LiveName.{LiveName as Entry}
use Rattle.guillotiere_recording.specs.Names.{shown}
use Rattle.guillotiere_recording.specs.Recordings.{SessionValue, AreBooked}
use Rattle.guillotiere_recording.proofs.ShownBooks.{entries_have_boxes, shown_book}
use Rattle.guillotiere_recording.proofs.allocator.RecordingAllocator.allocations.Goals as goal

-- What holds of a list that is given holds of what it is.
given : {X E L : Type 0} (r : Result X E) (items : X → L) (l : L) (P : L → Type 0) → ((k : L) → k ≡ l → P k)
    → IfOk r (λ x. items x ≡ l) → IfOk r (λ x. P (items x))
given (Ok x) items l P all is = all (items x) is
given (Err e) items l P all is = tt

pub gather_names-requires : goal.gather_names-requires
gather_names-requires g c =
    subst (λ ns. All (λ (n : Entry). IsSome (live_box (state_of c.self.inside.atlas) n.id)) ns) (sym c.deref.ensures.value)
    (entries_have_boxes _ c.self.invariant)

pub returns-clause-list : goal.returns-clause-list
returns-clause-list g c =
    given c.gather_names.result (λ v. v.items) (map (shown (state_of c.self.inside.atlas)) c.deref.result.now)
    (AreBooked c.args.self.now.recording.events)
    (λ found is. subst (λ (v : SessionValue). AreBooked v.recording.events found) c.self.view_is
    (shown_book _ found c.self.invariant (is ∙ ap (map (shown (state_of c.self.inside.atlas))) c.deref.ensures.value)))
    c.gather_names.ensures.list
