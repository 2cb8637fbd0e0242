use Rattle.std.proofs.Common.{map, sym, subst, ap, All, IsSome, arith}
use Rattle.std.proofs.lemmas.Int.{ints}
use Rattle.guillotiere.specs.declared.Allocation.{Allocation}
use Rattle.guillotiere.specs.Stored.{state_of}
use Rattle.guillotiere.specs.Replies.{live_box}
use Rattle.guillotiere.specs.Walks.{IsShownArea}
use Rattle.guillotiere_recording.specs.declared.names.LiveName.{LiveName as Entry}
use Rattle.guillotiere_recording.specs.Names.{shown}
use Rattle.guillotiere_recording.specs.Recordings.{SessionValue, AreBooked}
use Rattle.guillotiere_recording.proofs.ShownBooks.{entries_have_boxes, entries_show_areas, shown_book}
use Rattle.guillotiere_recording.proofs.allocator.RecordingAllocator.for_each_allocated_rectangle.Goals as goal

pub visit_names-requires-clause-live : goal.visit_names-requires-clause-live
visit_names-requires-clause-live g c =
    subst (λ ns. All (λ (n : Entry). IsSome (live_box (state_of c.self.inside.atlas) n.id)) ns) (sym c.deref.ensures.value)
    (entries_have_boxes _ c.self.invariant)

pub visit_names-requires-clause-shown : goal.visit_names-requires-clause-shown
visit_names-requires-clause-shown g c =
    subst (λ ns. All (λ (a : Allocation). IsShownArea a.rectangle) (map (shown (state_of c.self.inside.atlas)) ns))
    (sym c.deref.ensures.value)
    (entries_show_areas _ c.self.invariant (grind (arith, ints, c.size-size.ensures.size)) (grind (arith, ints, c.size-size.ensures.size)))

pub visit_names-requires-clause-callable : goal.visit_names-requires-clause-callable
visit_names-requires-clause-callable g c =
    let shows = map (shown (state_of c.self.inside.atlas)) c.deref.result.now in
    let booked = shown_book _ shows c.self.invariant (ap (map (shown (state_of c.self.inside.atlas))) c.deref.ensures.value) in
    c.requires shows (subst (λ (v : SessionValue). AreBooked v.recording.events shows) c.self.view_is booked)

pub returns : goal.returns
returns g c =
    let shows = map (shown (state_of c.self.inside.atlas)) c.deref.result.now in
    let booked = shown_book _ shows c.self.invariant (ap (map (shown (state_of c.self.inside.atlas))) c.deref.ensures.value) in
    (shows, subst (λ (v : SessionValue). AreBooked v.recording.events shows) c.self.view_is booked, c.visit_names.ensures)
