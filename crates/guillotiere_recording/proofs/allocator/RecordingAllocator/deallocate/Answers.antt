use Rattle.std.proofs.Common.{refl, ap, sym, subst, ◌∙◌}
use Rattle.guillotiere.specs.Stored.{state_of}
use Rattle.guillotiere_recording.specs.Logs.{with_event, recording_of}
use Rattle.guillotiere_recording.specs.Events.EventValue.{Deallocate}
use Rattle.guillotiere_recording.specs.Sessions.{IsLiveName}
use Rattle.guillotiere_recording.specs.Recordings.{SessionValue, session_of}
use Rattle.guillotiere_recording.proofs.RecordedSessions.{entry, led_by_freeing, freed_name, found_is_live, missing_is_not_live}
use Rattle.guillotiere_recording.proofs.Refusals.{freeing_succeeds, memory_only}
use Rattle.guillotiere_recording.proofs.allocator.RecordingAllocator.deallocate.Goals as goal

-- src/allocator.rt:141:13
pub returns-in_default-clause-not_live : goal.returns-in_default-clause-not_live
returns-in_default-clause-not_live g c =
    let none = missing_is_not_live _ c.serialize.result c.self.invariant c.in_default.ensures.none in
    let still = subst (λ (v : SessionValue). IsLiveName (session_of v) c.serialize.result → ⊥) c.self.view_is none in
    ((λ _ live. still (subst (λ n. IsLiveName (session_of c.args.self.now) n) (sym c.serialize.ensures) live)), λ _. refl)

-- src/allocator.rt:143:9
pub returns-in_err-make_room-clause-not_live : goal.returns-in_err-make_room-clause-not_live
returns-in_err-make_room-clause-not_live g c =
    let e = entry c.serialize.result c.in-Some.found.id in
    let live = found_is_live _ c.in-Some.found.at c.serialize.result c.in-Some.found.id c.self.invariant c.in-Some.ensures.inside
    (c.in-Some.ensures.found e) in
    let named = subst (λ n. IsLiveName (session_of c.args.self.now) n) c.serialize.ensures
    (subst (λ (v : SessionValue). IsLiveName (session_of v) c.serialize.result) c.self.view_is live.0) in (
      (λ is. absurd (memory_only c.from_residual.result c.in_err-make_room.field-0.0 c.in_err-make_room.ensures.unless
          c.from_residual.ensures.1 is)),
      λ none. absurd (none named),
    )

-- src/allocator.rt:145:9
pub returns-in_err-deallocate-clause-not_live : goal.returns-in_err-deallocate-clause-not_live
returns-in_err-deallocate-clause-not_live g c =
    let at = c.in-Some.found.at in
    let e = entry c.serialize.result c.in-Some.found.id in
    let live = found_is_live _ at c.serialize.result c.in-Some.found.id c.self.invariant c.in-Some.ensures.inside
    (c.in-Some.ensures.found e) in
    absurd (freeing_succeeds (state_of c.self.inside.atlas) (state_of c.deallocate.new.self) c.in-Some.found.id
    c.in_err-deallocate.field-0.0 c.in_err-deallocate.ensures.step live.1)

-- src/allocator.rt:134:5
pub invariant_of-self-2 : goal.invariant_of-self-2
invariant_of-self-2 g c =
    let e = entry c.serialize.result c.in-Some.found.id in
    let event = c.note.ensures ∙ ap (with_event (Deallocate c.args.id)) c.in_ok-make_room.ensures.same in
    let more = event ∙ ap (λ n. with_event (Deallocate n) (recording_of c.self.inside.log)) (sym c.serialize.ensures) in
    freed_name _ c.deallocate.new.self c.remove.new.self.items (recording_of c.note.new.self) c.in-Some.found.at c.serialize.result
    c.in-Some.found.id
    c.self.invariant c.in-Some.ensures.inside (c.in-Some.ensures.found e) c.in_ok-deallocate.ensures.step c.remove.ensures.items more

-- src/allocator.rt:134:5
pub returns-clause-led : goal.returns-clause-led
returns-clause-led g c =
    let e = entry c.serialize.result c.in-Some.found.id in
    led_by_freeing _ c.args.self.now c.deallocate.new.self c.remove.new.self.items c.in-Some.found.at c.serialize.result c.args.id
    c.in-Some.found.id
    c.self.view_is c.serialize.ensures c.remove.ensures.items c.self.invariant c.in-Some.ensures.inside (c.in-Some.ensures.found e)
    c.in_ok-deallocate.ensures.step

-- src/allocator.rt:134:5
pub returns-clause-not_live : goal.returns-clause-not_live
returns-clause-not_live g c =
    let e = entry c.serialize.result c.in-Some.found.id in
    let live = found_is_live _ c.in-Some.found.at c.serialize.result c.in-Some.found.id c.self.invariant c.in-Some.ensures.inside
    (c.in-Some.ensures.found e) in
    let named = subst (λ n. IsLiveName (session_of c.args.self.now) n) c.serialize.ensures
    (subst (λ (v : SessionValue). IsLiveName (session_of v) c.serialize.result) c.self.view_is live.0) in
    ((λ is. absurd cc), λ none. absurd (none named))
