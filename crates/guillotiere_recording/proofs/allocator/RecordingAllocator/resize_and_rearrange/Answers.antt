use Rattle.std.proofs.Common.{◌≡◌, refl, ap, ap₂, sym, subst, ◌∙◌}
use Rattle.guillotiere.specs.declared.AtlasError.TheVariants.{Slots}
use Rattle.guillotiere.specs.Pixels.{sides_of}
use Rattle.guillotiere.specs.Rearranging.{rearrangement_of}
use Rattle.guillotiere.specs.States.{State}
use Rattle.guillotiere.specs.Steps as atlas
use Rattle.guillotiere.specs.Steps.{Step}
use Rattle.guillotiere.specs.Stored.{Stored, state_of}
use Rattle.guillotiere_recording.specs.Events.{list_value_of}
use Rattle.guillotiere_recording.specs.Events.EventValue.{ResizeAndRearrange}
use Rattle.guillotiere_recording.specs.Logs.{with_event, recording_of}
use Rattle.guillotiere_recording.specs.Moves.{AreEntered, IsMoved}
use Rattle.guillotiere_recording.specs.Names.{name_among}
use Rattle.guillotiere_recording.specs.Recordings.{SessionValue, session_of}
use Rattle.guillotiere_recording.specs.Sessions.{RearrangesUnder}
use Rattle.guillotiere_recording.proofs.Rearranged.{kept_of, all_entered, rearranges_under, once_after, rearranged_session}
use Rattle.guillotiere_recording.proofs.Refusals.{slots_step}
use Rattle.guillotiere_recording.proofs.allocator.RecordingAllocator.resize_and_rearrange.Goals as goal

-- The state of an atlas is what it stores.
abbrev stands : Stored → State
stands s = state_of (record { stored = s; turns = 0; capacity = 0 })

pub returns-in_err-answer-clause-slots : goal.returns-in_err-answer-clause-slots
returns-in_err-answer-clause-slots g c is =
    let call = atlas.ResizeAndRearrange (sides_of c.args.new_size) in
    let same : state_of c.in_ok-atlas.atlas ≡ state_of c.self.inside.atlas = ap stands c.in_ok-atlas.ensures.equal in
    let first = subst (λ s. Step s call (atlas.Refused c.in_err-answer.field-0.0) (state_of c.resize_and_rearrange.new.self)) same
    c.in_err-answer.ensures.step in
    let step = slots_step c.from_residual-in_err-answer.result c.in_err-answer.field-0.0 (state_of c.self.inside.atlas)
    (state_of c.resize_and_rearrange.new.self)
    call c.from_residual-in_err-answer.ensures.1 first (ap state_of c.in_err-answer.ensures.refused ∙ same) is in
    subst (λ (v : SessionValue). Step (state_of v.atlas) call (atlas.Refused Slots) (state_of v.atlas)) c.self.view_is step

pub under_names-requires : goal.under_names-requires
under_names-requires g c =
    let call = atlas.ResizeAndRearrange (sides_of c.args.new_size) in
    let same : state_of c.in_ok-atlas.atlas ≡ state_of c.self.inside.atlas = ap stands c.in_ok-atlas.ensures.equal in
    let step = subst (λ s. Step s call (atlas.Changed (rearrangement_of c.in_ok-answer.answer)) (state_of c.resize_and_rearrange.new.self))
    same c.in_ok-answer.ensures.step in
    subst (λ ns. AreEntered ns c.in_ok-answer.answer.changes.items c.in_ok-answer.answer.failures.items) (sym c.deref.ensures.value)
    (all_entered _ (state_of c.resize_and_rearrange.new.self) c.in_ok-answer.answer call (kept_of _ c.self.invariant) step)

pub invariant_of-self-2 : goal.invariant_of-self-2
invariant_of-self-2 g c =
    let call = atlas.ResizeAndRearrange (sides_of c.args.new_size) in
    let m = c.in_ok-list.field-0 in
    let same : state_of c.in_ok-atlas.atlas ≡ state_of c.self.inside.atlas = ap stands c.in_ok-atlas.ensures.equal in
    let step = subst (λ s. Step s call (atlas.Changed (rearrangement_of c.in_ok-answer.answer)) (state_of c.resize_and_rearrange.new.self))
    same c.in_ok-answer.ensures.step in
    let moved = subst (λ ns. IsMoved ns c.in_ok-answer.answer m) c.deref.ensures.value c.in_ok-list.ensures.moved in
    let noted = ap₂ (λ xs ys. with_event (ResizeAndRearrange c.args.new_size (record { changes = xs; failures = ys }))
    (recording_of c.make_room.new.self))
    c.in_ok-clone.ensures.changes c.in_ok-clone.ensures.failures in
    let more = c.note.ensures ∙ noted ∙ ap (with_event (ResizeAndRearrange c.args.new_size (list_value_of m.list)))
    c.in_ok-make_room.ensures.same in
    let led = rearranges_under _ c.resize_and_rearrange.new.self c.in_ok-answer.answer m call (kept_of _ c.self.invariant) step
    c.in_ok-answer.ensures.exact moved
    (once_after _ (state_of c.resize_and_rearrange.new.self) c.in_ok-answer.answer call (kept_of _ c.self.invariant) step) in
    rearranged_session _ c.resize_and_rearrange.new.self m.names.items (recording_of c.note.new.self) c.in_ok-answer.answer m call
    (ResizeAndRearrange c.args.new_size (list_value_of m.list))
    c.self.invariant step moved refl more refl led

pub returns-clause-led : goal.returns-clause-led
returns-clause-led g c =
    let call = atlas.ResizeAndRearrange (sides_of c.args.new_size) in
    let m = c.in_ok-list.field-0 in
    let same : state_of c.in_ok-atlas.atlas ≡ state_of c.self.inside.atlas = ap stands c.in_ok-atlas.ensures.equal in
    let step = subst (λ s. Step s call (atlas.Changed (rearrangement_of c.in_ok-answer.answer)) (state_of c.resize_and_rearrange.new.self))
    same c.in_ok-answer.ensures.step in
    let moved = subst (λ ns. IsMoved ns c.in_ok-answer.answer m) c.deref.ensures.value c.in_ok-list.ensures.moved in
    let led = rearranges_under _ c.resize_and_rearrange.new.self c.in_ok-answer.answer m call (kept_of _ c.self.invariant) step
    c.in_ok-answer.ensures.exact moved
    (once_after _ (state_of c.resize_and_rearrange.new.self) c.in_ok-answer.answer call (kept_of _ c.self.invariant) step) in
    subst (λ (v : SessionValue). RearrangesUnder (session_of v) call (list_value_of m.list)
    (record { state = state_of c.resize_and_rearrange.new.self; name = name_among m.names.items })) c.self.view_is led
