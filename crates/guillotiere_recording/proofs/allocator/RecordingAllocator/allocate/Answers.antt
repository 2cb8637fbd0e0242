use Rattle.std.proofs.Common.{Option, Some, None, IfSome, Ok, ap, subst, ◌∙◌, ◌++◌, ◌∷◌, []}
use Rattle.guillotiere.specs.declared.Allocation.{Allocation}
use Rattle.guillotiere.specs.Pixels.{sides_of}
use Rattle.guillotiere.specs.Replies.{allocate_reply, IsExact}
use Rattle.guillotiere.specs.declared.AtlasError.TheVariants.{Slots}
use Rattle.guillotiere_recording.specs.Recordings.{SessionValue}
use Rattle.guillotiere.specs.Stored.{state_of}
use Rattle.guillotiere.specs.Steps as atlas
use Rattle.guillotiere.specs.Steps.{Step}
use Rattle.guillotiere_recording.specs.Logs.{with_event, recording_of}
use Rattle.guillotiere_recording.specs.Events.EventValue.{Allocate}
use Rattle.guillotiere_recording.proofs.RecordedSessions.{unroomed_session, granted_session, led_by_grant, named_entry, under}
use Rattle.guillotiere_recording.proofs.Refusals.{slots_step, names_left}
use Rattle.guillotiere_recording.proofs.allocator.RecordingAllocator.allocate.Goals as goal

-- src/allocator.rt:117:15
pub returns-in_err-granted-clause-slots : goal.returns-in_err-granted-clause-slots
returns-in_err-granted-clause-slots g c is =
    let call = atlas.Allocate (sides_of c.args.requested_size) in
    let same = ap state_of c.in_err-granted.ensures.refused in
    let step = slots_step c.from_residual-in_err-granted.result c.in_err-granted.field-0.0 (state_of c.self.inside.atlas)
    (state_of c.allocate.new.self)
    call c.from_residual-in_err-granted.ensures.1 c.in_err-granted.ensures.step same is in
    subst (λ (v : SessionValue). Step (state_of v.atlas) call (atlas.Refused Slots) (state_of v.atlas)) c.self.view_is step

-- src/allocator.rt:125:17
pub invariant_of-self-in-Some : goal.invariant_of-self-in-Some
invariant_of-self-in-Some g c =
    let size = c.args.requested_size in
    let granted = c.in-Some.granted in
    let given = c.self.inside.given in
    let step = subst (λ o. Step (state_of c.self.inside.atlas) (atlas.Allocate (sides_of size)) (allocate_reply (Ok o))
    (state_of c.allocate.new.self))
    c.in-Some.is c.in_ok-granted.ensures.step in
    let exact = subst (λ (o : Option Allocation). IfSome o (λ a. IsExact a.rectangle)) c.in-Some.is c.in_ok-granted.ensures.exact in
    let names = c.append.ensures ∙ ap (λ ns. ns ++ named_entry given granted ∷ []) c.in_ok-reserve.ensures.items in
    let answered = ap (λ x. with_event (Allocate size (Some x)) (recording_of c.make_room.new.self)) c.under_name-answer.ensures in
    let more = c.note.ensures ∙ answered ∙ ap (with_event (Allocate size (Some (under given granted)))) c.in_ok-make_room.ensures.same in
    granted_session _ c.allocate.new.self c.append.new.items.items (recording_of c.note.new.self) size granted c.self.invariant
    (names_left given c.self.invariant.most c.if-self-eq-NAMES.false) step exact names more

-- src/allocator.rt:129:17
pub invariant_of-self-in-None : goal.invariant_of-self-in-None
invariant_of-self-in-None g c =
    let size = c.args.requested_size in
    let step = subst (λ o. Step (state_of c.self.inside.atlas) (atlas.Allocate (sides_of size)) (allocate_reply (Ok o))
    (state_of c.allocate.new.self))
    c.in-None.is c.in_ok-granted.ensures.step in
    let more = c.note-in-None.ensures ∙ ap (with_event (Allocate size None)) c.in_ok-make_room.ensures.same in
    unroomed_session _ c.allocate.new.self c.reserve.new.self.items (recording_of c.note-in-None.new.self) size c.self.invariant
    c.in_ok-reserve.ensures.items more step

-- src/allocator.rt:101:5
pub returns-in-Some-clause-led : goal.returns-in-Some-clause-led
returns-in-Some-clause-led g c =
    let size = c.args.requested_size in
    let granted = c.in-Some.granted in
    let step = subst (λ o. Step (state_of c.self.inside.atlas) (atlas.Allocate (sides_of size)) (allocate_reply (Ok o))
    (state_of c.allocate.new.self))
    c.in-Some.is c.in_ok-granted.ensures.step in
    let exact = subst (λ (o : Option Allocation). IfSome o (λ a. IsExact a.rectangle)) c.in-Some.is c.in_ok-granted.ensures.exact in
    let names = c.append.ensures ∙ ap (λ ns. ns ++ named_entry c.self.inside.given granted ∷ []) c.in_ok-reserve.ensures.items in
    led_by_grant _ c.args.self.now c.allocate.new.self c.append.new.items.items size granted c.under_name.result c.self.view_is names
    c.under_name.ensures c.self.invariant step exact
