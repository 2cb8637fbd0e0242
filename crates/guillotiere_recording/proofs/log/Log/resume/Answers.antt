use Rattle.std.proofs.Common.{◌≡◌, ◌<◌, ◌≤◌, get_or, length, map, refl, ap, sym, subst, ◌∙◌}
use Rattle.std.proofs.lemmas.List.{get_or-map, length-map}
use Rattle.std.proofs.lemmas.Option.{slice_get_read}
use Rattle.guillotiere_recording.specs.Events.{event_of}
use Rattle.guillotiere_recording.specs.Logs.{recording_of}
use Rattle.guillotiere_recording.specs.Resuming.{IsResumeFault}
use Rattle.guillotiere_recording.proofs.Resumed.{one_more, whole, stops}
use Rattle.guillotiere_recording.proofs.log.Log.resume.Goals as goal

pub loop-at-init : goal.loop-at-init
loop-at-init g c = c.in-Ok.ensures.new.recording

pub loop-at-preserved : goal.loop-at-preserved
loop-at-preserved g c =
    let log = c.args.self.now in
    let event = c.event-item.result in
    let at = c.loop-at.at in
    let low : at < length log.events.items = subst (λ n. at < n) (ap length c.deref-event-items.ensures.value) c.loop-at-test.true in
    let is : event ≡ get_or log.events.items at event =
    c.event-item.is ∙ ap (λ xs. get_or xs at event) c.deref-event-items.ensures.value in
    let few : at < length (map event_of log.events.items) = subst (λ n. at < n) (sym (length-map log.events.items event_of)) low in
    let here : get_or (map event_of log.events.items) at (event_of event) ≡ event_of event =
    get_or-map event_of log.events.items at event (event_of event) low ∙ ap event_of (sym is) in
    one_more (recording_of log) c.loop-at.session.recording c.carry_on.new.session.recording at (event_of event) few here
    c.loop-at.invariant c.in_default-carry_on.ensures.ok

pub returns-in-Err-clause-fault : goal.returns-in-Err-clause-fault
returns-in-Err-clause-fault g c =
    let log = c.args.self.now in
    let event = c.event-item.result in
    let at = c.loop-at.at in
    let low : at < length log.events.items = subst (λ n. at < n) (ap length c.deref-event-items.ensures.value) c.loop-at-test.true in
    let is : event ≡ get_or log.events.items at event =
    c.event-item.is ∙ ap (λ xs. get_or xs at event) c.deref-event-items.ensures.value in
    let few : at < length (map event_of log.events.items) = subst (λ n. at < n) (sym (length-map log.events.items event_of)) low in
    let here : get_or (map event_of log.events.items) at (event_of event) ≡ event_of event =
    get_or-map event_of log.events.items at event (event_of event) low ∙ ap event_of (sym is) in
    subst (IsResumeFault (recording_of log)) (sym c.fault_at.ensures)
    (stops (recording_of log) at (event_of event) c.in-Err.fault c.loop-at.session
    (slice_get_read (map event_of log.events.items) (length (map event_of log.events.items)) at (event_of event) refl few (sym here))
    c.size-size.ensures.faithful c.loop-at.invariant c.in-Err.ensures.fault)

pub returns-clause-resumed : goal.returns-clause-resumed
returns-clause-resumed g c =
    let log = c.args.self.now in
    let all : length (map event_of log.events.items) ≤ c.loop-at.at =
    subst (λ n. n ≤ c.loop-at.at) (ap length c.deref-event-items.ensures.value ∙ sym (length-map log.events.items event_of))
    c.loop-at-test.false in
    whole (recording_of log) c.loop-at.session.recording c.loop-at.at all c.loop-at.invariant
