use Rattle.std.proofs.Common.{◌≡◌, ◌<◌, ◌≤◌, get_or, length, map, refl, ap, sym, subst, ◌∙◌}
use Rattle.std.proofs.lemmas.List.{get_or-map, length-map}
use Rattle.std.proofs.lemmas.Option.{slice_get_read}
use Rattle.guillotiere_recording.specs.Events.{event_of}
use Rattle.guillotiere_recording.specs.Logs.{recording_of}
use Rattle.guillotiere_recording.specs.Replays.{IsFaultOf, is_granted_event, is_freeing, is_failed_request}
use Rattle.guillotiere_recording.proofs.Counts.{count_map}
use Rattle.guillotiere_recording.proofs.ReplayEnds.{begins, goes_on, stops, ends, found_has_box}
use Rattle.guillotiere_recording.proofs.log.Log.replay.Goals as goal

pub loop-at-init : goal.loop-at-init
loop-at-init g c =
    begins (recording_of c.args.self.now) c.in-Ok.atlas c.new-names.result c.args.self.now.nonempty c.args.self.now.valid
    c.in-Ok.ensures.state c.new-names.ensures.empty

pub loop-at-preserved : goal.loop-at-preserved
loop-at-preserved g c =
    let log = c.args.self.now in
    let event = c.event-item.result in
    let at = c.loop-at.at in
    let low : at < length log.events.items = subst (λ n. at < n) (ap length c.deref-event-items.ensures.value) c.loop-at-test.true in
    let is : event ≡ get_or log.events.items at event =
    c.event-item.is ∙ ap (λ xs. get_or xs at event) c.deref-event-items.ensures.value in
    let few : at < length (map event_of log.events.items) = subst (λ n. at < n) (sym (length-map log.events.items event_of)) low in
    let here : get_or (map event_of log.events.items) at (event_of event) ≡ event_of event =
    get_or-map event_of log.events.items at event (event_of event) low ∙ ap event_of (sym is) in
    goes_on (recording_of log) at (event_of event) c.loop-at.atlas c.carry_out.new.atlas c.loop-at.names c.carry_out.new.names few here
    c.in_default-carry_out.ensures.ok c.loop-at.invariant

pub returns-in-Err-clause-fault : goal.returns-in-Err-clause-fault
returns-in-Err-clause-fault g c =
    let log = c.args.self.now in
    let event = c.event-item.result in
    let at = c.loop-at.at in
    let low : at < length log.events.items = subst (λ n. at < n) (ap length c.deref-event-items.ensures.value) c.loop-at-test.true in
    let is : event ≡ get_or log.events.items at event =
    c.event-item.is ∙ ap (λ xs. get_or xs at event) c.deref-event-items.ensures.value in
    let few : at < length (map event_of log.events.items) = subst (λ n. at < n) (sym (length-map log.events.items event_of)) low in
    let here : get_or (map event_of log.events.items) at (event_of event) ≡ event_of event =
    get_or-map event_of log.events.items at event (event_of event) low ∙ ap event_of (sym is) in
    subst (IsFaultOf (recording_of log)) (sym c.fault_at.ensures)
    (stops (recording_of log) at (event_of event) c.in-Err.fault c.loop-at.atlas c.loop-at.names
    (slice_get_read (map event_of log.events.items) (length (map event_of log.events.items)) at (event_of event) refl few (sym here))
    c.in-Err.ensures.fault c.loop-at.invariant)

pub gather_live-requires : goal.gather_live-requires
gather_live-requires g c = λ name id is.
    let stands = c.loop-at.invariant in
    found_has_box c.loop-at.atlas c.loop-at.names stands.0 name id stands.2 is

pub returns-clause-replayed : goal.returns-clause-replayed
returns-clause-replayed g c =
    let log = c.args.self.now in
    let whole : length (map event_of log.events.items) ≤ c.loop-at.at =
    subst (λ n. n ≤ c.loop-at.at) (ap length c.deref-event-items.ensures.value ∙ sym (length-map log.events.items event_of))
    c.loop-at-test.false in
    let e = ends (recording_of log) c.loop-at.at c.loop-at.atlas c.loop-at.names c.in_ok-live.live.items whole c.loop-at.invariant
    c.in_ok-live.ensures.ordered c.in_ok-live.ensures.found c.in_ok-live.ensures.list in
    record {
      recorded = e.0;
      live = e.1;
      allocations = c.grants.ensures ∙ sym (count_map event_of is_granted_event log.events.items);
      deallocations = c.freeings.ensures ∙ sym (count_map event_of is_freeing log.events.items);
      failed = c.failed_requests.ensures ∙ sym (count_map event_of is_failed_request log.events.items);
    }

pub carry_out-requires : goal.carry_out-requires
carry_out-requires g c = let stands = c.loop-at.invariant in (stands.0, stands.2)
