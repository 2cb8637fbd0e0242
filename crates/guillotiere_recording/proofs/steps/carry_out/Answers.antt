use Rattle.std.proofs.Common.{OnOk, IfErr, ap, sym, subst}
use Rattle.guillotiere_recording.specs.Events.{EventValue, event_of}
use Rattle.guillotiere_recording.specs.Standing.{CarriesOut, IsStopped}
use Rattle.guillotiere_recording.proofs.steps.carry_out.Goals as goal

pub returns-in-Deallocate-clause-ok : goal.returns-in-Deallocate-clause-ok
returns-in-Deallocate-clause-ok g c =
    subst (λ (e : EventValue). OnOk c.free_again.result (CarriesOut c.args.atlas.now c.args.names.now e c.free_again.new.atlas
    c.free_again.new.names))
    (sym (ap event_of c.in-Deallocate.is)) c.free_again.ensures.ok

pub returns-in-Deallocate-clause-fault : goal.returns-in-Deallocate-clause-fault
returns-in-Deallocate-clause-fault g c =
    subst (λ (e : EventValue). IfErr c.free_again.result (IsStopped c.args.atlas.now c.args.names.now e))
    (sym (ap event_of c.in-Deallocate.is)) c.free_again.ensures.fault

pub returns-in-Allocate-clause-ok : goal.returns-in-Allocate-clause-ok
returns-in-Allocate-clause-ok g c =
    subst (λ (e : EventValue). OnOk c.request_again.result (CarriesOut c.args.atlas.now c.args.names.now e c.request_again.new.atlas
    c.request_again.new.names))
    (sym (ap event_of c.in-Allocate.is)) c.request_again.ensures.ok

pub returns-in-Grow-clause-ok : goal.returns-in-Grow-clause-ok
returns-in-Grow-clause-ok g c =
    subst (λ (e : EventValue). OnOk c.grow_again.result (CarriesOut c.args.atlas.now c.args.names.now e c.grow_again.new.atlas
    c.args.names.now))
    (sym (ap event_of c.in-Grow.is)) c.grow_again.ensures.ok

pub returns-in-Rearrange-clause-ok : goal.returns-in-Rearrange-clause-ok
returns-in-Rearrange-clause-ok g c =
    subst (λ (e : EventValue). OnOk c.rearrange_again.result (CarriesOut c.args.atlas.now c.args.names.now e c.rearrange_again.new.atlas
    c.rearrange_again.new.names))
    (sym (ap event_of c.in-Rearrange.is)) c.rearrange_again.ensures.ok

pub returns-in-ResizeAndRearrange-clause-ok : goal.returns-in-ResizeAndRearrange-clause-ok
returns-in-ResizeAndRearrange-clause-ok g c =
    subst (λ (e : EventValue). OnOk c.resize_again.result (CarriesOut c.args.atlas.now c.args.names.now e c.resize_again.new.atlas
    c.resize_again.new.names))
    (sym (ap event_of c.in-ResizeAndRearrange.is)) c.resize_again.ensures.ok
