use Rattle.std.proofs.Common.{OnOk, sym, subst, Option}
use Rattle.guillotiere.specs.declared.Allocation.{Allocation}
use Rattle.guillotiere_recording.specs.Events.EventValue.{Allocate}
use Rattle.guillotiere_recording.specs.Standing.{CarriesOut}
use Rattle.guillotiere_recording.proofs.steps.request_again.Goals as goal

pub returns-in-Some-clause-ok : goal.returns-in-Some-clause-ok
returns-in-Some-clause-ok g c =
    subst (λ (o : Option Allocation). OnOk c.grant_again.result (CarriesOut c.args.atlas.now c.args.names.now (Allocate c.args.size o)
    c.grant_again.new.atlas c.grant_again.new.names))
    (sym c.in-Some.is) c.grant_again.ensures.ok

pub returns-in-None-clause-ok : goal.returns-in-None-clause-ok
returns-in-None-clause-ok g c =
    subst (λ (o : Option Allocation). OnOk c.deny_again.result (CarriesOut c.args.atlas.now c.args.names.now (Allocate c.args.size o)
    c.deny_again.new.atlas c.args.names.now))
    (sym c.in-None.is) c.deny_again.ensures.ok
