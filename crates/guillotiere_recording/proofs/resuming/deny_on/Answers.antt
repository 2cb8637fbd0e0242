use Rattle.std.proofs.Common.{None}
use Rattle.guillotiere_recording.specs.Recordings.{session_of}
use Rattle.guillotiere_recording.proofs.Resumed.{answered_else, some_grant}
use Rattle.guillotiere_recording.proofs.resuming.deny_on.Goals as goal

pub returns-in-Some-clause-fault : goal.returns-in-Some-clause-fault
returns-in-Some-clause-fault g c =
    answered_else c.args.session.now c.args.size c.in_ok-allocate.field-0 None (session_of c.allocate.new.self) c.in_ok-allocate.ensures.led
    tt
    (some_grant c.in_ok-allocate.field-0 c.in-Some.field-0 c.in-Some.is)
