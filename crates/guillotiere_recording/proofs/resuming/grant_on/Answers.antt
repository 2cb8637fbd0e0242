use Rattle.std.proofs.Common.{Some, Err, ap, rules}
use Rattle.guillotiere_recording.specs.Recordings.{session_of}
use Rattle.guillotiere_recording.proofs.Resumed.{same_grant, answered_else, next_name, other_box, no_grant, refused_grant}
use Rattle.guillotiere_recording.proofs.resuming.grant_on.Goals as goal

pub returns-in_err-granted-clause-fault : goal.returns-in_err-granted-clause-fault
returns-in_err-granted-clause-fault g c =
    refused_grant c.from_residual.result c.args.session.now c.args.size (Some c.args.recorded.now) c.in_err-granted.field-0.0
    c.from_residual.ensures.1 (c.gives.ensures.below (search rules)) c.in_err-granted.ensures.only
    (λ is. c.in_err-granted.ensures.names.0 (ap Err is)) (λ is. c.in_err-granted.ensures.slots (ap Err is))

pub returns-then-not-are_same-clause-fault : goal.returns-then-not-are_same-clause-fault
returns-then-not-are_same-clause-fault g c =
    answered_else c.args.session.now c.args.size c.in_ok-granted.field-0 (Some c.args.recorded.now) (session_of c.allocate.new.self)
    c.in_ok-granted.ensures.led
    (next_name c.in_ok-granted.field-0 c.args.recorded.now c.args.session.now.given c.in_ok-granted.ensures.given (search rules))
    (other_box c.in_ok-granted.field-0 c.in-Some.granted c.args.recorded.now c.in-Some.is (search rules))

pub returns-in-None-clause-fault : goal.returns-in-None-clause-fault
returns-in-None-clause-fault g c =
    answered_else c.args.session.now c.args.size c.in_ok-granted.field-0 (Some c.args.recorded.now) (session_of c.allocate.new.self)
    c.in_ok-granted.ensures.led
    (next_name c.in_ok-granted.field-0 c.args.recorded.now c.args.session.now.given c.in_ok-granted.ensures.given (search rules))
    (no_grant c.in_ok-granted.field-0 c.args.recorded.now c.in-None.is)

pub returns-else-not-are_same-clause-ok : goal.returns-else-not-are_same-clause-ok
returns-else-not-are_same-clause-ok g c =
    same_grant c.args.size c.in_ok-granted.field-0 c.in-Some.granted c.args.recorded.now c.args.session.now.given
    c.args.session.now.recording c.allocate.new.self.recording c.in-Some.is c.in_ok-granted.ensures.given (search rules) (search rules)
    c.in_ok-granted.ensures.recorded
