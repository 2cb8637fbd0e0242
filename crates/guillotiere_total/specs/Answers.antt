-- What the model sees of an answer: a call whose condition fails is a bad call.
use Rattle.std.specs.Prelude.{Result, Ok, Err, ⊤}
use Rattle.guillotiere.specs.declared.AtlasError.{AtlasError}
use Rattle.guillotiere.specs.declared.ChangeList.{ChangeList}
use Rattle.guillotiere.specs.Rearranging.{rearrangement_of}
use Rattle.guillotiere.specs.Simple.{SimpleAnswer}
use Rattle.guillotiere.specs.Simple.SimpleAnswer.{Done as SimplyDone, Refused as SimplyRefused, BadCall as SimplyBad}
use Rattle.guillotiere.specs.Steps.{AtlasReply}
use Rattle.guillotiere.specs.Steps.AtlasReply.{Done, Changed, BadCall, Refused as ReplyRefused}
use Rattle.guillotiere_total.specs.declared.error.CallError.{CallError}
use Rattle.guillotiere_total.specs.declared.error.CallError.TheVariants.{Refused}

abbrev pub error_reply : CallError → AtlasReply
error_reply (Refused error) = ReplyRefused error
error_reply e = BadCall

-- Of a call that gives nothing back.
abbrev pub done_reply : Result (Unit {0}) CallError → AtlasReply
done_reply (Ok _) = Done
done_reply (Err error) = error_reply error

abbrev pub change_reply : {A : Type 0} → Result (ChangeList A) CallError → AtlasReply
change_reply (Ok list) = Changed (rearrangement_of list)
change_reply (Err error) = error_reply error

-- Of a call of a simple allocator that gives nothing back.
abbrev pub simple_done : Result (Unit {0}) CallError → SimpleAnswer
simple_done (Ok _) = SimplyDone
simple_done (Err (Refused error)) = SimplyRefused error
simple_done (Err e) = SimplyBad

-- Of what is said of the answer of the call beneath, where that was made.
abbrev pub IfMade : {T : Type 0} → Result T CallError → (Result T AtlasError → Type 0) → Type 0
IfMade (Ok x) P = P (Ok x)
IfMade (Err (Refused e)) P = P (Err e)
IfMade (Err e) P = ⊤
