-- Calls of a simple allocator as data, their replies, and what a list of calls made in turn keeps to.
use Rattle.std.specs.Prelude.{◌≡◌, ⊤, Bool, true, false, List, [], ◌∷◌, length, map}
use Rattle.guillotiere.specs.declared.session.simple.SimpleCall.{SimpleCall}
use Rattle.guillotiere.specs.declared.session.simple.SimpleCall.TheVariants as call
use Rattle.guillotiere.specs.declared.session.simple.SimpleReply.{SimpleReply}
use Rattle.guillotiere.specs.declared.session.simple.SimpleReply.TheVariants as reply
use Rattle.atlas_model.specs.declared.error.AtlasError.TheVariants.{Memory}
use Rattle.atlas_model.specs.Pixels.{sides_of, options_of, box_of}
use Rattle.atlas_model.specs.Replies.{IsExact}
use Rattle.atlas_model.specs.States.{State}
use Rattle.atlas_model.specs.Simple.{SimpleAtlasCall, SimpleAnswer, SimpleStep}
use Rattle.atlas_model.specs.Simple.SimpleAtlasCall.{Allocate, Grow, Clear, Reset, Start}
use Rattle.atlas_model.specs.Simple.SimpleAnswer.{Granted, NoRoom, Done, Refused, BadCall}
use Rattle.atlas_model.specs.Simple.SimpleRuns.{SimpleRun, KeepsGuard}
use Rattle.guillotiere.specs.SimpleStored.{SimpleValue, simple_state_of, KeepsRoom, MayAskMemory, UsesEachEntry, UsesOldEntries}

-- A start takes over from the atlas that is handed in.
abbrev pub simple_call_of : (source : State) → SimpleCall → SimpleAtlasCall
simple_call_of source (call.Allocate size) = Allocate (sides_of size)
simple_call_of source (call.Grow size) = Grow (sides_of size)
simple_call_of source call.Clear = Clear
simple_call_of source (call.Reset size options) = Reset (sides_of size) (options_of options)
simple_call_of source call.Start = Start source

abbrev pub simple_answer_of : SimpleReply → SimpleAnswer
simple_answer_of (reply.Granted rectangle) = Granted (box_of rectangle)
simple_answer_of reply.NoRoom = NoRoom
simple_answer_of reply.Done = Done
simple_answer_of (reply.Refused error) = Refused error
simple_answer_of reply.BadCall = BadCall

-- A granted rectangle has the coordinates of its box.
abbrev pub GrantsExact : SimpleReply → Type 0
GrantsExact (reply.Granted rectangle) = IsExact rectangle
GrantsExact _ = Unit {0}

abbrev pub simple_calls_of : (source : State) → List SimpleCall → List SimpleAtlasCall
simple_calls_of source calls = map (simple_call_of source) calls

abbrev pub simple_answers_of : List SimpleReply → List SimpleAnswer
simple_answers_of replies = map simple_answer_of replies

-- Whether an answer says that nothing was done.
abbrev pub is_denial : SimpleAnswer → Bool
is_denial NoRoom = true
is_denial (Refused error) = true
is_denial BadCall = true
is_denial _ = false

-- What a call and its answer say of entries: unused ones come first, and after a start none is unused.
abbrev pub UsesEntries : SimpleValue → SimpleAtlasCall → SimpleAnswer → SimpleValue → Type 0
UsesEntries old (Allocate request) (Granted box) new = UsesOldEntries old new
UsesEntries old (Grow size) Done new = UsesOldEntries old new
UsesEntries old call Done new = UsesEachEntry new
UsesEntries old call answer new = ⊤

-- A call has this reply and leads to new: it is a step of the model, and a granted rectangle is exact; where nothing
-- was done, all is as before; memory is refused only to a call that may ask for it; the room is kept.
pub record IsSimplyAnswered (old : SimpleValue) (call : SimpleAtlasCall) (reply : SimpleReply) (new : SimpleValue)
    : Type 0 where
  pub step : SimpleStep (simple_state_of old) call (simple_answer_of reply) (simple_state_of new)
  pub exact : GrantsExact reply
  pub unchanged : is_denial (simple_answer_of reply) ≡ true → new ≡ old
  pub entries : UsesEntries old call (simple_answer_of reply) new
  pub memory : simple_answer_of reply ≡ Refused Memory → MayAskMemory old call
  pub room : KeepsRoom old call new

-- Each call has its reply, and leads from one stored value to the next.
abbrev pub AreSimplyAnswered : SimpleValue → List SimpleAtlasCall → List SimpleReply → SimpleValue → Type 0
AreSimplyAnswered old [] [] new = new ≡ old
AreSimplyAnswered old (call ∷ calls) (reply ∷ replies) new =
    (mid : SimpleValue) × IsSimplyAnswered old call reply mid × AreSimplyAnswered mid calls replies new
AreSimplyAnswered old [] (reply ∷ replies) new = ⊥
AreSimplyAnswered old (call ∷ calls) [] new = ⊥

-- Calls made of a simple allocator in turn, and their replies, one for each. They are a run of the model. It keeps
-- guarded what was held before it, with what was granted since.
pub record IsSimpleSession (source : State) (old : SimpleValue) (calls : List SimpleCall)
    (replies : List SimpleReply) (new : SimpleValue) : Type 0 where
  pub answered : AreSimplyAnswered old (simple_calls_of source calls) replies new
  pub count : length replies ≡ length calls
  pub run :
      SimpleRun (simple_state_of old) (simple_calls_of source calls) (simple_answers_of replies) (simple_state_of new)
  pub guard :
      KeepsGuard (simple_state_of old) (simple_calls_of source calls) (simple_answers_of replies) (simple_state_of new)
