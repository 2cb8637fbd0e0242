-- Sessions: calls of an atlas as data, their replies, and what a list of calls made in turn keeps to.
use Rattle.std.specs.Prelude.{◌≡◌, ◌+◌, ◌≤◌, ⊤, true, List, [], ◌∷◌, length, map, All}
use Rattle.guillotiere.specs.declared.session.Call.{Call}
use Rattle.guillotiere.specs.declared.session.Call.TheVariants as call
use Rattle.guillotiere.specs.declared.session.Reply.{Reply}
use Rattle.guillotiere.specs.declared.session.Reply.TheVariants as reply
use Rattle.atlas_model.specs.declared.error.AtlasError.TheVariants.{Memory}
use Rattle.atlas_model.specs.Pixels.{sides_of, options_of}
use Rattle.atlas_model.specs.States.{used_in}
use Rattle.atlas_model.specs.Steps.{AtlasCall, AtlasReply, Step}
use Rattle.atlas_model.specs.Steps.AtlasCall.{Allocate, Deallocate, Grow, Clear, Reset, Rearrange, ResizeAndRearrange}
use Rattle.atlas_model.specs.Steps.AtlasReply.{Allocated, NoRoom, Done, Changed, Refused, BadCall}
use Rattle.atlas_model.specs.Laws.StepLaws.{is_refusal}
use Rattle.atlas_model.specs.Runs.{Run, is_plain}
use Rattle.atlas_model.specs.Laws.RunLaws.{IsInOrder, IsRunInOrder, LeavesNoTrace}
use Rattle.atlas_model.specs.RunTurns.{turns_within}
use Rattle.atlas_model.specs.Replies.{grant_of, IsExact}
use Rattle.atlas_model.specs.Rearranging.{rearrangement_of, AreExactChanges}
use Rattle.atlas_store.specs.Reserves.{HasReserve, UsesAtMost}
use Rattle.atlas_store.specs.Stored.{AtlasValue, state_of}

abbrev pub call_of : Call → AtlasCall
call_of (call.Allocate size) = Allocate (sides_of size)
call_of (call.Deallocate id) = Deallocate id
call_of (call.Grow size) = Grow (sides_of size)
call_of call.Clear = Clear
call_of (call.Reset size options) = Reset (sides_of size) (options_of options)
call_of call.Rearrange = Rearrange
call_of (call.ResizeAndRearrange size) = ResizeAndRearrange (sides_of size)

abbrev pub reply_of : {A : Type 0} → Reply A → AtlasReply
reply_of (reply.Allocated allocation) = Allocated (grant_of allocation)
reply_of reply.NoRoom = NoRoom
reply_of reply.Done = Done
reply_of (reply.Changed list) = Changed (rearrangement_of list)
reply_of (reply.Refused error) = Refused error
reply_of reply.BadCall = BadCall

-- Each rectangle of a reply has the coordinates of its box.
abbrev pub IsExactReply : {A : Type 0} → Reply A → Type 0
IsExactReply (reply.Allocated allocation) = IsExact allocation.rectangle
IsExactReply (reply.Changed list) = AreExactChanges list
IsExactReply _ = Unit {0}

-- What a call of an atlas and its reply say of turns: a freeing takes one, and one for each member fewer; no other
-- call takes any.
abbrev pub TakesTurns : AtlasValue → AtlasCall → AtlasReply → AtlasValue → Type 0
TakesTurns old (Deallocate id) Done new =
    new.turns + used_in (state_of new) ≡ old.turns + 1 + used_in (state_of old)
TakesTurns old call reply new = new.turns ≡ old.turns

-- What a call of an atlas says of slots in reserve: a request uses at most 4 more, a growth 3 and a freeing or a start
-- none, and there is memory for no fewer. After a rearrangement there is as much as the new atlas has.
abbrev pub TakesSlots : AtlasValue → AtlasCall → AtlasValue → Type 0
TakesSlots old (Allocate size) new = UsesAtMost 4 old new
TakesSlots old (Grow size) new = UsesAtMost 3 old new
TakesSlots old Rearrange new = ⊤
TakesSlots old (ResizeAndRearrange size) new = ⊤
TakesSlots old call new = UsesAtMost 0 old new

-- Where a call of an atlas is refused memory: it has fewer slots in reserve than it may use.
abbrev pub MayLackSlots : AtlasValue → AtlasCall → Type 0
MayLackSlots v (Allocate size) = HasReserve 4 v → ⊥
MayLackSlots v (Grow size) = HasReserve 3 v → ⊥
MayLackSlots v call = ⊤

-- A call has this reply and leads to new: it is a step of the model, and its rectangles are exact; where nothing was
-- done, all is as before; what is in reserve is used as the call says, and memory is refused only where too little is.
pub record IsAnswered {A : Type 0} (old : AtlasValue) (call : AtlasCall) (reply : Reply A) (new : AtlasValue)
    : Type 0 where
  pub step : Step (state_of old) call (reply_of reply) (state_of new)
  pub exact : IsExactReply reply
  pub unchanged : is_refusal (reply_of reply) ≡ true → new ≡ old
  pub turns : TakesTurns old call (reply_of reply) new
  pub slots : TakesSlots old call new
  pub memory : reply_of reply ≡ Refused Memory → MayLackSlots old call

-- As many replies as calls, and each call is answered from what the one before it left.
abbrev pub AreAnswered : {A : Type 0} → AtlasValue → List Call → List (Reply A) → AtlasValue → Type 0
AreAnswered old [] [] new = new ≡ old
AreAnswered old (call ∷ calls) (reply ∷ replies) new =
    (mid : AtlasValue) × IsAnswered old (call_of call) reply mid × AreAnswered mid calls replies new
AreAnswered old [] (reply ∷ replies) new = ⊥
AreAnswered old (call ∷ calls) [] new = ⊥

abbrev pub calls_of : List Call → List AtlasCall
calls_of calls = map call_of calls

abbrev pub replies_of : {A : Type 0} → List (Reply A) → List AtlasReply
replies_of replies = map reply_of replies

-- Calls made of an atlas in turn, and their replies, one for each: a chain of answers through all that is stored. They
-- are a run of the model. Along it everything is in order and each reply owed, and at its end everything is in order.
-- Where all calls are grants, freeings and growths, they leave no trace. The turns are few; the second bound is for an
-- atlas with one member, as a new one has.
pub record IsSession {A : Type 0} (old : AtlasValue) (calls : List Call) (replies : List (Reply A)) (new : AtlasValue)
    : Type 0 where
  pub answered : AreAnswered old calls replies new
  pub count : length replies ≡ length calls
  pub run : Run (state_of old) (calls_of calls) (replies_of replies) (state_of new)
  pub along : IsRunInOrder (state_of old) (calls_of calls) (replies_of replies) (state_of new)
  pub end : IsInOrder (state_of new)
  pub trace :
      All (λ c. is_plain (call_of c) ≡ true) calls
      → LeavesNoTrace (state_of old) (calls_of calls) (replies_of replies) (state_of new)
  pub turns :
      new.turns + used_in (state_of new)
      ≤ old.turns + used_in (state_of old) + turns_within (calls_of calls) (replies_of replies)
  pub turns_from_one :
      used_in (state_of old) ≡ 1 → new.turns ≤ old.turns + turns_within (calls_of calls) (replies_of replies)
