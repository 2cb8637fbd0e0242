use Rattle.std.proofs.Common.{◌≡◌, ◌+◌, ◌≤◌, length, take, drop, vec_len, vec_capacity, All}
use Rattle.guillotiere.specs.Sessions.{calls_of, replies_of, AreAnswered, IsExactReply}
use Rattle.atlas_model.specs.States.{IsSound}
use Rattle.atlas_store.specs.Stored.{state_of}
use Rattle.guillotiere.proofs.Sessions.{IsPlayed}
use Rattle.guillotiere.proofs.session.run.Given as goal

abbrev pub invariant-loop-call : goal.invariant-loop-call
invariant-loop-call g l =
    record {
      sound : IsSound (state_of l.fn.atlas);
      room : vec_len l.replies + length l.calls ≤ vec_capacity l.replies + l.call-index;
      capacity : vec_capacity l.fn.replies ≤ vec_capacity l.replies;
      longer : vec_len l.fn.replies ≤ length l.replies.items;
      kept : take (vec_len l.fn.replies) l.replies.items ≡ l.fn.replies.items;
      exact : All IsExactReply (drop (vec_len l.fn.replies) l.replies.items);
      answered : AreAnswered l.fn.atlas
          (take l.call-index l.calls) (drop (vec_len l.fn.replies) l.replies.items) l.atlas;
      played : IsPlayed l.fn.atlas
          (calls_of (take l.call-index l.calls)) (replies_of (drop (vec_len l.fn.replies) l.replies.items)) l.atlas;
    }
