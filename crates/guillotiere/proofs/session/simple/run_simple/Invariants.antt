use Rattle.std.proofs.Common.{◌≡◌, ◌+◌, ◌≤◌, length, take, drop, vec_len, vec_capacity, All}
use Rattle.atlas_model.specs.Simple.{IsSimple}
use Rattle.guillotiere.specs.SimpleSessions.{AreSimplyAnswered, GrantsExact, simple_calls_of}
use Rattle.guillotiere.specs.SimpleStored.{simple_state_of}
use Rattle.atlas_store.specs.Stored.{state_of}
use Rattle.guillotiere.proofs.session.simple.run_simple.Given as goal

abbrev pub invariant-loop-call : goal.invariant-loop-call
invariant-loop-call g l =
    record {
      simple : IsSimple (simple_state_of l.fn.simple);
      room : vec_len l.replies + length l.calls ≤ vec_capacity l.replies + l.call-index;
      capacity : vec_capacity l.fn.replies ≤ vec_capacity l.replies;
      longer : vec_len l.fn.replies ≤ length l.replies.items;
      kept : take (vec_len l.fn.replies) l.replies.items ≡ l.fn.replies.items;
      exact : All GrantsExact (drop (vec_len l.fn.replies) l.replies.items);
      answered : AreSimplyAnswered l.fn.simple
          (simple_calls_of (state_of l.source) (take l.call-index l.calls)) (drop (vec_len l.fn.replies) l.replies.items) l.simple;
    }
