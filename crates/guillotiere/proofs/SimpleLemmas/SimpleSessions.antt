-- Calls of a simple allocator made in turn.
use Rattle.std.proofs.Common.{◌≡◌, ℕ, ◌+◌, ◌<◌, take, get_or, List, [], ◌∷◌, ◌++◌, length, map, suc, ap, refl, subst, ◌∙◌, arith}
use Rattle.std.proofs.lemmas.List.{take_more, map-append, length-map}
use Rattle.atlas_model.specs.States.{State}
use Rattle.atlas_model.specs.Simple.{IsSimple, SimpleAtlasCall}
use Rattle.atlas_model.specs.Simple.SimpleRuns.{SimpleRun}
use Rattle.guillotiere.specs.SimpleSessions.{AreSimplyAnswered, IsSimplyAnswered, IsSimpleSession, simple_answers_of, simple_call_of}
use Rattle.guillotiere.specs.SimpleSessions.{simple_calls_of}
use Rattle.guillotiere.specs.SimpleStored.{SimpleValue, simple_state_of}
use Rattle.guillotiere.specs.declared.session.simple.SimpleCall.{SimpleCall}
use Rattle.guillotiere.specs.declared.session.simple.SimpleReply.{SimpleReply}
use Rattle.atlas_model.proofs.SimpleLemmas.SimpleRuns.{simple_runs_keep_guard}

-- One call more at the end.
answered-more : (calls : List SimpleAtlasCall) (replies : List SimpleReply) (old mid new : SimpleValue)
    (call : SimpleAtlasCall) (reply : SimpleReply)
    → AreSimplyAnswered old calls replies mid → IsSimplyAnswered mid call reply new
    → AreSimplyAnswered old (calls ++ call ∷ []) (replies ++ reply ∷ []) new
answered-more [] [] old mid new call reply before next = (new, subst (λ v. IsSimplyAnswered v call reply new) before next, refl)
answered-more [] (b ∷ replies) old mid new call reply before next = absurd before
answered-more (c ∷ calls) [] old mid new call reply before next = absurd before
answered-more (c ∷ calls) (b ∷ replies) old mid new call reply (after, first, rest) next =
    (after, first, answered-more calls replies after mid new call reply rest next)

-- The next call of a list.
pub answered-taken : {X : Type 0} (f : X → SimpleAtlasCall) (xs : List X) (i : ℕ) (d : X) (replies : List SimpleReply)
    (old mid new : SimpleValue) (reply : SimpleReply)
    → i < length xs → AreSimplyAnswered old (map f (take i xs)) replies mid
    → IsSimplyAnswered mid (f (get_or xs i d)) reply new
    → AreSimplyAnswered old (map f (take (i + 1) xs)) (replies ++ reply ∷ []) new
answered-taken f xs i d replies old mid new reply below before next =
    grind (
      arith,
      take_more xs i d below,
      map-append f (take i xs) (get_or xs i d ∷ []),
      answered-more (map f (take i xs)) replies old mid new (f (get_or xs i d)) reply before next,
    )

-- Answered calls are a run of the model.
answered-run : (calls : List SimpleAtlasCall) (replies : List SimpleReply) (old new : SimpleValue)
    → AreSimplyAnswered old calls replies new
    → SimpleRun (simple_state_of old) calls (simple_answers_of replies) (simple_state_of new)
answered-run [] [] old new is = ap simple_state_of is
answered-run [] (b ∷ replies) old new are = absurd are
answered-run (c ∷ calls) [] old new are = absurd are
answered-run (c ∷ calls) (b ∷ replies) old new (mid, first, rest) = (
  simple_state_of mid,
  first.step,
  answered-run calls replies mid new rest,
)

-- As many replies as calls.
answered-count : (calls : List SimpleAtlasCall) (replies : List SimpleReply) (old new : SimpleValue)
    → AreSimplyAnswered old calls replies new → length replies ≡ length calls
answered-count [] [] old new is = refl
answered-count [] (b ∷ replies) old new are = absurd are
answered-count (c ∷ calls) [] old new are = absurd are
answered-count (c ∷ calls) (b ∷ replies) old new (mid, first, rest) = ap (λ n. suc n) (answered-count calls replies mid new rest)

pub simple-session : (source : State) (old new : SimpleValue) (calls : List SimpleCall) (replies : List SimpleReply)
    → IsSimple (simple_state_of old)
    → AreSimplyAnswered old (simple_calls_of source calls) replies new → IsSimpleSession source old calls replies new
simple-session source old new calls replies simple are =
    let run = answered-run (simple_calls_of source calls) replies old new are in
    record {
      answered = are;
      count = answered-count (simple_calls_of source calls) replies old new are ∙ length-map calls (simple_call_of source);
      run = run;
      guard = simple_runs_keep_guard (simple_state_of old) (simple_state_of new) (simple_calls_of source calls) (simple_answers_of replies)
          simple run;
    }
