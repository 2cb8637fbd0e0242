-- Calls made of an atlas in turn.
use Rattle.std.proofs.Common.{◌≡◌, ℕ, suc, ◌+◌, ◌≤◌, ◌<◌, ◌⊎◌, true, List, [], ◌∷◌, ◌++◌, length, map, take, drop}
use Rattle.std.proofs.Common.{get_or, refl, ap, subst, sym, ◌∙◌, arith, inl, inr, All}
use Rattle.std.proofs.lemmas.List.{take_more, map-append, length-map, drop-append-le, take-append-le}
use Rattle.std.proofs.lemmas.List.Elements.{All-map}
use Rattle.atlas_model.specs.RunTurns.{freeings_of, turns_within}
use Rattle.atlas_model.specs.Runs.{Run, is_plain}
use Rattle.guillotiere.specs.Sessions.{call_of, reply_of, calls_of, replies_of, TakesTurns, IsAnswered, AreAnswered}
use Rattle.guillotiere.specs.Sessions.{IsSession}
use Rattle.atlas_model.specs.States.{State, used_in, IsSound}
use Rattle.atlas_model.specs.Steps.{AtlasCall, AtlasReply, Step}
use Rattle.atlas_model.specs.Steps.AtlasCall.{Deallocate}
use Rattle.atlas_model.specs.Steps.AtlasReply.{Done}
use Rattle.atlas_store.specs.Stored.{AtlasValue, state_of}
use Rattle.guillotiere.specs.declared.session.Call.{Call}
use Rattle.guillotiere.specs.declared.session.Reply.{Reply}
use Rattle.atlas_model.proofs.StepLemmas.RunOrder.{runs_keep_order}
use Rattle.atlas_model.proofs.StepLemmas.Traces.{runs_leave_no_trace}
use Rattle.atlas_model.proofs.StepLemmas.SoundSteps.{nodes_positive}
use Rattle.atlas_model.proofs.StepLemmas.RunTurns.{adds_of, members_added, turns_within-more}

run-length : (calls : List AtlasCall) (replies : List AtlasReply) (old new : State) → Run old calls replies new
    → length calls ≡ length replies
run-length [] [] old new h = refl
run-length [] (reply ∷ replies) old new h = absurd h
run-length (call ∷ calls) [] old new h = absurd h
run-length (call ∷ calls) (reply ∷ replies) old new (mid, step, run) = ap (λ n. suc n) (run-length calls replies mid new run)

run-more : (calls : List AtlasCall) (replies : List AtlasReply) (old mid new : State) (call : AtlasCall)
    (reply : AtlasReply)
    → Run old calls replies mid → Step mid call reply new
    → Run old (calls ++ call ∷ []) (replies ++ reply ∷ []) new
run-more [] [] old mid new call reply run step = (new, subst (λ s. Step s call reply new) run step, refl)
run-more [] (r ∷ replies) old mid new call reply run step = absurd run
run-more (c ∷ calls) [] old mid new call reply run step = absurd run
run-more (c ∷ calls) (r ∷ replies) old mid new call reply (first, its, run) step =
    (first, its, run-more calls replies first mid new call reply run step)

-- One call more is answered.
pub answered-more : {A : Type 0} (calls : List Call) (replies : List (Reply A)) (old mid new : AtlasValue) (call : Call)
    (reply : Reply A) → AreAnswered old calls replies mid → IsAnswered mid (call_of call) reply new
    → AreAnswered old (calls ++ call ∷ []) (replies ++ reply ∷ []) new
answered-more [] [] old mid new call reply same one =
    (new, subst (λ v. IsAnswered v (call_of call) reply new) same one, refl)
answered-more [] (r ∷ replies) old mid new call reply chain one = absurd chain
answered-more (c ∷ calls) [] old mid new call reply chain one = absurd chain
answered-more (c ∷ calls) (r ∷ replies) old mid new call reply (first, its, chain) one =
    (first, its, answered-more calls replies first mid new call reply chain one)

-- Lists with one item more.

pub taken-more : {X : Type 0} (xs : List X) (i : ℕ) (x : X) → i < length xs → x ≡ get_or xs i x
    → take (i + 1) xs ≡ take i xs ++ x ∷ []
taken-more xs i x below is = take_more xs i x below ∙ ap (λ y. take i xs ++ y ∷ []) (sym is)

pub map_take-more : {X Y : Type 0} (f : X → Y) (xs : List X) (i : ℕ) (x : X) → i < length xs → x ≡ get_or xs i x
    → map f (take (i + 1) xs) ≡ map f (take i xs) ++ f x ∷ []
map_take-more f xs i x below is =
    ap (map f) (taken-more xs i x below is) ∙ map-append f (take i xs) (x ∷ [])

pub drop-more : {X : Type 0} (n : ℕ) (xs ys : List X) (x : X) → ys ≡ xs ++ x ∷ [] → n ≤ length xs
    → drop n ys ≡ drop n xs ++ x ∷ []
drop-more n xs ys x is most = ap (drop n) is ∙ drop-append-le n xs (x ∷ []) most

pub take-longer : {X : Type 0} (n : ℕ) (xs ys : List X) (x : X) → ys ≡ xs ++ x ∷ [] → n ≤ length xs
    → take n ys ≡ take n xs
take-longer n xs ys x is most = ap (take n) is ∙ take-append-le n xs (x ∷ []) most

-- Calls made in turn so far, and their replies.
pub record IsPlayed (old : AtlasValue) (calls : List AtlasCall) (replies : List AtlasReply) (new : AtlasValue) : Type 0 where
  pub run : Run (state_of old) calls replies (state_of new)
  pub turns : new.turns + used_in (state_of new) ≤ old.turns + used_in (state_of old) + turns_within calls replies

-- A freeing, or no turn.
turns_by_call : (old new : AtlasValue) (call : AtlasCall) (reply : AtlasReply) → TakesTurns old call reply new
    → ((freeings_of call reply ≡ 1) × (new.turns + used_in (state_of new) ≡ old.turns + 1 + used_in (state_of old)))
    ⊎ (new.turns ≡ old.turns)
turns_by_call old new (Deallocate id) Done h = inl (refl, h)
turns_by_call old new call reply h = inr h

turns_of_step : (old new : AtlasValue) (call : AtlasCall) (reply : AtlasReply) → IsSound (state_of old)
    → Step (state_of old) call reply (state_of new) → TakesTurns old call reply new
    → new.turns + used_in (state_of new) ≤ old.turns + used_in (state_of old) + freeings_of call reply + adds_of call reply
turns_of_step old new call reply sound step takes = grind (arith, turns_by_call, adds_of, members_added)

pub played_more : (old mid new : AtlasValue) (calls : List AtlasCall) (replies : List AtlasReply) (call : AtlasCall)
    (reply : AtlasReply) → IsSound (state_of old) → IsPlayed old calls replies mid
    → Step (state_of mid) call reply (state_of new) → TakesTurns mid call reply new
    → IsPlayed old (calls ++ call ∷ []) (replies ++ reply ∷ []) new
played_more old mid new calls replies call reply sound h step takes =
    let sound_then : IsSound (state_of mid) =
    (runs_keep_order (state_of old) (state_of mid) calls replies sound h.run).1.sound in
    record {
      run = run-more calls replies (state_of old) (state_of mid) (state_of new) call reply h.run step;
      turns = omega (
        arith,
        h.turns,
        turns_of_step mid new call reply sound_then step takes,
        turns_within-more calls replies call reply (run-length calls replies (state_of old) (state_of mid) h.run),
      );
    }

plain_mapped : (calls : List Call) → All (λ c. is_plain (call_of c) ≡ true) calls
    → All (λ c. is_plain c ≡ true) (calls_of calls)
plain_mapped calls plain = All-map (λ c. is_plain c ≡ true) call_of calls plain

pub session_played : {A : Type 0} (old new : AtlasValue) (calls : List Call) (replies : List (Reply A))
    → IsSound (state_of old)
    → AreAnswered old calls replies new → IsPlayed old (calls_of calls) (replies_of replies) new
    → IsSession old calls replies new
session_played old new calls replies sound chain h =
    let order = runs_keep_order (state_of old) (state_of new) (calls_of calls) (replies_of replies) sound h.run in
    let some : 1 ≤ used_in (state_of new) =
    nodes_positive (state_of new).size (state_of new).tree order.1.sound.well_formed in
    record {
      answered = chain;
      count = sym (length-map replies reply_of)
          ∙ sym (run-length (calls_of calls) (replies_of replies) (state_of old) (state_of new) h.run)
          ∙ length-map calls call_of;
      run = h.run;
      along = order.0;
      end = order.1;
      trace = λ plain. runs_leave_no_trace (state_of old) (state_of new) (calls_of calls) (replies_of replies) sound
          (plain_mapped calls plain) h.run;
      turns = h.turns;
      turns_from_one = λ one. omega (arith, h.turns);
    }
