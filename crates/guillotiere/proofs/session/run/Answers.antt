use Rattle.std.proofs.Common.{[], ◌∷◌, length, length-append, map, take, drop, vec_len, sym, ap, subst, subst₂, ◌∙◌}
use Rattle.std.proofs.Common.{arith, All}
use Rattle.std.proofs.lemmas.List.{take_all, map-append}
use Rattle.std.proofs.lemmas.List.Elements.{All-append, All-cons, All-nil}
use Rattle.guillotiere.specs.Sessions.{call_of, reply_of, calls_of, replies_of, AreAnswered, IsExactReply}
use Rattle.guillotiere.proofs.Sessions.{IsPlayed, played_more, session_played, map_take-more, drop-more, take-longer}
use Rattle.guillotiere.proofs.Sessions.{answered-more, taken-more}
use Rattle.guillotiere.proofs.session.run.Goals as goal

pub loop-call-preserved : goal.loop-call-preserved
loop-call-preserved g c =
    let i = c.loop-call.invariant in
    let n = vec_len c.args.replies.now in
    let items = c.loop-call.replies.items in
    let made = map_take-more call_of c.args.calls.now c.loop-call.call-index c.call-item.result c.loop-call-test.true c.call-item.is in
    let more = drop-more n items c.push_reserved.new.self.items c.step.result c.push_reserved.ensures.items i.longer in
    let taken = taken-more c.args.calls.now c.loop-call.call-index c.call-item.result c.loop-call-test.true c.call-item.is in
    record {
      sound = i.sound;
      room = omega arith;
      capacity = omega (arith, i.capacity, c.push_reserved.ensures.capacity);
      longer = omega (arith, ap length c.push_reserved.ensures.items, length-append items (c.step.result ∷ []));
      kept = take-longer n items c.push_reserved.new.self.items c.step.result c.push_reserved.ensures.items i.longer ∙ i.kept;
      exact = subst (All IsExactReply) (sym more)
          (All-append IsExactReply (drop n items) (c.step.result ∷ []) i.exact
          (All-cons IsExactReply c.step.result [] c.step.ensures.exact (All-nil IsExactReply)));
      answered = subst₂ (λ calls replies. AreAnswered c.args.atlas.now calls replies c.step.new.atlas) (sym taken) (sym more)
          (answered-more (take c.loop-call.call-index c.args.calls.now) (drop n items) c.args.atlas.now c.loop-call.atlas
          c.step.new.atlas c.call-item.result c.step.result i.answered
          (record {
            step = c.step.ensures.step;
            exact = c.step.ensures.exact;
            unchanged = c.step.ensures.unchanged;
            turns = c.step.ensures.turns;
            slots = c.step.ensures.slots;
            memory = c.step.ensures.memory;
          }));
      played = subst₂ (λ calls replies. IsPlayed c.args.atlas.now calls replies c.step.new.atlas) (sym made)
          (sym (ap (map reply_of) more ∙ map-append reply_of (drop n items) (c.step.result ∷ [])))
          (played_more c.args.atlas.now c.loop-call.atlas c.step.new.atlas (calls_of (take c.loop-call.call-index c.args.calls.now))
          (replies_of (drop n items)) (call_of c.call-item.result) (reply_of c.step.result) i.sound i.played c.step.ensures.step
          c.step.ensures.turns);
    }

pub returns-clause-session : goal.returns-clause-session
returns-clause-session g c =
    let i = c.loop-call.invariant in
    let added = drop (vec_len c.args.replies.now) c.loop-call.replies.items in
    session_played c.args.atlas.now c.loop-call.atlas c.args.calls.now added i.sound
    (subst (λ calls. AreAnswered c.args.atlas.now calls added c.loop-call.atlas)
    (take_all c.loop-call.call-index c.args.calls.now c.loop-call-test.false) i.answered)
    (subst (λ calls. IsPlayed c.args.atlas.now (calls_of calls) (replies_of added) c.loop-call.atlas)
    (take_all c.loop-call.call-index c.args.calls.now c.loop-call-test.false) i.played)
