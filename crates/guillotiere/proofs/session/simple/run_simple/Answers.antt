use Rattle.std.proofs.Common.{[], ◌∷◌, length, length-append, take, drop, vec_len, sym, ap, subst, ◌+◌, ◌∙◌, arith}
use Rattle.std.proofs.Common.{All}
use Rattle.std.proofs.lemmas.List.{take_all}
use Rattle.std.proofs.lemmas.List.Elements.{All-append, All-cons, All-nil}
use Rattle.guillotiere.specs.SimpleSessions.{AreSimplyAnswered, GrantsExact, simple_call_of, simple_calls_of}
use Rattle.atlas_store.specs.Stored.{state_of}
use Rattle.guillotiere.proofs.Sessions.{drop-more, take-longer}
use Rattle.guillotiere.proofs.SimpleLemmas.SimpleSessions.{answered-taken, simple-session}
use Rattle.guillotiere.proofs.session.simple.run_simple.Goals as goal

pub loop-call-preserved : goal.loop-call-preserved
loop-call-preserved g c =
    let i = c.loop-call.invariant in
    let source = state_of c.args.source.now in
    let n = vec_len c.args.replies.now in
    let items = c.loop-call.replies.items in
    let more = drop-more n items c.push_reserved.new.self.items c.make.result c.push_reserved.ensures.items i.longer in
    record {
      simple = i.simple;
      room = omega arith;
      capacity = omega (arith, i.capacity, c.push_reserved.ensures.capacity);
      longer = omega (arith, ap length c.push_reserved.ensures.items, length-append items (c.make.result ∷ []));
      kept = take-longer n items c.push_reserved.new.self.items c.make.result c.push_reserved.ensures.items i.longer ∙ i.kept;
      exact = subst (All GrantsExact) (sym more)
          (All-append GrantsExact (drop n items) (c.make.result ∷ []) i.exact
          (All-cons GrantsExact c.make.result [] c.make.ensures.exact (All-nil GrantsExact)));
      answered = subst (λ replies. AreSimplyAnswered c.args.simple.now (simple_calls_of source
          (take (c.loop-call.call-index + 1) c.args.calls.now)) replies c.make.new.simple)
          (sym more)
          (answered-taken (simple_call_of source) c.args.calls.now c.loop-call.call-index _ (drop n items)
          c.args.simple.now c.loop-call.simple c.make.new.simple c.make.result c.loop-call-test.true i.answered c.make.ensures);
    }

pub returns-clause-session : goal.returns-clause-session
returns-clause-session g c =
    let i = c.loop-call.invariant in
    let source = state_of c.args.source.now in
    let added = drop (vec_len c.args.replies.now) c.loop-call.replies.items in
    simple-session source c.args.simple.now c.loop-call.simple c.args.calls.now added i.simple
    (subst (λ calls. AreSimplyAnswered c.args.simple.now (simple_calls_of source calls) added c.loop-call.simple)
    (take_all c.loop-call.call-index c.args.calls.now c.loop-call-test.false) i.answered)
