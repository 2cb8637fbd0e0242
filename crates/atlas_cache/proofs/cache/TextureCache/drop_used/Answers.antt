use Rattle.std.proofs.Common.{arith, ap, length}
use Rattle.atlas_cache.proofs.KeyLemmas.{own_keys}
use Rattle.atlas_cache.proofs.BatchLemmas.{batch-ended, batch-told, none-used, one-used, used-count}
use Rattle.atlas_cache.proofs.cache.TextureCache.drop_used.Goals as goal

pub loop-dropped-init : goal.loop-dropped-init
loop-dropped-init g c =
    let own = own_keys g.K.PartialEq.eq c.self.inside.entries.entries c.prove_kept.ensures.keys in
    record {
      used = none-used g.K.PartialEq.eq c.args.changes.now.items c.args.self.now (rw (← c.self.view_is) own)
          (rw (← c.self.view_is) (let fits = c.self.ranges.1.1.1.0.1.1.1.1.0.1 in omega arith));
      room = c.requires;
      capacity = omega arith;
    }

pub loop-dropped-preserved : goal.loop-dropped-preserved
loop-dropped-preserved g c =
    let was = c.loop-dropped.invariant in
    record {
      used = one-used g.K.PartialEq.eq g.met.K.Eq.laws _ c.args.changes.now.items c.loop-dropped.changes.items
          c.drop_first.new.changes.items c.args.self.now c.loop-dropped.self c.drop_first.new.self was.used
          (c.drop_first.ensures.drops (c.if-not-drop_first.false));
      room = c.drop_first.ensures.room;
      capacity = omega (arith, was.capacity, c.drop_first.ensures.capacity);
    }

pub returns-then-not-drop_first-clause-ends : goal.returns-then-not-drop_first-clause-ends
returns-then-not-drop_first-clause-ends g c =
    let was = c.loop-dropped.invariant in
    let stays = c.drop_first.ensures.stays c.if-not-drop_first.true in
    let none = ap length (c.drop_first.ensures.stops c.if-not-drop_first.true) in
    let all = used-count g.K.PartialEq.eq _ _ _ _ _ was.used in
    rw (stays.0, stays.1) (batch-ended g.K.PartialEq.eq c.args.keys _ _ _ _ _ was.used (omega (arith, all, none, c.loop-dropped-test.true)))

pub returns-then-not-drop_first-clause-told : goal.returns-then-not-drop_first-clause-told
returns-then-not-drop_first-clause-told g c =
    let was = c.loop-dropped.invariant in
    let stays = c.drop_first.ensures.stays c.if-not-drop_first.true in
    rw (stays.0, stays.1) (batch-told g.K.PartialEq.eq _ _ _ _ _ was.used)

pub returns-clause-ends : goal.returns-clause-ends
returns-clause-ends g c =
    let was = c.loop-dropped.invariant in
    let all = used-count g.K.PartialEq.eq _ _ _ _ _ was.used in
    batch-ended g.K.PartialEq.eq c.args.keys _ _ _ _ _ was.used (omega (
      arith,
      all,
      c.loop-dropped-test.false,
      c.loop-dropped.auto.dropped-end,
    ))

pub returns-clause-told : goal.returns-clause-told
returns-clause-told g c = batch-told g.K.PartialEq.eq _ _ _ _ _ c.loop-dropped.invariant.used
