use Rattle.std.proofs.Common.{arith}
use Rattle.atlas_cache.proofs.KeyLemmas.{own_keys}
use Rattle.atlas_cache.proofs.TrimLemmas.{none-dropped, one-dropped}
use Rattle.atlas_cache.proofs.cache.TextureCache.drop_unused.Goals as goal

pub each-init : goal.each-init
each-init g c =
    let own = own_keys g.K.PartialEq.eq c.self.inside.entries.entries c.prove_kept.ensures.keys in
    record {
      dropped = none-dropped g.K.PartialEq.eq c.args.frames c.args.changes.now.items c.args.self.now (rw (← c.self.view_is) own)
          (rw (← c.self.view_is) (let fits = c.self.ranges.1.1.1.0.1.1.1.1.0.1 in omega arith));
      room = c.requires;
      capacity = omega arith;
    }

pub each-preserved : goal.each-preserved
each-preserved g c =
    let was = c.each.invariant in
    record {
      dropped = one-dropped g.K.PartialEq.eq g.met.K.Eq.laws c.args.frames c.args.changes.now.items c.each.changes.items
          c.drop_last.new.changes.items c.args.self.now c.each.self c.drop_last.new.self was.dropped
          (c.drop_last.ensures.drops c.if-not-drop_last.false);
      room = c.drop_last.ensures.room;
      capacity = omega (arith, was.capacity, c.drop_last.ensures.capacity);
    }
