use Rattle.std.proofs.Common.{arith}
use Rattle.atlas_cache.proofs.ShrinkLemmas.{none_gone, one_gone, shrunk}
use Rattle.atlas_cache.proofs.cache.TextureCache.drop_pages.Goals as goal

pub each-init : goal.each-init
each-init g c = record {
  gone = none_gone g.K.PartialEq.eq c.args.changes.now.items c.args.self.now;
  room = c.requires;
  capacity = omega arith;
}

pub each-preserved : goal.each-preserved
each-preserved g c =
    let was = c.each.invariant in
    record {
      gone = one_gone g.K.PartialEq.eq c.args.changes.now.items c.each.changes.items c.drop_page.new.changes.items
          c.args.self.now c.each.self c.drop_page.new.self was.gone (c.drop_page.ensures.drops c.if-not-drop_page.false);
      room = c.drop_page.ensures.room;
      capacity = omega (arith, was.capacity, c.drop_page.ensures.capacity);
    }

pub returns-then-not-drop_page-clause-shrinks : goal.returns-then-not-drop_page-clause-shrinks
returns-then-not-drop_page-clause-shrinks g c =
    let no = c.if-not-drop_page.true in
    let same = c.drop_page.ensures.stays no in
    let kept = rw same.0 at c.prove_kept.ensures.kept in
    rw (same.0, same.1) (shrunk g.K.PartialEq.eq c.args.changes.now.items c.each.changes.items c.args.self.now c.each.self
    c.each.invariant.gone kept.held (c.drop_page.ensures.stops no))
