use Rattle.std.proofs.Common.{◌∙◌, ap, arith, sym}
use Rattle.atlas_entries.specs.Entries.{numbers}
use Rattle.atlas_cache.proofs.CacheLemmas.{number-at}
use Rattle.atlas_cache.proofs.CompactWalks.{none_left, none_visited, one_visited, some_moved, upcoming}
use Rattle.atlas_cache.proofs.RoomLemmas.KeptPages.{as_many}
use Rattle.atlas_cache.proofs.WalkLemmas.{numbers-append}
use Rattle.atlas_cache.proofs.cache.compacting.visit_all.Goals as goal

pub loop-init : goal.loop-init
loop-init g c = record {
  walk = none_visited c.args.last c.args.pixels c.newest-next.result c.args.changes.now.items c.args.rooms.now c.args.entries.now
      c.newest-next.ensures.first;
  last = c.requires.last;
  held = c.requires.held;
  bordered = c.requires.bordered;
  room = omega (arith, c.requires.room);
  capacity = omega arith;
}

pub returns-in_default-clause-moves : goal.returns-in_default-clause-moves
returns-in_default-clause-moves g c =
    none_left c.args.last c.args.pixels c.loop.moved c.loop.counter c.args.changes.now.items c.loop.changes.items c.args.rooms.now
    c.loop.rooms c.args.entries.now c.loop.entries (rw c.in_default.is at c.loop.invariant.walk)

pub returns-in_err-moved-clause-moves : goal.returns-in_err-moved-clause-moves
returns-in_err-moved-clause-moves g c =
    let stays = c.in_err-moved.ensures.refused in
    rw (stays.0, stays.1, stays.2)
    (some_moved c.args.last c.args.pixels c.loop.moved c.loop.counter c.args.changes.now.items c.loop.changes.items
    c.args.rooms.now c.loop.rooms c.args.entries.now c.loop.entries c.loop.next c.from_residual.result c.from_residual.ensures.0
    c.loop.invariant.walk)

pub older-next-requires : goal.older-next-requires
older-next-requires g c =
    let u = upcoming c.args.last c.args.pixels c.loop.moved c.loop.counter c.args.changes.now.items c.loop.changes.items
    c.args.rooms.now c.loop.rooms c.args.entries.now c.loop.entries c.in-Some.number (rw c.in-Some.is at c.loop.invariant.walk)
    c.prove_kept.ensures.numbers in
    number-at c.in-Some.number c.loop.entries.entries u.entry u.at

pub visit-requires-clause-here : goal.visit-requires-clause-here
visit-requires-clause-here g c =
    let u = upcoming c.args.last c.args.pixels c.loop.moved c.loop.counter c.args.changes.now.items c.loop.changes.items
    c.args.rooms.now c.loop.rooms c.args.entries.now c.loop.entries c.in-Some.number (rw c.in-Some.is at c.loop.invariant.walk)
    c.prove_kept.ensures.numbers in
    number-at c.in-Some.number c.loop.entries.entries u.entry u.at

pub loop-preserved : goal.loop-preserved
loop-preserved g c =
    let was = c.loop.invariant in
    let n = c.in-Some.number in
    let w = rw c.in-Some.is at was.walk in
    let u = upcoming c.args.last c.args.pixels c.loop.moved c.loop.counter c.args.changes.now.items c.loop.changes.items
    c.args.rooms.now c.loop.rooms c.args.entries.now c.loop.entries n w c.prove_kept.ensures.numbers in
    let first = c.older-next.ensures.next (numbers w.done) (numbers u.rest)
    (ap numbers u.is ∙ numbers-append w.done (n, u.entry) u.rest) in
    record {
      walk = one_visited c.args.last c.args.pixels c.loop.moved c.loop.counter c.args.changes.now.items c.loop.changes.items
          c.args.rooms.now c.loop.rooms c.args.entries.now c.loop.entries n w u c.in_ok-moved.field-0 c.older-next.result
          c.visit.new.changes.items c.visit.new.rooms c.visit.new.entries c.prove_kept.ensures.numbers first c.visit.ensures.none
          c.in_ok-moved.ensures.visits;
      last = was.last ∙ sym (as_many c.loop.rooms.pages c.visit.new.rooms.pages c.visit.ensures.sizes);
      held = c.visit.ensures.held;
      bordered = c.visit.ensures.bordered;
      room = omega (arith, was.room, c.visit.ensures.longer, c.visit.ensures.capacity, u.count);
      capacity = omega (arith, was.capacity, c.visit.ensures.capacity);
    }
