use Rattle.std.proofs.Common.{◌-◌, ◌∙◌, ap, arith, refl, vec_capacity, vec_len}
use Rattle.std.specs.List.{filter_map}
use Rattle.atlas_entries.specs.Entries.{numbers}
use Rattle.atlas_cache.proofs.RelocateLemmas.{ahead, bordered-is, bordered-was, next-number, none-walked, settled, walked-all, walked-here}
use Rattle.atlas_cache.proofs.RelocateLemmas.{walked-none, walked-past}
use Rattle.atlas_cache.proofs.WalkLemmas.{numbers-append}
use Rattle.atlas_cache.proofs.cache.repacking.settle_all.Goals.{then-entry-page, else-entry-page}
use Rattle.atlas_cache.proofs.cache.repacking.settle_all.Goals as goal

pub loop-init : goal.loop-init
loop-init g c = record {
  walked = none-walked c.args.options.now.padding c.args.page c.args.moves.now c.args.entries.now.entries c.newest-next.result
      c.args.changes.now.items (vec_capacity c.args.changes.now - vec_len c.args.changes.now) c.newest-next.ensures.first
      (omega (arith, c.requires.room));
  made = refl;
  reserved = refl;
  capacity = omega arith;
}

pub returns-in_default-clause-entries : goal.returns-in_default-clause-entries
returns-in_default-clause-entries g c =
    (walked-none c.args.options.now.padding c.args.page c.args.moves.now _ _ _ _ _ _
    (rw c.in_default.is at c.loop.invariant.walked)).entries

pub returns-in_default-clause-told : goal.returns-in_default-clause-told
returns-in_default-clause-told g c =
    (walked-none c.args.options.now.padding c.args.page c.args.moves.now _ _ _ _ _ _ (rw c.in_default.is at c.loop.invariant.walked)).told

pub returns-clause-entries : goal.returns-clause-entries
returns-clause-entries g c =
    (walked-all c.args.options.now.padding c.args.page c.args.moves.now _ _ _ _ _ _ _ c.loop.invariant.walked
    (omega (arith, c.loop-test.false, c.len-end.ensures))).entries

pub returns-clause-told : goal.returns-clause-told
returns-clause-told g c =
    (walked-all c.args.options.now.padding c.args.page c.args.moves.now _ _ _ _ _ _ _ c.loop.invariant.walked
    (omega (arith, c.loop-test.false, c.len-end.ensures))).told

pub entry-entry-requires : goal.entry-entry-requires
entry-entry-requires g c =
    next-number c.args.options.now.padding c.args.page c.args.moves.now _ _ _ _ _ _ _ (rw c.in-Some.is at c.loop.invariant.walked)
    c.prove_kept.ensures.numbers

pub settle-requires-clause-was : goal.settle-requires-clause-was
settle-requires-clause-was g c =
    let a = ahead c.args.options.now.padding c.args.page c.args.moves.now _ _ _ c.entry-entry.result _ _ _ _
    (rw c.in-Some.is at c.loop.invariant.walked) c.prove_kept.ensures.numbers c.entry-entry.ensures in
    bordered-was c.args.options.now.padding c.args.page c.args.moves.now _ _ _ _ _ _ _ _ a c.requires.was

pub settle-requires-clause-is : goal.settle-requires-clause-is
settle-requires-clause-is g c =
    let a = ahead c.args.options.now.padding c.args.page c.args.moves.now _ _ _ c.entry-entry.result _ _ _ _
    (rw c.in-Some.is at c.loop.invariant.walked) c.prove_kept.ensures.numbers c.entry-entry.ensures in
    bordered-is c.args.options.now.padding c.args.page c.args.moves.now _ _ _ _ _ _ _ _ a c.if-entry-page.true c.requires.is

pub settle-requires-clause-room : goal.settle-requires-clause-room
settle-requires-clause-room g c =
    let a = ahead c.args.options.now.padding c.args.page c.args.moves.now _ _ _ c.entry-entry.result _ _ _ _
    (rw c.in-Some.is at c.loop.invariant.walked) c.prove_kept.ensures.numbers c.entry-entry.ensures in
    omega (arith, a.room)

pub loop-preserved : goal.loop-preserved
loop-preserved g c =
    let padding = c.args.options.now.padding in
    let page = c.args.page in
    let cs = c.args.moves.now in
    let a = ahead padding page cs _ _ c.in-Some.number c.entry-entry.result _ _ _ _
    (rw c.in-Some.is at c.loop.invariant.walked) c.prove_kept.ensures.numbers c.entry-entry.ensures in
    let first = c.older-next.ensures.next (numbers (filter_map (settled padding page cs) a.done)) (numbers a.rest)
    (ap numbers a.is ∙ numbers-append (filter_map (settled padding page cs) a.done) (c.in-Some.number, c.entry-entry.result) a.rest) in
    elim c.if-entry-page.branch [
      | then-entry-page w ↦
          rw (w.entries-is, w.changes-is) (record {
            walked = walked-here padding page cs _ _ _ _ _ _ _ _ _ _ _ _ a first
                (omega (arith, a.room, w.settle.ensures.longer, w.settle.ensures.room)) w.if-entry-page.true
                (w.settle.ensures.settled (filter_map (settled padding page cs) a.done) a.rest a.is) w.settle.ensures.told;
            made = w.settle.ensures.made ∙ c.loop.invariant.made;
            reserved = w.settle.ensures.reserved ∙ c.loop.invariant.reserved;
            capacity = omega (arith, c.loop.invariant.capacity, w.settle.ensures.room);
          })
      | else-entry-page w ↦
          rw (w.entries-is, w.changes-is) (record {
            walked = walked-past padding page cs _ _ _ _ _ _ _ _ _ _ _ _ a first (omega (arith, a.room)) w.if-entry-page.false refl refl;
            made = c.loop.invariant.made;
            reserved = c.loop.invariant.reserved;
            capacity = c.loop.invariant.capacity;
          })
    ]
