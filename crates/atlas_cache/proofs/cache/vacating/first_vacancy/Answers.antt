use Rattle.std.proofs.Common.{◌∷◌, [], arith, refl}
use Rattle.atlas_cache.specs.Caches.{entries_of}
use Rattle.atlas_entries.specs.Entries.{numbers}
use Rattle.atlas_cache.proofs.BlankLemmas.{falls-here}
use Rattle.atlas_cache.proofs.CacheLemmas.{rectangle-live}
use Rattle.atlas_cache.proofs.VacateLemmas.{crowded-all, crowded-here, entry-fresh, looked-at, looked-entries, looked-numbers_at}
use Rattle.atlas_cache.proofs.VacateLemmas.{none-walked, walked-all, walked-none, walked-number, walked-one}
use Rattle.atlas_cache.proofs.cache.vacating.first_vacancy.Goals as goal

pub loop-looked-init : goal.loop-looked-init
loop-looked-init g c = record {
  older = [];
  walked = none-walked c.args.entries.now.entries c.oldest-next.result c.oldest-next.ensures.last;
  looked = refl;
  unused = tt;
  shown = c.requires.shown;
  none = c.requires.none;
}

pub entry-entry-requires : goal.entry-entry-requires
entry-entry-requires g c =
    walked-number _ c.loop-looked.invariant.older _ _ (rw c.in-Some.is at c.loop-looked.invariant.walked) c.prove_kept.ensures.numbers

pub returns-in_default-clause-crowded : goal.returns-in_default-clause-crowded
returns-in_default-clause-crowded g c = λ _ page.
    crowded-all c.args.asked c.args.rooms.now.pages c.args.frame page c.args.entries.now.entries c.loop-looked.invariant.older
    (walked-none _ _ _ (rw c.in_default.is at c.loop-looked.invariant.walked)) c.loop-looked.invariant.unused
    (c.loop-looked.invariant.none page)

pub returns-clause-crowded : goal.returns-clause-crowded
returns-clause-crowded g c = λ _ page.
    crowded-all c.args.asked c.args.rooms.now.pages c.args.frame page c.args.entries.now.entries c.loop-looked.invariant.older
    (walked-all _ _ _ _ c.loop-looked.invariant.walked (omega (arith, c.loop-looked-test.false, c.len-looked-end.ensures)))
    c.loop-looked.invariant.unused
    (c.loop-looked.invariant.none page)

pub returns-then-entry-frame-clause-crowded : goal.returns-then-entry-frame-clause-crowded
returns-then-entry-frame-clause-crowded g c = λ _ page.
    let w = rw c.in-Some.is at c.loop-looked.invariant.walked in
    let l = looked-at _ c.loop-looked.invariant.older _ _ _ w c.prove_kept.ensures.numbers c.entry-entry.ensures in
    crowded-here c.args.asked c.args.rooms.now.pages c.args.frame page c.args.entries.now.entries c.loop-looked.invariant.older _ _ _ l
    c.requires.falls c.if-entry-frame.true c.loop-looked.invariant.unused (c.loop-looked.invariant.none page)

pub show-requires-clause-on_page : goal.show-requires-clause-on_page
show-requires-clause-on_page g c = λ lies.
    rectangle-live c.args.rooms.now.pages c.in-Some.number c.args.entries.now.entries c.entry-entry.result c.requires.held
    c.entry-entry.ensures lies

pub show-requires-clause-showing : goal.show-requires-clause-showing
show-requires-clause-showing g c =
    let w = rw c.in-Some.is at c.loop-looked.invariant.walked in
    let l = looked-at _ c.loop-looked.invariant.older _ _ _ w c.prove_kept.ensures.numbers c.entry-entry.ensures in (
      entries_of c.loop-looked.invariant.older,
      c.loop-looked.invariant.shown,
      entry-fresh c.args.rooms.now.pages _ c.loop-looked.invariant.older _ _ _ l c.requires.held,
    )

pub returns-in-Some-show-clause-found : goal.returns-in-Some-show-clause-found
returns-in-Some-show-clause-found g c =
    let w = rw c.in-Some.is at c.loop-looked.invariant.walked in
    let l = looked-at _ c.loop-looked.invariant.older _ _ _ w c.prove_kept.ensures.numbers c.entry-entry.ensures in
    let fresh = entry-fresh c.args.rooms.now.pages _ c.loop-looked.invariant.older _ _ _ l c.requires.held in
    let falls = rw (looked-entries _ c.loop-looked.invariant.older _ _ _ l) at c.requires.falls in
    let least = falls-here c.args.frame (entries_of l.newer) c.entry-entry.result (entries_of c.loop-looked.invariant.older) falls in (
      rw c.in-Some-show.is at c.show.ensures.there,
      record {
        newer = l.newer;
        last = (c.in-Some.number, c.entry-entry.result);
        older = c.loop-looked.invariant.older;
        was = l.was;
        counted = omega (arith, c.loop-looked.invariant.looked);
        unused = (omega (arith, least, c.if-entry-frame.false), c.loop-looked.invariant.unused);
        least = c.loop-looked.invariant.none;
        room = rw c.in-Some-show.is at c.show.ensures.room (entries_of c.loop-looked.invariant.older) c.loop-looked.invariant.shown fresh;
      },
    )

pub loop-looked-preserved : goal.loop-looked-preserved
loop-looked-preserved g c =
    let w = rw c.in-Some.is at c.loop-looked.invariant.walked in
    let l = looked-at _ c.loop-looked.invariant.older _ _ _ w c.prove_kept.ensures.numbers c.entry-entry.ensures in
    let fresh = entry-fresh c.args.rooms.now.pages _ c.loop-looked.invariant.older _ _ _ l c.requires.held in
    let falls = rw (looked-entries _ c.loop-looked.invariant.older _ _ _ l) at c.requires.falls in
    let least = falls-here c.args.frame (entries_of l.newer) c.entry-entry.result (entries_of c.loop-looked.invariant.older) falls in
    record {
      older = (c.in-Some.number, c.entry-entry.result) ∷ c.loop-looked.invariant.older;
      walked = walked-one _ c.loop-looked.invariant.older _ _ _ _ l
          (c.newer-next.ensures.next (numbers l.newer) (numbers c.loop-looked.invariant.older)
          (looked-numbers_at _ c.loop-looked.invariant.older _ _ _ l));
      looked = omega (arith, c.loop-looked.invariant.looked);
      unused = (omega (arith, least, c.if-entry-frame.false), c.loop-looked.invariant.unused);
      shown = c.show.ensures.shown (entries_of c.loop-looked.invariant.older) c.loop-looked.invariant.shown fresh;
      none = c.show.ensures.none (entries_of c.loop-looked.invariant.older) c.loop-looked.invariant.shown fresh c.in_default-show.is
          c.loop-looked.invariant.none;
    }
