use Rattle.std.proofs.Common.{◌∙◌, ◌∷◌, [], ap, arith, length, refl, sym}
use Rattle.guillotiere.specs.Pixels.{box_of}
use Rattle.atlas_cache.specs.Caches.{entries_of}
use Rattle.atlas_entries.specs.Entries.{numbers}
use Rattle.atlas_cache.proofs.ClearingLemmas.{count-in, count-out, split-same}
use Rattle.atlas_cache.proofs.VacateLemmas.{looked-at, looked-numbers_at, none-walked, walked-none, walked-number, walked-one}
use Rattle.atlas_cache.proofs.cache.vacating.inside.Goals.{then-lies_in, else-lies_in}
use Rattle.atlas_cache.proofs.cache.vacating.inside.Goals as goal

pub loop-looked-init : goal.loop-looked-init
loop-looked-init g c = record {
  older = [];
  walked = none-walked c.args.entries.now.entries c.oldest-next.result c.oldest-next.ensures.last;
  looked = refl;
  found = refl;
  few = omega arith;
}

pub entry-entry-requires : goal.entry-entry-requires
entry-entry-requires g c =
    walked-number _ c.loop-looked.invariant.older _ _ (rw c.in-Some.is at c.loop-looked.invariant.walked) c.prove_kept.ensures.numbers

pub returns-in_default-clause-inside : goal.returns-in_default-clause-inside
returns-in_default-clause-inside g c = λ newer older was counted.
    let inv = c.loop-looked.invariant in
    let all = ap length (walked-none _ inv.older _ (rw c.in_default.is at inv.walked)) in
    let many = c.requires in
    absurd (omega (arith, all, many, inv.looked, c.loop-looked-test.true))

pub returns-clause-inside : goal.returns-clause-inside
returns-clause-inside g c = λ newer older was counted.
    let inv = c.loop-looked.invariant in
    let same = split-same c.args.page (box_of c.args.area.now) 0 inv.walked.newer inv.older newer older
    (sym inv.walked.was ∙ was) (omega (arith, inv.looked, counted, c.loop-looked-test.false, c.loop-looked.auto.looked-end)) in
    rw (← same.1) inv.found

pub loop-looked-preserved : goal.loop-looked-preserved
loop-looked-preserved g c =
    let inv = c.loop-looked.invariant in
    let l = looked-at _ inv.older _ _ _ (rw c.in-Some.is at inv.walked) c.prove_kept.ensures.numbers c.entry-entry.ensures in
    let e = c.entry-entry.result in
    let page = c.args.page in
    let box = box_of c.args.area.now in
    let walked = walked-one _ inv.older _ _ _ _ l
    (c.newer-next.ensures.next (numbers l.newer) (numbers inv.older) (looked-numbers_at _ inv.older _ _ _ l)) in
    elim c.if-lies_in.branch [
      | then-lies_in w ↦ record {
        older = (c.in-Some.number, e) ∷ inv.older;
        walked = walked;
        looked = omega (arith, inv.looked);
        found = omega (
          arith,
          w.found-is,
          inv.found,
          count-in page box 0 e (entries_of inv.older)
              (sym c.lies_in.ensures ∙ w.if-lies_in.true),
        );
        few = omega (arith, w.found-is, inv.few);
      }
      | else-lies_in w ↦ record {
        older = (c.in-Some.number, e) ∷ inv.older;
        walked = walked;
        looked = omega (arith, inv.looked);
        found = omega (
          arith,
          w.found-is,
          inv.found,
          count-out page box 0 e (entries_of inv.older)
              (sym c.lies_in.ensures ∙ w.if-lies_in.false),
        );
        few = omega (arith, w.found-is, inv.few);
      }
    ]
