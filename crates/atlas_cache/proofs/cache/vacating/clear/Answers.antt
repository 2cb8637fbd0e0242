use Rattle.std.proofs.Common.{◌≡◌, ◌∙◌, ◌∷◌, ◌<◌, ◌≤◌, [], ap, arith, inl, inr, length, refl, subst, sym, true, ◌++◌}
use Rattle.std.proofs.lemmas.{Bool.{cases_Bool}}
use Rattle.guillotiere.specs.Pixels.{box_of}
use Rattle.atlas_entries.specs.declared.entries.Entry.{Entry}
use Rattle.atlas_cache.specs.Caches.{entries_of}
use Rattle.atlas_cache.specs.Vacating.{lies_in}
use Rattle.atlas_entries.specs.Entries.{numbers}
use Rattle.atlas_cache.proofs.ClearingLemmas.{all-suffix, cleared-all, clearing-start, count-in, count-out, count-suffix, end-of}
use Rattle.atlas_cache.proofs.ClearingLemmas.{fewer-entries, lies-here, next-at, next-number_of, next-numbers, next-of, one-gone, one-kept}
use Rattle.atlas_cache.proofs.ClearingLemmas.{split-same}
use Rattle.atlas_entries.proofs.AppendedLists.{append-none}
use Rattle.atlas_cache.proofs.BlankLemmas.{length-less}
use Rattle.atlas_cache.proofs.PassLemmas.{no-last}
use Rattle.atlas_cache.proofs.VacateLemmas.{page-lies}
use Rattle.atlas_cache.proofs.cache.vacating.clear.Goals as goal

pub loop-looked-init : goal.loop-looked-init
loop-looked-init g c = record {
  newer = c.args.entries.now.entries;
  older = [];
  kept = [];
  was = sym (append-none _);
  is = sym (append-none _);
  looked = refl;
  next = c.oldest-next.ensures.last;
  clearing = clearing-start c.args.vacancy.now.page (box_of c.args.vacancy.now.area) c.args.frame c.args.changes.now.items
      c.args.rooms.now c.args.entries.now c.args.counts.now (c.requires.sound c.args.vacancy.now.page) c.requires.held c.requires.bordered;
  room = λ xs shown was counted. let fits = c.requires.room xs shown was counted in omega (arith, fits);
  conserved = refl;
  capacity = omega arith;
}

pub newer-next-requires : goal.newer-next-requires
newer-next-requires g c =
    let inv = c.loop-looked.invariant in
    let l = next-of c.in-Some.number inv.newer inv.kept inv.older _ _ (sym c.in-Some.is ∙ inv.next) inv.is inv.was in
    next-number_of _ _ _ _ _ _ l c.prove_kept.ensures.numbers

pub clear_one-requires-clause-here : goal.clear_one-requires-clause-here
clear_one-requires-clause-here g c =
    let inv = c.loop-looked.invariant in
    let l = next-of c.in-Some.number inv.newer inv.kept inv.older _ _ (sym c.in-Some.is ∙ inv.next) inv.is inv.was in
    next-number_of _ _ _ _ _ _ l c.prove_kept.ensures.numbers

pub clear_one-requires-clause-room : goal.clear_one-requires-clause-room
clear_one-requires-clause-room g c = λ e at inside.
    let inv = c.loop-looked.invariant in
    let l = next-of c.in-Some.number inv.newer inv.kept inv.older _ _ (sym c.in-Some.is ∙ inv.next) inv.is inv.was in
    let same : l.entry ≡ e = (let both = sym (next-at _ _ _ _ _ _ l c.prove_kept.ensures.numbers) ∙ at in cc) in
    let page = c.args.vacancy.now.page in
    let box = box_of c.args.vacancy.now.area in
    let it = end-of c.args.entries.now.entries c.args.vacancy.now.count c.requires.count in
    let fits = inv.room it.front it.end it.was it.counted in
    let more = count-suffix page box c.args.frame l.rest ((c.in-Some.number, l.entry) ∷ inv.older) it.front it.end (sym l.was ∙ it.was)
    (omega (arith, inv.looked, it.counted, c.loop-looked-test.true)) in
    let one = count-in page box c.args.frame l.entry (entries_of inv.older)
    (subst (λ (x : Entry g.row.K.Denot). lies_in page box x ≡ true) (sym same) inside) in
    omega (arith, fits, more, one)

pub returns-clause-cleared : goal.returns-clause-cleared
returns-clause-cleared g c = λ newer older was counted.
    let inv = c.loop-looked.invariant in
    let same = split-same c.args.vacancy.now.page (box_of c.args.vacancy.now.area) c.args.frame inv.newer inv.older newer older
    (sym inv.was ∙ was) (omega (arith, inv.looked, counted, c.loop-looked-test.false, c.loop-looked.auto.looked-end)) in
    rw (← same.0, ← same.1)
    (cleared-all c.args.vacancy.now.page (box_of c.args.vacancy.now.area) c.args.frame inv.newer inv.older inv.kept _ _ _ _ _ _ _ _
    inv.clearing inv.is)

pub returns-in_default-clause-cleared : goal.returns-in_default-clause-cleared
returns-in_default-clause-cleared g c = λ newer older was counted.
    let inv = c.loop-looked.invariant in
    let none = no-last inv.newer (sym c.in_default.is ∙ inv.next) in
    let all = ap length inv.was ∙ ap (λ xs. length (xs ++ inv.older)) none in
    let many = c.requires.count in
    absurd (omega (arith, all, many, inv.looked, c.loop-looked-test.true))

pub loop-looked-preserved : goal.loop-looked-preserved
loop-looked-preserved g c =
    let inv = c.loop-looked.invariant in
    let n = c.in-Some.number in
    let page = c.args.vacancy.now.page in
    let box = box_of c.args.vacancy.now.area in
    let l = next-of n inv.newer inv.kept inv.older _ _ (sym c.in-Some.is ∙ inv.next) inv.is inv.was in
    let e = l.entry in
    let at = next-at _ _ _ _ _ _ l c.prove_kept.ensures.numbers in
    let next = c.newer-next.ensures.next (numbers l.rest) (numbers inv.kept) (next-numbers _ _ _ _ _ _ l) in
    let clearing = rw l.newer_is at inv.clearing in
    elim (cases_Bool (lies_in page box e)) [
      | inl inside ↦
          let goes = c.clear_one.ensures.goes e at inside in
          let it = end-of c.args.entries.now.entries c.args.vacancy.now.count c.requires.count in
          let short : length ((n, e) ∷ inv.older) ≤ length it.end = omega (arith, inv.looked, it.counted, c.loop-looked-test.true) in
          let all = all-suffix (λ x. x.frame < c.args.frame) l.rest ((n, e) ∷ inv.older) it.front it.end (sym l.was ∙ it.was) short
          (c.requires.unused it.front it.end it.was it.counted) in
          record {
            newer = l.rest;
            older = (n, e) ∷ inv.older;
            kept = inv.kept;
            was = l.was;
            is = fewer-entries page box c.args.frame l.rest inv.older inv.kept n e _ _ _ _ _ _ _ _ clearing l.is _ _ _ _ goes
                c.prove_kept.ensures.numbers;
            looked = omega (arith, inv.looked);
            next = next;
            clearing = one-gone page box c.args.frame l.rest inv.older inv.kept n e _ _ _ _ _ _ _ _ clearing l.is _ _ _ _ goes inside all.0
                (page-lies c.args.rooms.now.pages page e c.requires.on_page c.requires.numbered (lies-here page box c.args.frame e inside))
                c.requires.full c.prove_kept.ensures.numbers c.clear_one.ensures.held;
            room = λ xs shown was counted.
                let fits = inv.room xs shown was counted in
                omega (
                  arith,
                  fits,
                  c.clear_one.ensures.longer e at inside,
                  count-in page box c.args.frame e (entries_of inv.older) inside,
                  c.clear_one.ensures.capacity,
                );
            conserved = (let fewer = fewer-entries page box c.args.frame l.rest inv.older inv.kept n e _ _ _ _ _ _ _ _ clearing l.is _ _ _ _
                goes c.prove_kept.ensures.numbers in
                omega (
                  arith,
                  inv.conserved,
                  c.clear_one.ensures.longer e at inside,
                  ap length l.is,
                  ap length fewer,
                  length-less l.rest (n, e) inv.kept,
                ));
            capacity = omega (arith, inv.capacity, c.clear_one.ensures.capacity);
          }
      | inr outside ↦
          let stays = c.clear_one.ensures.stays e at outside in
          record {
            newer = l.rest;
            older = (n, e) ∷ inv.older;
            kept = (n, e) ∷ inv.kept;
            was = l.was;
            is = ap (λ t. t.entries) stays.1 ∙ l.is;
            looked = omega (arith, inv.looked);
            next = next;
            clearing = rw (stays.0, stays.1, stays.2, stays.3)
                (one-kept page box c.args.frame l.rest inv.older inv.kept n e _ _ _ _ _ _ _ _ clearing l.is outside);
            room = λ xs shown was counted.
                let fits = inv.room xs shown was counted in
                omega (
                  arith,
                  fits,
                  c.clear_one.ensures.as_long e at outside,
                  count-out page box c.args.frame e (entries_of inv.older)
                      outside,
                  c.clear_one.ensures.capacity,
                );
            conserved = omega (arith, inv.conserved, c.clear_one.ensures.as_long e at outside, ap (λ t. length t.entries) stays.1);
            capacity = omega (arith, inv.capacity, c.clear_one.ensures.capacity);
          }
    ]
