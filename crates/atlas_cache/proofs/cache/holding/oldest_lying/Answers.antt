use Rattle.std.proofs.Common.{◌∙◌, ap, refl, subst, sym, arith}
use Rattle.atlas_entries.specs.Entries.{entry_at, numbers, EndsBlank, IsNumber, Table}
use Rattle.atlas_cache.proofs.PassLemmas.{can-pass, looked, looked-numbers, next-number, none-passed, oldest-looked, passed-all}
use Rattle.atlas_cache.proofs.PassLemmas.{passed-none, passed-one}
use Rattle.atlas_cache.proofs.cache.holding.oldest_lying.Goals as goal

pub loop-init : goal.loop-init
loop-init g c = record {
  passed = none-passed c.args.entries.now.entries c.unpassed-next.result c.unpassed-next.ensures.next;
  same = refl;
}

pub returns-in_default-clause-none : goal.returns-in_default-clause-none
returns-in_default-clause-none g c = passed-none _ _ (rw c.in_default.is at c.loop.invariant.passed)

pub returns-clause-none : goal.returns-clause-none
returns-clause-none g c =
    passed-all _ _ _ c.loop.invariant.passed (omega (arith, c.loop-test.false, c.len-end.ensures))

pub entry-entry-requires : goal.entry-entry-requires
entry-entry-requires g c =
    subst (λ (t : Table g.row.K.Denot). IsNumber c.in-Some.number t.entries) (sym c.loop.invariant.same)
    (next-number _ _ _ (rw c.in-Some.is at c.loop.invariant.passed) c.prove_kept.ensures.numbers)

pub returns-then-not-is_blank-clause-last : goal.returns-then-not-is_blank-clause-last
returns-then-not-is_blank-clause-last g c =
    let numbers = c.prove_kept.ensures.numbers in
    let at = ap (λ (t : Table g.row.K.Denot). entry_at c.in-Some.number t.entries) (sym c.loop.invariant.same) ∙ c.entry-entry.ensures in
    let l = looked _ _ c.entry-entry.result _ (rw c.in-Some.is at c.loop.invariant.passed) numbers at in
    oldest-looked _ _ _ _ l numbers at (sym c.is_blank.ensures ∙ c.if-not-is_blank.true)

pub pass-requires : goal.pass-requires
pass-requires g c =
    let at = ap (λ (t : Table g.row.K.Denot). entry_at c.in-Some.number t.entries) (sym c.loop.invariant.same) ∙ c.entry-entry.ensures in
    let l = looked _ _ c.entry-entry.result _ (rw c.in-Some.is at c.loop.invariant.passed) c.prove_kept.ensures.numbers at in
    subst (λ (t : Table g.row.K.Denot). EndsBlank c.in-Some.number t.entries) (sym c.loop.invariant.same)
    (can-pass _ _ _ _ l (sym c.is_blank.ensures ∙ c.if-not-is_blank.false))

pub newer-next-requires : goal.newer-next-requires
newer-next-requires g c =
    subst (λ (t : Table g.row.K.Denot). IsNumber c.in-Some.number t.entries) (sym (c.pass.ensures ∙ c.loop.invariant.same))
    (next-number _ _ _ (rw c.in-Some.is at c.loop.invariant.passed) c.prove_kept.ensures.numbers)

pub loop-preserved : goal.loop-preserved
loop-preserved g c =
    let same = c.pass.ensures ∙ c.loop.invariant.same in
    let at = ap (λ (t : Table g.row.K.Denot). entry_at c.in-Some.number t.entries) (sym c.loop.invariant.same) ∙ c.entry-entry.ensures in
    let l = looked _ c.in-Some.number c.entry-entry.result _ (rw c.in-Some.is at c.loop.invariant.passed) c.prove_kept.ensures.numbers at in
    record {
      passed = passed-one _ _ _ _ _ l (sym c.is_blank.ensures ∙ c.if-not-is_blank.false)
          (c.newer-next.ensures.next (numbers l.newer) (numbers l.older)
          (ap (λ (t : Table g.row.K.Denot). numbers t.entries) same ∙ looked-numbers _ _ _ _ l));
      same = same;
    }
