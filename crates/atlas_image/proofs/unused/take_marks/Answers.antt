use Rattle.std.proofs.Common.{◌≡◌, ◌+◌, [], ◌∷◌, ◌++◌, true, false, ap, arith, refl, rules, set, slice_index_or, subst, sym}
use Rattle.std.proofs.lemmas.Bool.{eqb-true, eq-eqb}
use Rattle.atlas_image.specs.Unused.{count_of}
use Rattle.atlas_image.proofs.ImageLemmas.UnusedLines.{
  IsStillMarked,
  IsTakenTo,
  still-all,
  still-ends,
  still-inside,
  still-marked,
  still-more,
  still-over,
  taken-all,
  taken-more,
  taken-none,
}
use Rattle.atlas_store.specs.declared.slots.Node.{Node}
use Rattle.atlas_image.proofs.unused.take_marks.Goals as goal

pub loop-step-init : goal.loop-step-init
loop-step-init c = record {
  sound = ([], taken-none c.args.nodes.now c.args.marks.now c.args.first.number);
  complete = λ short zs h. (zs, still-all c.args.nodes.now c.args.marks.now c.args.first.number zs h);
}

pub loop-step-preserved : goal.loop-step-preserved
loop-step-preserved c =
    let h = c.loop-step.invariant.sound in
    let marked : slice_index_or c.loop-step.marks c.loop-step.at.number false ≡ true = search rules in
    record {
      sound = (
        h.0 ++ c.loop-step.at.number ∷ [],
        subst
            (λ (n : Node). IsTakenTo c.args.nodes.now c.args.marks.now (set c.loop-step.marks c.loop-step.at.number false)
            c.args.first.number (h.0 ++ c.loop-step.at.number ∷ []) n.next.number) (sym c.node.ensures)
            (taken-more c.args.nodes.now c.args.marks.now c.loop-step.marks c.args.first.number h.0 c.loop-step.at.number h.1
            (omega arith) (omega arith) (ap count_of marked)),
      );
      complete = λ short zs m.
          let old = c.loop-step.invariant.complete short zs m in
          let new = still-more c.args.nodes.now c.args.marks.now c.loop-step.marks zs old.0 c.loop-step.at.number
          c.loop-step._step old.1 c.if-at.false in (
            new.0,
            subst
                (λ (n : Node). IsStillMarked c.args.nodes.now c.args.marks.now
                (set c.loop-step.marks c.loop-step.at.number false) zs new.0 n.next.number (c.loop-step._step + 1))
                (sym c.node.ensures) new.1,
          );
    }

pub returns-then-at-clause-sound : goal.returns-then-at-clause-sound
returns-then-at-clause-sound c = λ _.
    let h = c.loop-step.invariant.sound in (
      h.0,
      taken-all c.args.nodes.now c.args.marks.now c.loop-step.marks c.args.first.number h.0 c.loop-step.at.number h.1
          (omega arith) c.if-at.true,
    )

pub returns-then-at-clause-complete : goal.returns-then-at-clause-complete
returns-then-at-clause-complete c = λ short zs m.
    let old = c.loop-step.invariant.complete short zs m in (
      refl,
      still-ends c.args.nodes.now c.args.marks.now c.loop-step.marks c.args.first.number zs old.0
          c.loop-step.at.number c.loop-step._step m old.1 short c.if-at.true,
    )

pub returns-then-i-marks-clause-complete : goal.returns-then-i-marks-clause-complete
returns-then-i-marks-clause-complete c = λ short zs m.
    let old = c.loop-step.invariant.complete short zs m in
    let inside = still-inside c.args.nodes.now c.args.marks.now c.loop-step.marks zs old.0 c.loop-step.at.number c.loop-step._step
    old.1 c.if-at.false in
    absurd (omega (arith, inside, c.if-i-marks.true))

pub returns-then-not-marks-i-clause-complete : goal.returns-then-not-marks-i-clause-complete
returns-then-not-marks-i-clause-complete c = λ short zs m.
    let old = c.loop-step.invariant.complete short zs m in
    let some = still-marked c.args.nodes.now c.args.marks.now c.loop-step.marks zs old.0 c.loop-step.at.number c.loop-step._step
    old.1 c.if-at.false in
    let no : slice_index_or c.loop-step.marks c.loop-step.at.number false ≡ false = search rules in
    absurd (omega (arith, some, ap count_of no))

pub returns-clause-sound : goal.returns-clause-sound
returns-clause-sound c = λ t.
    let h = c.loop-step.invariant.sound in (
      h.0,
      taken-all c.args.nodes.now c.args.marks.now c.loop-step.marks c.args.first.number h.0 c.loop-step.at.number h.1
          (omega arith) (eqb-true _ _ t),
    )

pub returns-clause-complete : goal.returns-clause-complete
returns-clause-complete c = λ short zs m.
    let old = c.loop-step.invariant.complete short zs m in
    let none = still-over c.args.nodes.now c.args.marks.now c.loop-step.marks c.args.first.number zs old.0
    c.loop-step.at.number c.loop-step._step m old.1 (omega arith) in (
      eq-eqb _ _ none,
      still-ends c.args.nodes.now c.args.marks.now c.loop-step.marks c.args.first.number zs old.0
          c.loop-step.at.number c.loop-step._step m old.1 short none,
    )
