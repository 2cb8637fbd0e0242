use Rattle.std.proofs.Common.{◌≡◌, arith, subst}
use Rattle.std.specs.List.{filter}
use Rattle.std.proofs.lemmas.List.{take_all}
use Rattle.guillotiere.specs.Apart.{is_part}
use Rattle.guillotiere.proofs.SimpleLemmas.ApartSteps.{filter-left, filter-taken}
use Rattle.guillotiere.proofs.simple.apart.parts.Goals as goal
use Rattle.guillotiere.proofs.simple.apart.parts.Goals.{then-is_part+in_ok-push, else-is_part}

pub loop-area-preserved : goal.loop-area-preserved
loop-area-preserved g c =
    let p = is_part c.args.slab.low c.args.slab.high c.args.part.low c.args.part.high in
    elim c.if-is_part.branch [
      | then-is_part+in_ok-push w ↦
          let e = filter-taken p c.args.boxes.now c.loop-area.area-index _ _ c.is_part.ensures w.if-is_part.true c.loop-area-test.true in
          rw w.parts-is (grind (arith, e, c.loop-area.invariant, w.in_ok-push.ensures.items))
      | else-is_part w ↦
          let e = filter-left p c.args.boxes.now c.loop-area.area-index _ _ c.is_part.ensures w.if-is_part.false c.loop-area-test.true in
          rw w.parts-is (grind (arith, e, c.loop-area.invariant))
    ]

pub returns : goal.returns
returns g c =
    subst (λ l. c.loop-area.parts.items ≡ filter (is_part c.args.slab.low c.args.slab.high c.args.part.low c.args.part.high) l)
    (take_all c.loop-area.area-index c.args.boxes.now c.loop-area-test.false) c.loop-area.invariant
