use Rattle.std.proofs.Common.{◌≡◌, arith}
use mir.Val.{to_z, of_z}
use Rattle.std.specs.Int.{w32}
use Rattle.std.proofs.lemmas.Int.{to_z-of_z}
use Rattle.guillotiere.proofs.SimpleLemmas.ApartCrossings.{crossed-by}
use Rattle.guillotiere.proofs.SimpleLemmas.ApartSteps.{no-less, stacked-all, stacked-none, stacked-on}
use Rattle.guillotiere.proofs.simple.apart.are_stacked.Goals as goal

pub loop-area-init : goal.loop-area-init
loop-area-init c = stacked-none c.args.slab.low c.args.slab.high c.args.boxes.now

pub loop-area-preserved : goal.loop-area-preserved
loop-area-preserved c =
    let all : c.end_with-all.result ≡ to_z w32 (of_z w32 c.end_with-all.result) = grind (arith, to_z-of_z) in
    let full : c.end_with-full.result ≡ to_z w32 (of_z w32 c.end_with-full.result) = grind (arith, to_z-of_z) in
    stacked-on c.args.slab.low c.args.slab.high c.args.boxes.now c.loop-area.area-index _ _ _ c.is_full-is_full.result
    c.is_full-is_full.ensures (λ f. no-less _ _ _ (c.is_above.ensures.all f) c.if-is_above.false)
    (λ f. no-less _ _ _ (c.is_above.ensures.full f) c.if-is_above.false) c.loop-area-test.true c.loop-area.invariant _ _
    c.end_with-all.ensures c.end_with-full.ensures _ _ all full

pub returns-clause-stacked : goal.returns-clause-stacked
returns-clause-stacked c = λ e.
    stacked-all c.args.slab.low c.args.slab.high c.args.boxes.now c.loop-area.area-index _ _ c.loop-area.invariant
    c.loop-area-test.false

pub returns-then-is_above-clause-crossed : goal.returns-then-is_above-clause-crossed
returns-then-is_above-clause-crossed c = λ e from apart.
    crossed-by c.args.slab.low c.args.slab.high c.args.boxes.now c.requires.slab c.requires.solid from apart c.loop-area.area-index _ _ _
    c.loop-area-test.true c.loop-area.invariant c.is_full-is_full.result c.is_full-is_full.ensures
    (λ f. (c.is_above.ensures.all f).0 c.if-is_above.true) (λ f. (c.is_above.ensures.full f).0 c.if-is_above.true)
