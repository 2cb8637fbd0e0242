use Rattle.std.proofs.Common.{rules, arith}
use Rattle.atlas_store.specs.Visits.{free_areas}
use Rattle.atlas_store.proofs.WalkLemmas.AreaSums.{free-more, free-past, more-shown, more-rest, more-sum, past-rest, past-sum}
use Rattle.atlas_store.proofs.slots.walks.free_sum.Goals as goal
use Rattle.atlas_store.proofs.slots.walks.free_sum.Goals.{then-eq, else-eq}

pub area_of-sum-requires : goal.area_of-sum-requires
area_of-sum-requires c = grind (arith, more-shown, free-more)

pub loop-slot-preserved : goal.loop-slot-preserved
loop-slot-preserved c =
    elim c.if-eq.branch [
      | then-eq w ↦
          let more = free-more c.args.slots.now c.loop-slot.slot-index _ c.loop-slot-test.true (search rules) in
          record {
            sum = more-sum free_areas c.args.slots.now c.loop-slot.slot-index _ more c.loop-slot.sum c.if-eq.sum w.area_of-sum.result _
                c.loop-slot.invariant.sum w.area_of-sum.ensures w.sum-is;
            shown = more-rest free_areas c.args.slots.now c.loop-slot.slot-index _ more c.loop-slot.invariant.shown;
          }
      | else-eq w ↦ grind (arith, free-past, past-sum, past-rest)
    ]
