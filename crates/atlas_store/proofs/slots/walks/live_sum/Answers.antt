use Rattle.std.proofs.Common.{rules, arith}
use Rattle.atlas_store.specs.Slots.Areas.{live_areas}
use Rattle.atlas_store.proofs.WalkLemmas.AreaSums.{live-more, live-past, more-shown, more-rest, more-sum, past-rest, past-sum}
use Rattle.atlas_store.proofs.slots.walks.live_sum.Goals as goal
use Rattle.atlas_store.proofs.slots.walks.live_sum.Goals.{then-eq, else-eq}

pub area_of-sum-requires : goal.area_of-sum-requires
area_of-sum-requires c = grind (arith, more-shown, live-more)

pub loop-slot-preserved : goal.loop-slot-preserved
loop-slot-preserved c =
    elim c.if-eq.branch [
      | then-eq w ↦
          let more = live-more c.args.slots.now c.loop-slot.slot-index _ c.loop-slot-test.true (search rules) in
          record {
            sum = more-sum live_areas c.args.slots.now c.loop-slot.slot-index _ more c.loop-slot.sum c.if-eq.sum w.area_of-sum.result _
                c.loop-slot.invariant.sum w.area_of-sum.ensures w.sum-is;
            shown = more-rest live_areas c.args.slots.now c.loop-slot.slot-index _ more c.loop-slot.invariant.shown;
          }
      | else-eq w ↦ grind (arith, live-past, past-sum, past-rest)
    ]
