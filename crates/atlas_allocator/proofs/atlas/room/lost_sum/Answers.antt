use Rattle.std.proofs.Common.{rules, arith}
use Rattle.atlas_model.specs.Pixels.{sides_of}
use Rattle.atlas_store.specs.Visits.{free_areas}
use Rattle.atlas_store.proofs.WalkLemmas.AreaSums.{free-more, free-past, more-shown, more-rest, past-rest}
use Rattle.atlas_allocator.proofs.AtlasLemmas.FreeRoom.{more-lost, past-lost}
use Rattle.atlas_allocator.proofs.atlas.room.lost_sum.Goals as goal
use Rattle.atlas_allocator.proofs.atlas.room.lost_sum.Goals.{then-eq, else-eq}

pub lost_in-sum-requires : goal.lost_in-sum-requires
lost_in-sum-requires c = grind (arith, more-shown, free-more)

pub loop-slot-preserved : goal.loop-slot-preserved
loop-slot-preserved c =
    elim c.if-eq.branch [
      | then-eq w ↦
          let more = free-more c.args.slots.now c.loop-slot.slot-index _ c.loop-slot-test.true (search rules) in
          record {
            sum = more-lost (sides_of c.args.size) c.args.slots.now c.loop-slot.slot-index _ c.loop-slot.sum c.if-eq.sum
                w.lost_in-sum.result _ more c.loop-slot.invariant.sum w.lost_in-sum.ensures w.sum-is;
            shown = more-rest free_areas c.args.slots.now c.loop-slot.slot-index _ more c.loop-slot.invariant.shown;
          }
      | else-eq w ↦ grind (arith, free-past, past-lost, past-rest)
    ]
