use Rattle.std.proofs.Common.{arith}
use Rattle.atlas_cache.proofs.UsableLemmas.{fits_more}
use Rattle.atlas_cache.proofs.rooms.usable.unusable_sum.Goals as goal

pub overflow_add-sum : goal.overflow_add-sum
overflow_add-sum c =
    let less = fits_more (record { width = c.args.width; height = c.args.height }) c.args.free.now c.loop-at.at c.loop-at.sum
    c.unusable_of-sum.result 18446744073709551616 c.loop-at-test.true c.loop-at.invariant c.unusable_of-sum.ensures c.requires in
    omega (arith, less)
