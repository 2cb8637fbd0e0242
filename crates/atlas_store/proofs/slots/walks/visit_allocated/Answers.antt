use Rattle.std.proofs.Common.{rules, refl, arith}
use Rattle.atlas_store.proofs.WalkLemmas.WalkSteps.{visits-allocated, passes-allocated, asks-allocated, asks-more-allocated}
use Rattle.atlas_store.proofs.WalkLemmas.WalkSteps.{asks-past-allocated}
use Rattle.atlas_store.proofs.slots.walks.visit_allocated.Goals as goal
use Rattle.atlas_store.proofs.slots.walks.visit_allocated.Goals.{then-eq, else-eq}

pub visit-requires : goal.visit-requires
visit-requires g c =
    asks-allocated g.F.FnMut c.args.slots.now c.loop-number.number _ c.loop-number-test.true c.loop-number.visit _ _ (search rules)
    c.slot_id.ensures refl c.loop-number.invariant.0

pub loop-number-preserved : goal.loop-number-preserved
loop-number-preserved g c = grind (arith, asks-more-allocated, visits-allocated, asks-past-allocated, passes-allocated)
