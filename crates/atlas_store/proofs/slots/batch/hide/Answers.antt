use Rattle.std.proofs.Common.{arith}
use Rattle.atlas_store.specs.Slots.{nodes}
use Rattle.atlas_store.proofs.WalkLemmas.HiddenSlots.{hidden-more, hidable-more, not-hidable}
use Rattle.atlas_store.proofs.slots.batch.hide.Goals as goal

pub returns-in-None-clause-last : goal.returns-in-None-clause-last
returns-in-None-clause-last c = grind (arith, not-hidable)

pub loop-count-preserved : goal.loop-count-preserved
loop-count-preserved c =
    grind (
      arith,
      hidden-more (nodes c.args.slots.now) (nodes c.loop-count.slots) (nodes c.set_kind.new.slots) c.args.ids.now c.loop-count.count
          c.index-ids-count.result c.in-Some.at c.loop-count-test.true c.index-ids-count.is c.in-Some.ensures.found,
      hidable-more (nodes c.args.slots.now) (nodes c.loop-count.slots) c.args.ids.now c.loop-count.count c.index-ids-count.result
          c.loop-count-test.true c.index-ids-count.is,
    )
