use Rattle.std.proofs.Common.{arith}
use Rattle.atlas_tree.proofs.PlanLemmas.GrownSlots.{nest-list, nest-widened}
use Rattle.atlas_store.proofs.StoreLemmas.TakenOnce.{only-takes}
use Rattle.atlas_tree.proofs.growth.widen.Goals as goal

pub nest-requires-clause-ready : goal.nest-requires-clause-ready
nest-requires-clause-ready g c = grind arith

pub list-requires : goal.list-requires
list-requires g c = nest-list c.requires.ready.2 c.nest.ensures

pub returns : goal.returns
returns g c = record {
  kept = λ h d s. nest-widened s c.nest.ensures c.list.ensures;
  takes = only-takes c.nest.ensures.takes c.list.ensures.takes;
}
