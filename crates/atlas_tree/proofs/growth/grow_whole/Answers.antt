use Rattle.std.proofs.Common.{◌∙◌}
use Rattle.atlas_tree.proofs.PlanLemmas.GrownSlots.{whole-ready, whole-list, whole-grown}
use Rattle.atlas_store.proofs.StoreLemmas.TakenOnce.{only-takes}
use Rattle.atlas_tree.proofs.growth.grow_whole.Goals as goal

pub stretch_whole-requires-clause-ready : goal.stretch_whole-requires-clause-ready
stretch_whole-requires-clause-ready g c = whole-ready c.requires.tree.2 c.requires.tree.3 c.unlist.ensures

pub list-requires : goal.list-requires
list-requires g c = whole-list c.requires.tree.2 c.requires.tree.3 c.unlist.ensures c.stretch_whole.ensures

pub returns : goal.returns
returns g c = record {
  grown = λ h before t alone. whole-grown t alone c.unlist.ensures c.stretch_whole.ensures c.list.ensures c.requires.positive;
  slots = c.list.ensures.slots ∙ c.stretch_whole.ensures.slots ∙ c.unlist.ensures.slots;
  takes = only-takes (only-takes c.unlist.ensures.takes c.stretch_whole.ensures.takes) c.list.ensures.takes;
}
