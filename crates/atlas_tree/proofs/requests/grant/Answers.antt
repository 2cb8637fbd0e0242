use Rattle.std.proofs.Common.{refl}
use Rattle.atlas_tree.proofs.PlanLemmas.ChosenSlots.{listed-chosen, placeable-chosen, granted-inside, granted-short, grant-made}
use Rattle.atlas_store.proofs.StoreLemmas.TakenOnce.{only-takes}
use Rattle.atlas_tree.proofs.requests.grant.Goals as goal

pub unlist-requires-clause-ready : goal.unlist-requires-clause-ready
unlist-requires-clause-ready g c = listed-chosen c.requires.2

pub place-slot-requires : goal.place-slot-requires
place-slot-requires g c = placeable-chosen c.requires.2 c.unlist.ensures

pub node-node-requires : goal.node-node-requires
node-node-requires g c =
    granted-inside c.requires.2 c.unlist.ensures c.place-slot.ensures

pub slot_id-requires : goal.slot_id-requires
slot_id-requires g c =
    granted-short c.requires.2 c.unlist.ensures c.place-slot.ensures

pub returns : goal.returns
returns g c = record {
  granted = λ r h w.
      grant-made w c.unlist.ensures c.place-slot.ensures
      (record { id = c.slot_id.result; rectangle = c.node-node.result.area }) c.node-node.result c.node-node.ensures c.slot_id.ensures refl;
  takes = only-takes c.unlist.ensures.takes c.place-slot.ensures.takes;
}
