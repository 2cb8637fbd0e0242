use Rattle.std.proofs.Common.{◌∙◌, sym, ap, refl, set}
use Rattle.std.proofs.lemmas.List.{map-set, get_or-map}
use Rattle.std.proofs.Math.Seq.{map-set_same}
use Rattle.atlas_store.specs.declared.slots.Ring.{Ring}
use Rattle.atlas_store.specs.Slots.{rings, blank_ring}
use Rattle.atlas_store.proofs.slots.lists.set_right.Goals as goal

pub returns-clause-written : goal.returns-clause-written
returns-clause-written c =
    map-set _ _ _ _
    ∙ ap (λ (r : Ring). set (rings c.args.slots.now) c.args.at.number (record r { right = c.args.right }))
    (sym (get_or-map _ c.args.slots.now _ _ blank_ring c.requires))

pub returns-clause-same_nodes : goal.returns-clause-same_nodes
returns-clause-same_nodes c = map-set_same _ _ _ _ _ refl
