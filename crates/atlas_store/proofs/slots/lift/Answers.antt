use Rattle.std.proofs.Common.{◌∙◌, arith}
use Rattle.std.proofs.lemmas.List.{length-map}
use Rattle.atlas_store.specs.Slots.{nodes}
use Rattle.atlas_store.proofs.SlotLemmas.LiftWrites.{child-lifted, container-inside}
use Rattle.atlas_store.proofs.slots.lift.Goals as goal

pub set_kind-requires : goal.set_kind-requires
set_kind-requires c = grind (arith, container-inside, length-map)

pub returns-clause-lifted : goal.returns-clause-lifted
returns-clause-lifted c =
    rw c.read_node.ensures (child-lifted c.args.slots.now c.set_kind-2.new.slots (nodes c.set_kind.new.slots) c.args.child.number
    (simp length-map c.requires.short) c.requires.stands c.requires.lone (rw c.read_node.ensures at c.set_kind.ensures.written)
    c.set_kind-2.ensures.written (c.set_kind-2.ensures.same_rings ∙ c.set_kind.ensures.same_rings))
