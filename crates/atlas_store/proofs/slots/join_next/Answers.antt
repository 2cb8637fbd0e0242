use Rattle.std.proofs.Common.{◌<◌, ◌≡◌, ℕ, length, sym, ap, ◌∙◌, subst, arith}
use Rattle.std.proofs.lemmas.List.{length-map}
use Rattle.atlas_store.specs.declared.slots.Node.{Node}
use Rattle.atlas_store.specs.Slots.{nodes, node_at}
use Rattle.atlas_search.specs.Numbers.{no_slot}
use Rattle.atlas_store.specs.Slots.SlotCalls.{IsNextJoined}
use Rattle.atlas_store.proofs.SlotLemmas.Joins.{Stands-joined, joined-use}
use Rattle.atlas_store.proofs.SlotLemmas.JoinWrites.{join_next_is, IsSlot-after}
use Rattle.atlas_store.proofs.SlotLemmas.Calm.{calm-joined}
use Rattle.atlas_store.proofs.SlotLemmas.SlotAreas.{free-inside}
use Rattle.atlas_store.proofs.slots.join_next.Goals as goal

pub read_node-this-requires : goal.read_node-this-requires
read_node-this-requires c = free-inside c.args.slots.now c.args.slot.number c.requires.free.free

pub read_node-next-requires : goal.read_node-next-requires
read_node-next-requires c = rw c.read_node-this.ensures (free-inside c.args.slots.now _ c.requires.free.next_free)

pub write_node-requires : goal.write_node-requires
write_node-requires c = free-inside c.args.slots.now c.args.slot.number c.requires.free.free

pub set_kind-requires : goal.set_kind-requires
set_kind-requires c =
    let next = ap (λ (n : Node). n.next.number) c.read_node-this.ensures in
    omega (arith, next, c.set_previous.auto.slots, c.write_node.auto.slots, free-inside c.args.slots.now _ c.requires.free.next_free)

pub set_previous-requires-clause-inside : goal.set_previous-requires-clause-inside
set_previous-requires-clause-inside c =
    IsSlot-after (nodes c.args.slots.now) c.args.slot c.read_node-this.result c.read_node-next.result _
    (simp length-map c.requires.short) c.requires.stands c.requires.free c.read_node-this.ensures c.read_node-next.ensures
    (simp length-map c.write_node.auto.slots)

pub returns-clause-joined : goal.returns-clause-joined
returns-clause-joined c =
    let short : length (nodes c.args.slots.now) < no_slot = simp length-map c.requires.short in
    let next : c.read_node-this.result.next.number ≡ (node_at (nodes c.args.slots.now) c.args.slot.number).next.number =
    ap (λ (n : Node). n.next.number) c.read_node-this.ensures in
    let w = join_next_is (nodes c.args.slots.now) _ _ (nodes c.set_kind.new.slots) c.args.slot c.read_node-this.result
    c.read_node-next.result short c.requires.stands c.requires.free c.read_node-this.ensures c.read_node-next.ensures
    c.write_node.ensures.written c.set_previous.ensures.written c.set_kind.ensures.written in
    subst (λ (j : ℕ). IsNextJoined c.args.slots.now c.set_kind.new.slots c.args.slot.number j) (sym next) (record {
      tree = Stands-joined _ _ _ _ _ w;
      calm = λ k but which. calm-joined _ _ _ _ _ k w which but;
      apart = w.apart;
      leaf = w.this;
      given = w.given;
      others = joined-use _ _ _ _ _ w;
      same_rings = c.set_kind.ensures.same_rings ∙ c.set_previous.ensures.same_rings ∙ c.write_node.ensures.same_rings;
    })
