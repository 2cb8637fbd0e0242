use Rattle.std.proofs.Common.{◌∙◌, arith}
use Rattle.std.proofs.lemmas.List.{length-map}
use Rattle.atlas_store.specs.Slots.{nodes}
use Rattle.atlas_store.proofs.SlotLemmas.Frames.{keeps-same}
use Rattle.atlas_store.proofs.SlotLemmas.NestedTops.{hanging-begins, hanging-ends, hanging-slot, hung-by, hanging-goes_on, hanging-falls}
use Rattle.atlas_store.proofs.SlotLemmas.NestedTops.{hung-uses, uses-from}
use Rattle.atlas_store.proofs.slots.extending.hang.Goals as goal

pub loop-at-init : goal.loop-at-init
loop-at-init c = grind (arith, hanging-begins, length-map, keeps-same)

pub read_node-node-requires : goal.read_node-node-requires
read_node-node-requires c = grind (arith, hanging-slot)

pub write_node-requires : goal.write_node-requires
write_node-requires c = grind (arith, hanging-slot)

pub loop-at-smaller : goal.loop-at-smaller
loop-at-smaller c =
    grind (
      arith,
      hung-by (nodes c.loop-at.slots) (nodes c.write_node.new.slots) c.loop-at.at.number c.args.container c.read_node-node.result,
      hanging-falls,
    )

pub loop-at-preserved : goal.loop-at-preserved
loop-at-preserved c =
    let t = c.requires.stands in
    let g = c.loop-at.invariant.hanging t.0 t.1 t.2 in
    let w = hung-by (nodes c.loop-at.slots) (nodes c.write_node.new.slots) c.loop-at.at.number c.args.container c.read_node-node.result t.0
    t.1 c.loop-at-test.true g c.read_node-node.ensures c.write_node.ensures.written in
    record {
      hanging = λ s n h. rw c.read_node-node.ensures (hanging-goes_on _ _ c.loop-at.at.number c.args.container w s n c.loop-at-test.true
          (c.loop-at.invariant.hanging s n h)).0;
      uses = λ k. uses-from _ _ _ (c.loop-at.invariant.uses k) (hung-uses _ _ c.loop-at.at.number c.args.container w k);
      same_rings = c.write_node.ensures.same_rings ∙ c.loop-at.invariant.same_rings;
    }

pub returns : goal.returns
returns c = grind (arith, hanging-ends)
