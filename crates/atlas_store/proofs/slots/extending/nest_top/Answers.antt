use Rattle.std.proofs.Common.{◌∙◌, ap, arith, refl}
use Rattle.std.proofs.lemmas.List.{length-map}
use Rattle.atlas_store.specs.Slots.{nodes, node_at}
use Rattle.atlas_store.proofs.SlotLemmas.Frames.{IsWritten-by}
use Rattle.atlas_store.proofs.SlotLemmas.NestedTops.{top_node, last_node, nested-top, nested-others, nested-generations, Stands-nested}
use Rattle.atlas_store.proofs.slots.extending.nest_top.Goals as goal

pub returns : goal.returns
returns c =
    let ns = nodes c.args.slots.now in
    let ms = nodes c.hang.new.slots in
    let can = c.requires.ready in
    let hung = c.hang.ensures in
    let unused = node_at ns c.args.container.number in
    let top = top_node (node_at ns c.args.first.number) unused c.args.inner c.args.strip in
    let last = last_node top (node_at ns c.args.strip.number) c.args.size c.args.container in
    let xs = nodes c.write_node.new.slots in
    let w1 = IsWritten-by ms xs c.args.container.number _ top c.write_node.ensures.written
    (rw (c.from.ensures, c.across-axis.ensures, c.read_node.ensures, c.read_node-2.ensures) refl)
    (simp length-map (omega (arith, c.hang.auto.slots, c.requires.container))) in
    let w2 = IsWritten-by xs (nodes c.write_node-2.new.slots) c.args.strip.number _ last c.write_node-2.ensures.written
    (rw (c.beyond.ensures, c.from.ensures, c.across-axis.ensures, c.read_node.ensures, c.read_node-3.ensures) refl)
    (simp length-map (omega (arith, c.write_node.auto.slots, c.hang.auto.slots, c.requires.strip))) in
    record {
      tree = λ s n d h start reach wider.
          Stands-nested _ _ _ _ _ _ _ _ _ can hung.uses w1 w2 c.requires.inner c.requires.exact s n d h start reach
          wider (hung.tree s n h);
      container = ap (λ n. n.kind) (nested-top _ _ _ _ _ _ _ _ _ can hung.uses w1 w2);
      free = ap (λ n. n.kind) w2.there;
      others = nested-others _ _ _ _ _ _ _ _ _ can hung.uses w1 w2;
      generations = nested-generations _ _ _ _ _ _ _ _ _ can hung.uses w1 w2;
      same_rings = c.write_node-2.ensures.same_rings ∙ c.write_node.ensures.same_rings ∙ hung.same_rings;
    }
