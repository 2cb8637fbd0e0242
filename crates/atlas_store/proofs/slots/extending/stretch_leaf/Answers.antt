use Rattle.std.proofs.Common.{rules, ◌<◌, length, arith}
use Rattle.std.proofs.lemmas.Bool.{cases_eq}
use Rattle.std.proofs.lemmas.List.{length-map}
use Rattle.atlas_store.specs.Slots.{nodes, node_at}
use Rattle.atlas_store.specs.Slots.Growing.{stretched_area}
use Rattle.atlas_store.proofs.SlotLemmas.Frames.{IsWritten-by}
use Rattle.atlas_store.proofs.SlotLemmas.Extensions.{Stands-stretched}
use Rattle.atlas_store.proofs.slots.extending.stretch_leaf.Goals as goal

pub returns : goal.returns
returns c =
    let at : c.args.at.number < length (nodes c.args.slots.now) = simp length-map c.requires.inside in
    let leaf = node_at (nodes c.args.slots.now) c.args.at.number in
    let w = IsWritten-by (nodes c.args.slots.now) (nodes c.write_node.new.slots) c.args.at.number _
    (record leaf { area = stretched_area leaf.area c.args.size }) c.write_node.ensures.written
    (rw c.read_node-leaf.ensures (search rules)) at in
    record {
      longer = Stands-stretched _ _ _ c.args.size c.requires.exact c.requires.free w;
      whole = search rules;
      leaf = w.there;
      others = w.others;
      generations = λ k. grind (arith, cases_eq k c.args.at.number, w.there, w.others k);
      same_rings = c.write_node.ensures.same_rings;
    }
