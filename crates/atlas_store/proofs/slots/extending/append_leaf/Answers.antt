use Rattle.std.proofs.Common.{◌<◌, ◌∙◌, ap, length, refl, arith}
use Rattle.std.proofs.lemmas.Bool.{cases_eq}
use Rattle.std.proofs.lemmas.List.{length-map}
use Rattle.atlas_store.specs.Slots.{nodes}
use Rattle.atlas_search.specs.Numbers.{no_slot}
use Rattle.atlas_store.proofs.SlotLemmas.Extensions.{appended-by, keeps-appended, Stands-appended, last-inside}
use Rattle.atlas_store.proofs.slots.extending.append_leaf.Goals as goal

pub read_node-leaf-requires : goal.read_node-leaf-requires
read_node-leaf-requires c = last-inside c.args.slots.now _ _ c.requires.ready

pub write_node-requires : goal.write_node-requires
write_node-requires c = last-inside c.args.slots.now _ _ c.requires.ready

pub returns : goal.returns
returns c =
    let ns = nodes c.args.slots.now in
    let short : length ns < no_slot = simp length-map c.requires.short in
    let there : c.args.fresh.number < length ns = simp length-map c.requires.inside in
    let leaf = c.read_node-leaf.result in
    let w = appended-by ns _ (nodes c.write_node-2.new.slots) c.args.last c.args.fresh c.args.size leaf c.read_node-unused.result _ _
    short there c.requires.ready c.read_node-leaf.ensures c.read_node-unused.ensures refl (rw c.beyond.ensures refl)
    c.write_node.ensures.written c.write_node-2.ensures.written in
    record {
      tree = Stands-appended _ _ _ _ _ c.requires.exact w;
      free = ap (λ n. n.kind) w.strip;
      others = keeps-appended _ _ _ _ _ w;
      generations = λ j. grind (arith, cases_eq j c.args.fresh.number, keeps-appended _ _ _ _ _ w j, w.strip);
      same_rings = c.write_node-2.ensures.same_rings ∙ c.write_node.ensures.same_rings;
    }
