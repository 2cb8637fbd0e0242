use Rattle.std.proofs.Common.{ap, sym, ◌∙◌, map, set}
use Rattle.std.proofs.lemmas.List.{get_or-map, map-set}
use Rattle.std.proofs.Math.Seq.{map-set_same}
use Rattle.atlas_search.specs.Items.{Item, linked, no_item}
use Rattle.atlas_search.proofs.heap.relink.Goals as goal

pub returns-clause-links : goal.returns-clause-links
returns-clause-links g c =
    let item = g.E.Entry.item in
    let xs = c.args.entries.now in
    map-set item xs c.args.at.number c.set_links.new.self
    ∙ ap (set (map item xs) c.args.at.number)
    (c.set_links.ensures.links
    ∙ ap (λ (e : Item). linked e c.args.up.number c.args.left.number c.args.right.number)
    (sym (get_or-map item xs c.args.at.number c.index-entries-at.result no_item c.requires)))

pub returns-clause-bare : goal.returns-clause-bare
returns-clause-bare g c =
    map-set_same g.E.Linked.bare c.args.entries.now c.args.at.number c.set_links.new.self c.index-entries-at.result c.set_links.ensures.bare
