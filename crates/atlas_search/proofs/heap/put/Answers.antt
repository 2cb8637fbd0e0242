use Rattle.std.proofs.Common.{ap, sym, ◌∙◌, map, set, arith}
use Rattle.std.proofs.lemmas.List.{get_or-map, length-map, map-set}
use Rattle.std.proofs.Math.Seq.{map-set_same}
use Rattle.atlas_search.specs.Items.{Item, forked, linked, no_item}
use Rattle.atlas_search.proofs.HeapLemmas.Joining.{put-by}
use Rattle.atlas_search.proofs.heap.put.Goals as goal

pub returns-clause-put : goal.returns-clause-put
returns-clause-put g c =
    let item = g.E.Entry.item in
    let xs = c.args.entries.now in
    put-by (map item xs) (map item (set xs c.args.at.number c.set_fork.new.self)) c.args.at.number c.args.up.number c.args.left.number
    c.args.right.number c.args.is_fork
    (omega (arith, c.requires, length-map xs item))
    (map-set item xs c.args.at.number c.set_fork.new.self
    ∙ ap (set (map item xs) c.args.at.number)
    (c.set_fork.ensures.fork
    ∙ ap (λ (e : Item). forked e c.args.is_fork)
    (c.set_links.ensures.links
    ∙ ap (λ (e : Item). linked e c.args.up.number c.args.left.number c.args.right.number)
    (sym (get_or-map item xs c.args.at.number c.index-entries-at.result no_item c.requires)))))

pub returns-clause-bare : goal.returns-clause-bare
returns-clause-bare g c =
    map-set_same g.E.Linked.bare c.args.entries.now c.args.at.number c.set_fork.new.self c.index-entries-at.result
    (c.set_fork.ensures.bare ∙ c.set_links.ensures.bare)
