use Rattle.std.proofs.Common.{map, arith}
use Rattle.std.proofs.lemmas.List.{length-map}
use Rattle.atlas_search.specs.Items.{item_at}
use Rattle.atlas_search.proofs.HeapLemmas.Melding.{linked-as, linked-by}
use Rattle.atlas_search.proofs.heap.swap_below.Goals as goal

pub returns-clause-swapped : goal.returns-clause-swapped
returns-clause-swapped g c =
    let es = map g.E.Entry.item c.args.entries.now in
    let fs = map g.E.Entry.item c.relink.new.entries in
    let at = c.args.above.number in
    let k = c.links_at-links in
    linked-as es fs at k.result.up.number k.result.right.number k.result.left.number (item_at es at).up (item_at es at).right
    (item_at es at).left
    k.ensures.up k.ensures.right k.ensures.left
    (linked-by es fs at k.result.up.number k.result.right.number k.result.left.number
    (omega (arith, c.requires, length-map c.args.entries.now g.E.Entry.item)) c.relink.ensures.links)
