use Rattle.std.proofs.Common.{◌∙◌, map, refl, sym}
use Rattle.atlas_search.proofs.HeapLemmas.Leaving.{leaves-none}
use Rattle.atlas_search.proofs.heap.leaving.leave.Goals as goal

pub returns-then-links-2-clause-left : goal.returns-then-links-2-clause-left
returns-then-links-2-clause-left g c left right a =
    let k = c.links_at-links in
    leaves-none (map g.E.Entry.item c.args.entries.now) c.args.at.number _ _ c.args.up.number 4294967295 left right a.short a.low a.high
    (sym k.ensures.left ∙ c.if-links.true) (sym k.ensures.right ∙ c.if-links-2.true) refl
