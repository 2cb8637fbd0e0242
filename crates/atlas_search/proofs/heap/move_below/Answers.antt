use Rattle.std.proofs.Common.{map, sym, subst, arith}
use Rattle.std.proofs.lemmas.List.{length-map}
use Rattle.atlas_search.specs.Heaps.{Heap, IsHeap}
use Rattle.atlas_search.specs.Items.{item_at}
use Rattle.atlas_search.proofs.HeapLemmas.Hanging.{heap-reup}
use Rattle.atlas_search.proofs.HeapLemmas.Melding.{linked-by}
use Rattle.atlas_search.proofs.SearchLemmas.Heaps.{none-of}
use Rattle.atlas_search.proofs.heap.move_below.Goals as goal

pub returns-then-at-ne-NO_SLOT-clause-moved : goal.returns-then-at-ne-NO_SLOT-clause-moved
returns-then-at-ne-NO_SLOT-clause-moved g c = λ under h heap once.
    let es = map g.E.Entry.item c.args.entries.now in
    let fs = map g.E.Entry.item c.set_up.new.entries in
    let at = c.args.at.number in
    let long = length-map c.args.entries.now g.E.Entry.item in
    let is = linked-by es fs at c.args.up.number (item_at es at).left (item_at es at).right
    (omega (arith, c.requires.inside c.if-at-ne-NO_SLOT.true, long)) c.set_up.ensures.links in
    heap-reup es fs under c.args.up.number at h (omega (arith, c.requires.short, long)) is.long c.if-at-ne-NO_SLOT.true heap once is.here
    (λ k l ne. is.others k ne)

pub returns-else-at-ne-NO_SLOT-clause-moved : goal.returns-else-at-ne-NO_SLOT-clause-moved
returns-else-at-ne-NO_SLOT-clause-moved g c = λ under h heap once.
    let es = map g.E.Entry.item c.args.entries.now in
    let none = none-of es under c.args.at.number h (omega (arith, c.requires.short, length-map c.args.entries.now g.E.Entry.item)) heap
    c.if-at-ne-NO_SLOT.false in
    subst (λ (k : Heap). IsHeap es c.args.up.number c.args.at.number k) (sym none) c.if-at-ne-NO_SLOT.false
