use Rattle.std.proofs.Common.{◌≡◌, map, ap, refl, sym, ◌∙◌, subst, arith}
use Rattle.std.proofs.lemmas.List.{length-map}
use Rattle.atlas_model.specs.Boxes.{Sides}
use Rattle.atlas_search.specs.Forks.{IsIn}
use Rattle.atlas_search.specs.HeapCalls.{HasSorted}
use Rattle.atlas_search.specs.Heaps.Heap.{Top}
use Rattle.atlas_search.specs.Items.{item_at, item_box}
use Rattle.atlas_search.specs.Showing.{cell_with}
use Rattle.atlas_search.specs.declared.link.Link.{Link}
use Rattle.atlas_search.proofs.HeapLemmas.Alone.{alone}
use Rattle.atlas_search.proofs.HeapLemmas.Hanging.{plain-areas, plain-then}
use Rattle.atlas_search.proofs.HeapLemmas.Melding.{linked-areas, linked-as, linked-by}
use Rattle.atlas_search.proofs.HeapLemmas.Passing.{at-half, from-half, half-up, hung-in-high, hung-in-low, left-in, link_in, pass-half}
use Rattle.atlas_search.proofs.HeapLemmas.Passing.{pass-inside, pass-split, right-in, stayed-half}
use Rattle.atlas_search.proofs.HeapLemmas.Sinking.{order-kept}
use Rattle.atlas_search.proofs.HeapLemmas.Sorting.{forked-sorted, sort-inside, sort-solid, sort-splits, sorted-alike, sorted-alone}
use Rattle.atlas_search.proofs.HeapLemmas.Sorting.{sorted-apart}
use Rattle.atlas_search.proofs.SearchLemmas.Cells.{breadth, half-less}
use Rattle.atlas_search.proofs.SearchLemmas.Heaps.{corner-first}
use Rattle.atlas_search.proofs.heap.sorting.+sort.Goals.{sort_below-then-half, sort_below-else-half}
use Rattle.atlas_search.proofs.heap.sorting.+sort.Goals as goal

pub sort_in-returns-then-top-eq-NO_SLOT-clause-sorted : goal.sort_in-returns-then-top-eq-NO_SLOT-clause-sorted
sort_in-returns-then-top-eq-NO_SLOT-clause-sorted g t c = λ h can.
    sorted-alone (map g.E.Entry.item c.args.entries.now) (map g.E.Entry.item c.put.new.entries) c.args.cell c.args.top.number
    c.args.at.number h can c.args.up.number c.put.ensures.put c.if-top-eq-NO_SLOT.true

pub sort_in-is_alike-requires-clause-top : goal.sort_in-is_alike-requires-clause-top
sort_in-is_alike-requires-clause-top g t c =
    let es = map g.E.Entry.item c.args.entries.now in
    let q = c.requires in
    let cell = c.args.cell in
    let top = c.args.top.number in
    let at = c.args.at.number in
    let some = c.if-top-eq-NO_SLOT.false in
    omega (arith, length-map c.args.entries.now g.E.Entry.item, sort-inside es es cell top at q.sorted.0 q.sorted.1 some)

pub sort_in-is_alike-requires-clause-top_solid : goal.sort_in-is_alike-requires-clause-top_solid
sort_in-is_alike-requires-clause-top_solid g t c =
    let es = map g.E.Entry.item c.args.entries.now in
    let q = c.requires in
    let cell = c.args.cell in
    let top = c.args.top.number in
    let at = c.args.at.number in
    let some = c.if-top-eq-NO_SLOT.false in
    sort-solid es es cell top at q.sorted.0 q.sorted.1 some

pub sort_in-meld-requires : goal.sort_in-meld-requires
sort_in-meld-requires g t c =
    let es = map g.E.Entry.item c.args.entries.now in
    let q = c.requires in
    let cell = c.args.cell in
    let top = c.args.top.number in
    let at = c.args.at.number in
    let some = c.if-top-eq-NO_SLOT.false in
    let fs = map g.E.Entry.item c.put-then-is_alike.new.entries in (
      q.sorted.1.under,
      q.sorted.0,
      alone at,
      sorted-apart es fs cell top at q.sorted.0 q.sorted.1 c.args.up.number c.put-then-is_alike.ensures.put some (sym (q.hangs some)),
    )

pub sort_in-returns-then-is_alike-clause-sorted : goal.sort_in-returns-then-is_alike-clause-sorted
sort_in-returns-then-is_alike-clause-sorted g t c = λ h can.
    let es = map g.E.Entry.item c.args.entries.now in
    let q = c.requires in
    let cell = c.args.cell in
    let top = c.args.top.number in
    let at = c.args.at.number in
    let some = c.if-top-eq-NO_SLOT.false in
    let fs = map g.E.Entry.item c.put-then-is_alike.new.entries in
    let is = c.put-then-is_alike.ensures.put in
    let up = c.args.up.number in
    let alike = c.is_alike.ensures.yes c.if-is_alike.true in
    sorted-alike es fs cell top at h can up is (map g.E.Entry.item c.meld.new.entries) up c.meld.result.number some alike.0 alike.1
    (c.meld.ensures.melded can.under h (alone at) (sorted-apart es fs cell top at h can up is some (sym (q.hangs some))))
    c.meld.ensures.areas

pub sort_in-corner_at-requires-2-clause-inside : goal.sort_in-corner_at-requires-2-clause-inside
sort_in-corner_at-requires-2-clause-inside g t c =
    let es = map g.E.Entry.item c.args.entries.now in
    let q = c.requires in
    let cell = c.args.cell in
    let top = c.args.top.number in
    let at = c.args.at.number in
    let some = c.if-top-eq-NO_SLOT.false in
    omega (arith, length-map c.args.entries.now g.E.Entry.item, sort-inside es es cell top at q.sorted.0 q.sorted.1 some)

pub sort_in-corner_at-requires-2-clause-unsigned : goal.sort_in-corner_at-requires-2-clause-unsigned
sort_in-corner_at-requires-2-clause-unsigned g t c =
    let es = map g.E.Entry.item c.args.entries.now in
    let q = c.requires in
    let cell = c.args.cell in
    let top = c.args.top.number in
    let at = c.args.at.number in
    let some = c.if-top-eq-NO_SLOT.false in
    (sort-solid es es cell top at q.sorted.0 q.sorted.1 some).unsigned

pub sort_in-make_fork-requires-clause-split : goal.sort_in-make_fork-requires-clause-split
sort_in-make_fork-requires-clause-split g t c =
    let es = map g.E.Entry.item c.args.entries.now in
    let q = c.requires in
    let cell = c.args.cell in
    let top = c.args.top.number in
    let at = c.args.at.number in
    let some = c.if-top-eq-NO_SLOT.false in
    sort-splits es es cell top at q.sorted.0 q.sorted.1 some (c.is_alike.ensures.no c.if-is_alike.false)

pub sort_in-sort_below-requires : goal.sort_in-sort_below-requires
sort_in-sort_below-requires g t c κs within =
    let es = map g.E.Entry.item c.args.entries.now in
    let q = c.requires in
    let cell = c.args.cell in
    let top = c.args.top.number in
    let at = c.args.at.number in
    let some = c.if-top-eq-NO_SLOT.false in
    let ms = map g.E.Entry.item c.make_fork.new.entries in
    let f = c.make_fork.ensures.forked at q.sorted.0 q.sorted.1 in
    let first = corner-first (item_box (item_at es top)) (item_box (item_at es at)) c.corner_at-2.ensures.narrow c.corner_at.ensures.narrow
    (omega (arith, c.corner_at.ensures.corner, c.corner_at-2.ensures.corner, c.if-corner_at.false)) in (
      omega (arith, c.decreases),
      (
        within,
        (some, (f.fork, (order-kept es ms c.make_fork.ensures.areas top at first, (Top top f.left f.right, f.can)))),
      ),
    )

pub sort_in-returns-clause-sorted : goal.sort_in-returns-clause-sorted
sort_in-returns-clause-sorted g t c = λ h can.
    let es = map g.E.Entry.item c.args.entries.now in
    let q = c.requires in
    let cell = c.args.cell in
    let top = c.args.top.number in
    let at = c.args.at.number in
    let some = c.if-top-eq-NO_SLOT.false in
    let ms = map g.E.Entry.item c.make_fork.new.entries in
    let fs = map g.E.Entry.item c.sort_below.new.entries in
    let f = c.make_fork.ensures.forked at h can in
    forked-sorted es ms fs cell c.args.up.number top top at h f
    (subst (λ n. HasSorted ms fs cell n top at (Top top f.left f.right)) (f.up ∙ q.hangs some)
    (c.sort_below.ensures.sorted (Top top f.left f.right) f.can))

pub sort_below-half_of-half-requires-clause-cell : goal.sort_below-half_of-half-requires-clause-cell
sort_below-half_of-half-requires-clause-cell g t c = c.requires.sorted.1.cell

pub sort_below-half_of-half-requires-clause-inside : goal.sort_below-half_of-half-requires-clause-inside
sort_below-half_of-half-requires-clause-inside g t c =
    subst (λ (s : Sides). IsIn s (cell_with c.args.left c.args.right c.args.top c.args.bottom)) (sym c.size_at.ensures.sides)
    c.requires.sorted.1.within

pub sort_below-is_fork_before-requires-clause-top : goal.sort_below-is_fork_before-requires-clause-top
sort_below-is_fork_before-requires-clause-top g t c = λ there.
    let es = map g.E.Entry.item c.args.entries.now in
    let q = c.requires in
    let into = c.half_of-half in
    let low = into.result.is_low in
    let k = c.links_at-links in
    let next = c.if-half.next.number in
    let cell = cell_with c.args.left c.args.right c.args.top c.args.bottom in
    let above = c.args.above.number in
    let at = c.args.at.number in
    let link : next ≡ link_in low (item_at es above) = elim c.if-half.branch [
      | sort_below-then-half w ↦ ap (λ (n : Link). n.number) w.next-is ∙ k.ensures.left ∙ left-in (item_at es above) low w.if-half.true
      | sort_below-else-half w ↦ ap (λ (n : Link). n.number) w.next-is ∙ k.ensures.right ∙ right-in (item_at es above) low w.if-half.false
    ] in
    let part = pass-half es cell above at q.sorted.0 q.some q.sorted.1 q.fork q.order low into.result.cell into.ensures.cell next link
    (subst (λ (s : Sides). IsIn s into.result.cell) c.size_at.ensures.sides into.ensures.inside) in
    omega (
      arith,
      length-map c.args.entries.now g.E.Entry.item,
      sort-inside es es into.result.cell next at _ part there,
    )

pub sort_below-is_fork_before-requires-clause-top_solid : goal.sort_below-is_fork_before-requires-clause-top_solid
sort_below-is_fork_before-requires-clause-top_solid g t c = λ there.
    let es = map g.E.Entry.item c.args.entries.now in
    let q = c.requires in
    let into = c.half_of-half in
    let low = into.result.is_low in
    let k = c.links_at-links in
    let next = c.if-half.next.number in
    let cell = cell_with c.args.left c.args.right c.args.top c.args.bottom in
    let above = c.args.above.number in
    let at = c.args.at.number in
    let link : next ≡ link_in low (item_at es above) = elim c.if-half.branch [
      | sort_below-then-half w ↦ ap (λ (n : Link). n.number) w.next-is ∙ k.ensures.left ∙ left-in (item_at es above) low w.if-half.true
      | sort_below-else-half w ↦ ap (λ (n : Link). n.number) w.next-is ∙ k.ensures.right ∙ right-in (item_at es above) low w.if-half.false
    ] in
    let part = pass-half es cell above at q.sorted.0 q.some q.sorted.1 q.fork q.order low into.result.cell into.ensures.cell next link
    (subst (λ (s : Sides). IsIn s into.result.cell) c.size_at.ensures.sides into.ensures.inside) in
    sort-solid es es into.result.cell next at _ part there

pub sort_below-sort_below-requires : goal.sort_below-sort_below-requires
sort_below-sort_below-requires g t c κs within =
    let es = map g.E.Entry.item c.args.entries.now in
    let q = c.requires in
    let into = c.half_of-half in
    let low = into.result.is_low in
    let k = c.links_at-links in
    let next = c.if-half.next.number in
    let cell = cell_with c.args.left c.args.right c.args.top c.args.bottom in
    let above = c.args.above.number in
    let at = c.args.at.number in
    let link : next ≡ link_in low (item_at es above) = elim c.if-half.branch [
      | sort_below-then-half w ↦ ap (λ (n : Link). n.number) w.next-is ∙ k.ensures.left ∙ left-in (item_at es above) low w.if-half.true
      | sort_below-else-half w ↦ ap (λ (n : Link). n.number) w.next-is ∙ k.ensures.right ∙ right-in (item_at es above) low w.if-half.false
    ] in
    let part = pass-half es cell above at q.sorted.0 q.some q.sorted.1 q.fork q.order low into.result.cell into.ensures.cell next link
    (subst (λ (s : Sides). IsIn s into.result.cell) c.size_at.ensures.sides into.ensures.inside) in
    let yes = c.if-is_fork_before.true in
    let is = c.is_fork_before.ensures in
    let split = pass-split es cell above at q.sorted.0 q.some q.sorted.1 q.fork q.order in (
      omega (arith, c.decreases, ap breadth into.ensures.cell, half-less low cell q.sorted.1.cell split),
      (within, (is.some yes, (is.fork yes, (is.order yes, (_, part))))),
    )

pub sort_below-returns-then-is_fork_before-clause-sorted : goal.sort_below-returns-then-is_fork_before-clause-sorted
sort_below-returns-then-is_fork_before-clause-sorted g t c = λ h can.
    let es = map g.E.Entry.item c.args.entries.now in
    let q = c.requires in
    let into = c.half_of-half in
    let low = into.result.is_low in
    let k = c.links_at-links in
    let next = c.if-half.next.number in
    let cell = cell_with c.args.left c.args.right c.args.top c.args.bottom in
    let above = c.args.above.number in
    let at = c.args.at.number in
    let link : next ≡ link_in low (item_at es above) = elim c.if-half.branch [
      | sort_below-then-half w ↦ ap (λ (n : Link). n.number) w.next-is ∙ k.ensures.left ∙ left-in (item_at es above) low w.if-half.true
      | sort_below-else-half w ↦ ap (λ (n : Link). n.number) w.next-is ∙ k.ensures.right ∙ right-in (item_at es above) low w.if-half.false
    ] in
    let part = pass-half es cell above at h q.some can q.fork q.order low into.result.cell into.ensures.cell next link
    (subst (λ (s : Sides). IsIn s into.result.cell) c.size_at.ensures.sides into.ensures.inside) in
    let below = c.sort_below in
    let fs = map g.E.Entry.item below.new.entries in
    stayed-half es cell above at h q.some can q.fork q.order low fs next
    (from-half es cell above at h q.some can q.fork q.order low fs into.result.cell into.ensures.cell next link
    (c.is_fork_before.ensures.some c.if-is_fork_before.true) (below.ensures.sorted _ part)) below.ensures.areas link

pub sort_below-sort_in-side-requires : goal.sort_below-sort_in-side-requires
sort_below-sort_in-side-requires g t c κs within =
    let es = map g.E.Entry.item c.args.entries.now in
    let q = c.requires in
    let into = c.half_of-half in
    let low = into.result.is_low in
    let k = c.links_at-links in
    let next = c.if-half.next.number in
    let cell = cell_with c.args.left c.args.right c.args.top c.args.bottom in
    let above = c.args.above.number in
    let at = c.args.at.number in
    let link : next ≡ link_in low (item_at es above) = elim c.if-half.branch [
      | sort_below-then-half w ↦ ap (λ (n : Link). n.number) w.next-is ∙ k.ensures.left ∙ left-in (item_at es above) low w.if-half.true
      | sort_below-else-half w ↦ ap (λ (n : Link). n.number) w.next-is ∙ k.ensures.right ∙ right-in (item_at es above) low w.if-half.false
    ] in
    let part = pass-half es cell above at q.sorted.0 q.some q.sorted.1 q.fork q.order low into.result.cell into.ensures.cell next link
    (subst (λ (s : Sides). IsIn s into.result.cell) c.size_at.ensures.sides into.ensures.inside) in
    let split = pass-split es cell above at q.sorted.0 q.some q.sorted.1 q.fork q.order in (
      omega (arith, c.decreases, ap breadth into.ensures.cell, half-less low cell q.sorted.1.cell split),
      (
        within,
        (half-up es cell above at q.sorted.0 q.some q.sorted.1 q.fork q.order low next link, (_, part)),
      ),
    )

pub sort_below-returns-then-half-2-clause-sorted : goal.sort_below-returns-then-half-2-clause-sorted
sort_below-returns-then-half-2-clause-sorted g t c = λ h can.
    let es = map g.E.Entry.item c.args.entries.now in
    let q = c.requires in
    let into = c.half_of-half in
    let low = into.result.is_low in
    let k = c.links_at-links in
    let next = c.if-half.next.number in
    let cell = cell_with c.args.left c.args.right c.args.top c.args.bottom in
    let above = c.args.above.number in
    let at = c.args.at.number in
    let link : next ≡ link_in low (item_at es above) = elim c.if-half.branch [
      | sort_below-then-half w ↦ ap (λ (n : Link). n.number) w.next-is ∙ k.ensures.left ∙ left-in (item_at es above) low w.if-half.true
      | sort_below-else-half w ↦ ap (λ (n : Link). n.number) w.next-is ∙ k.ensures.right ∙ right-in (item_at es above) low w.if-half.false
    ] in
    let part = pass-half es cell above at h q.some can q.fork q.order low into.result.cell into.ensures.cell next link
    (subst (λ (s : Sides). IsIn s into.result.cell) c.size_at.ensures.sides into.ensures.inside) in
    let sorts = c.sort_in-side in
    let fs = map g.E.Entry.item sorts.new.entries in
    let hs = map g.E.Entry.item c.relink.new.entries in
    let side = sorts.result.number in
    let there = pass-inside es cell above at q.sorted.0 q.some q.sorted.1 q.fork q.order in
    let linked = linked-by fs hs above k.result.up.number side k.result.right.number (omega (arith, there, sorts.ensures.areas.long))
    c.relink.ensures.links in
    hung-in-low es cell above at h q.some can q.fork q.order low c.if-half-2.true fs side
    (at-half es cell above at h q.some can q.fork q.order low fs into.result.cell into.ensures.cell side (sorts.ensures.sorted _ part)) hs
    sorts.ensures.areas
    (linked-as fs hs above k.result.up.number side k.result.right.number (item_at es above).up side (item_at es above).right
    k.ensures.up refl k.ensures.right linked)

pub sort_below-returns-then-half-2-clause-areas : goal.sort_below-returns-then-half-2-clause-areas
sort_below-returns-then-half-2-clause-areas g t c =
    let es = map g.E.Entry.item c.args.entries.now in
    let q = c.requires in
    let k = c.links_at-links in
    let cell = cell_with c.args.left c.args.right c.args.top c.args.bottom in
    let above = c.args.above.number in
    let at = c.args.at.number in
    let sorts = c.sort_in-side in
    let fs = map g.E.Entry.item sorts.new.entries in
    let hs = map g.E.Entry.item c.relink.new.entries in
    let side = sorts.result.number in
    let there = pass-inside es cell above at q.sorted.0 q.some q.sorted.1 q.fork q.order in
    let linked = linked-by fs hs above k.result.up.number side k.result.right.number (omega (arith, there, sorts.ensures.areas.long))
    c.relink.ensures.links in
    plain-then es fs hs sorts.ensures.areas
    (plain-areas fs hs (linked-areas fs hs above k.result.up.number side k.result.right.number linked))

pub sort_below-returns-else-half-2-clause-sorted : goal.sort_below-returns-else-half-2-clause-sorted
sort_below-returns-else-half-2-clause-sorted g t c = λ h can.
    let es = map g.E.Entry.item c.args.entries.now in
    let q = c.requires in
    let into = c.half_of-half in
    let low = into.result.is_low in
    let k = c.links_at-links in
    let next = c.if-half.next.number in
    let cell = cell_with c.args.left c.args.right c.args.top c.args.bottom in
    let above = c.args.above.number in
    let at = c.args.at.number in
    let link : next ≡ link_in low (item_at es above) = elim c.if-half.branch [
      | sort_below-then-half w ↦ ap (λ (n : Link). n.number) w.next-is ∙ k.ensures.left ∙ left-in (item_at es above) low w.if-half.true
      | sort_below-else-half w ↦ ap (λ (n : Link). n.number) w.next-is ∙ k.ensures.right ∙ right-in (item_at es above) low w.if-half.false
    ] in
    let part = pass-half es cell above at h q.some can q.fork q.order low into.result.cell into.ensures.cell next link
    (subst (λ (s : Sides). IsIn s into.result.cell) c.size_at.ensures.sides into.ensures.inside) in
    let sorts = c.sort_in-side in
    let fs = map g.E.Entry.item sorts.new.entries in
    let hs = map g.E.Entry.item c.relink-else-half-2.new.entries in
    let side = sorts.result.number in
    let there = pass-inside es cell above at q.sorted.0 q.some q.sorted.1 q.fork q.order in
    let linked = linked-by fs hs above k.result.up.number k.result.left.number side (omega (arith, there, sorts.ensures.areas.long))
    c.relink-else-half-2.ensures.links in
    hung-in-high es cell above at h q.some can q.fork q.order low c.if-half-2.false fs side
    (at-half es cell above at h q.some can q.fork q.order low fs into.result.cell into.ensures.cell side (sorts.ensures.sorted _ part)) hs
    sorts.ensures.areas
    (linked-as fs hs above k.result.up.number k.result.left.number side (item_at es above).up (item_at es above).left side
    k.ensures.up k.ensures.left refl linked)

pub sort_below-returns-else-half-2-clause-areas : goal.sort_below-returns-else-half-2-clause-areas
sort_below-returns-else-half-2-clause-areas g t c =
    let es = map g.E.Entry.item c.args.entries.now in
    let q = c.requires in
    let k = c.links_at-links in
    let cell = cell_with c.args.left c.args.right c.args.top c.args.bottom in
    let above = c.args.above.number in
    let at = c.args.at.number in
    let sorts = c.sort_in-side in
    let fs = map g.E.Entry.item sorts.new.entries in
    let hs = map g.E.Entry.item c.relink-else-half-2.new.entries in
    let side = sorts.result.number in
    let there = pass-inside es cell above at q.sorted.0 q.some q.sorted.1 q.fork q.order in
    let linked = linked-by fs hs above k.result.up.number k.result.left.number side (omega (arith, there, sorts.ensures.areas.long))
    c.relink-else-half-2.ensures.links in
    plain-then es fs hs sorts.ensures.areas
    (plain-areas fs hs (linked-areas fs hs above k.result.up.number k.result.left.number side linked))
