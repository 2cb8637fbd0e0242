use Rattle.std.proofs.Common.{map, ap, sym, ◌∙◌, subst, arith}
use Rattle.std.proofs.lemmas.List.{length-map}
use Rattle.atlas_model.specs.Boxes.{Sides}
use Rattle.atlas_search.specs.Forks.{IsIn, half}
use Rattle.atlas_search.specs.Heaps.{IsHeap}
use Rattle.atlas_search.specs.Heaps.Heap.{Top}
use Rattle.atlas_search.specs.Showing.{cell_with}
use Rattle.atlas_search.proofs.HeapLemmas.Alone.{alone}
use Rattle.atlas_search.proofs.HeapLemmas.Melding.{melded-swap}
use Rattle.atlas_search.proofs.HeapLemmas.Sinking.{at-high, at-low, high-areas, high-goes, low-areas, low-goes, order-kept, sink-high}
use Rattle.atlas_search.proofs.HeapLemmas.Sinking.{sink-low, sinks-left, sinks-right, sunk-high, sunk-low}
use Rattle.atlas_search.proofs.HeapLemmas.Sorting.{forked-sorted, sort-inside, sort-solid, sort-splits, sorted-above, sorted-alike}
use Rattle.atlas_search.proofs.HeapLemmas.Sorting.{sorted-alone, sorted-over}
use Rattle.atlas_search.proofs.SearchLemmas.Cells.{breadth, high-less, low-less}
use Rattle.atlas_search.proofs.SearchLemmas.Heaps.{top-of}
use Rattle.atlas_search.proofs.heap.sorting.+sink.Goals as goal

pub returns-then-below-eq-NO_SLOT-clause-sorted : goal.returns-then-below-eq-NO_SLOT-clause-sorted
returns-then-below-eq-NO_SLOT-clause-sorted g t c = λ h can.
    sorted-alone (map g.E.Entry.item c.args.entries.now) (map g.E.Entry.item c.put.new.entries)
    (cell_with c.args.left c.args.right c.args.top c.args.bottom) c.args.below.number c.args.at.number h can c.args.up.number
    c.put.ensures.put c.if-below-eq-NO_SLOT.true

pub is_alike-requires-clause-top : goal.is_alike-requires-clause-top
is_alike-requires-clause-top g t c =
    let es = map g.E.Entry.item c.args.entries.now in
    let q = c.requires in
    let cell = cell_with c.args.left c.args.right c.args.top c.args.bottom in
    let below = c.args.below.number in
    let at = c.args.at.number in
    let some = c.if-below-eq-NO_SLOT.false in
    omega (arith, length-map c.args.entries.now g.E.Entry.item, sort-inside es es cell below at q.sorted.0 q.sorted.1 some)

pub is_alike-requires-clause-top_solid : goal.is_alike-requires-clause-top_solid
is_alike-requires-clause-top_solid g t c =
    let es = map g.E.Entry.item c.args.entries.now in
    let q = c.requires in
    let cell = cell_with c.args.left c.args.right c.args.top c.args.bottom in
    let below = c.args.below.number in
    let at = c.args.at.number in
    let some = c.if-below-eq-NO_SLOT.false in
    sort-solid es es cell below at q.sorted.0 q.sorted.1 some

pub hang-requires : goal.hang-requires
hang-requires g t c =
    let es = map g.E.Entry.item c.args.entries.now in
    let q = c.requires in
    let cell = cell_with c.args.left c.args.right c.args.top c.args.bottom in
    let below = c.args.below.number in
    let at = c.args.at.number in
    let some = c.if-below-eq-NO_SLOT.false in
    let fs = map g.E.Entry.item c.put-then-is_alike.new.entries in
    let is = c.put-then-is_alike.ensures.put in
    let can = q.sorted.1 in (
      c.args.up.number,
      alone at,
      can.under,
      q.sorted.0,
      sorted-over es fs cell below at q.sorted.0 can c.args.up.number is some,
      sorted-above es fs cell below at q.sorted.0 can c.args.up.number is some (q.order some),
    )

pub returns-then-is_alike-clause-sorted : goal.returns-then-is_alike-clause-sorted
returns-then-is_alike-clause-sorted g t c = λ h can.
    let es = map g.E.Entry.item c.args.entries.now in
    let q = c.requires in
    let cell = cell_with c.args.left c.args.right c.args.top c.args.bottom in
    let below = c.args.below.number in
    let at = c.args.at.number in
    let some = c.if-below-eq-NO_SLOT.false in
    let fs = map g.E.Entry.item c.put-then-is_alike.new.entries in
    let gs = map g.E.Entry.item c.hang.new.entries in
    let up = c.args.up.number in
    let is = c.put-then-is_alike.ensures.put in
    let alike = c.is_alike.ensures.yes c.if-is_alike.true in
    sorted-alike es fs cell below at h can up is gs up at some alike.0 alike.1
    (melded-swap fs gs up at (alone at) h
    (c.hang.ensures.hung up (alone at) can.under h (sorted-over es fs cell below at h can up is some)
    (sorted-above es fs cell below at h can up is some (q.order some)))) c.hang.ensures.areas

pub make_fork-requires-clause-split : goal.make_fork-requires-clause-split
make_fork-requires-clause-split g t c =
    let es = map g.E.Entry.item c.args.entries.now in
    let q = c.requires in
    let cell = cell_with c.args.left c.args.right c.args.top c.args.bottom in
    let below = c.args.below.number in
    let at = c.args.at.number in
    let some = c.if-below-eq-NO_SLOT.false in
    sort-splits es es cell below at q.sorted.0 q.sorted.1 some (c.is_alike.ensures.no c.if-is_alike.false)

pub links_at-links-requires : goal.links_at-links-requires
links_at-links-requires g t c =
    let f = c.make_fork.ensures.forked c.args.at.number c.requires.sorted.0 c.requires.sorted.1 in
    omega (arith, length-map c.make_fork.new.entries g.E.Entry.item, f.can.heap.0.1)

pub size_at-requires-clause-inside : goal.size_at-requires-clause-inside
size_at-requires-clause-inside g t c =
    let f = c.make_fork.ensures.forked c.args.at.number c.requires.sorted.0 c.requires.sorted.1 in
    omega (arith, length-map c.make_fork.new.entries g.E.Entry.item, f.can.heap.0.1)

pub size_at-requires-clause-solid : goal.size_at-requires-clause-solid
size_at-requires-clause-solid g t c =
    let es = map g.E.Entry.item c.args.entries.now in
    let q = c.requires in
    let cell = cell_with c.args.left c.args.right c.args.top c.args.bottom in
    let below = c.args.below.number in
    let at = c.args.at.number in
    let some = c.if-below-eq-NO_SLOT.false in
    let ms = map g.E.Entry.item c.make_fork.new.entries in
    let f = c.make_fork.ensures.forked at q.sorted.0 q.sorted.1 in
    sort-solid ms ms cell below at (Top below f.left f.right) f.can some

pub half_of-half-requires-clause-cell : goal.half_of-half-requires-clause-cell
half_of-half-requires-clause-cell g t c = c.requires.sorted.1.cell

pub half_of-half-requires-clause-inside : goal.half_of-half-requires-clause-inside
half_of-half-requires-clause-inside g t c =
    let f = c.make_fork.ensures.forked c.args.at.number c.requires.sorted.0 c.requires.sorted.1 in
    subst (λ (s : Sides). IsIn s (cell_with c.args.left c.args.right c.args.top c.args.bottom)) (sym c.size_at.ensures.sides)
    f.can.routed.0

pub move_below-requires-clause-inside : goal.move_below-requires-clause-inside
move_below-requires-clause-inside g t c = λ more.
    let es = map g.E.Entry.item c.args.entries.now in
    let q = c.requires in
    let cell = cell_with c.args.left c.args.right c.args.top c.args.bottom in
    let below = c.args.below.number in
    let at = c.args.at.number in
    let some = c.if-below-eq-NO_SLOT.false in
    let ms = map g.E.Entry.item c.make_fork.new.entries in
    let f = c.make_fork.ensures.forked at q.sorted.0 q.sorted.1 in
    let y = c.links_at-links.result.right.number in
    omega (
      arith,
      length-map c.put-then-half.new.entries g.E.Entry.item,
      c.put-then-half.ensures.put.long,
      (top-of ms below y f.right (subst (λ n. IsHeap ms below n f.right) (sym c.links_at-links.ensures.right) f.can.heap.2.1) more).inside,
    )

pub sink-requires : goal.sink-requires
sink-requires g t c κs within =
    let es = map g.E.Entry.item c.args.entries.now in
    let q = c.requires in
    let cell = cell_with c.args.left c.args.right c.args.top c.args.bottom in
    let below = c.args.below.number in
    let at = c.args.at.number in
    let some = c.if-below-eq-NO_SLOT.false in
    let ms = map g.E.Entry.item c.make_fork.new.entries in
    let f = c.make_fork.ensures.forked at q.sorted.0 q.sorted.1 in
    let split = sort-splits es es cell below at q.sorted.0 q.sorted.1 some (c.is_alike.ensures.no c.if-is_alike.false) in
    let order = order-kept es ms c.make_fork.ensures.areas at below (q.order some) in
    let into = c.half_of-half in
    let is_low = into.ensures.cell ∙ ap (λ b. half b cell) c.if-half.true in
    let k = c.links_at-links in
    let ps = map g.E.Entry.item c.put-then-half.new.entries in
    let gs = map g.E.Entry.item c.move_below.new.entries in
    let up = c.args.up.number in
    let x = k.result.left.number in
    let y = k.result.right.number in
    let moved = c.move_below.ensures in
    let goes = low-goes ms cell below at f.left f.right f.can f.fork order ps gs up y k.ensures.right c.put-then-half.ensures.put
    moved.moved moved.others moved.kinds into.result.cell x
    (sink-low ms cell below at f.left f.right f.can f.fork order into.result.cell is_low x k.ensures.left
    (subst (λ (s : Sides). IsIn s into.result.cell) c.size_at.ensures.sides into.ensures.inside)) in
    let keeps = low-areas ms cell below at f.left f.right f.can f.fork order ps gs up y k.ensures.right c.put-then-half.ensures.put
    moved.moved moved.others moved.kinds in (
      omega (arith, c.decreases, ap breadth is_low, low-less cell q.sorted.1.cell split),
      (
        within,
        (
          λ more. order-kept ms gs keeps below x (sinks-left ms cell below at f.left f.right f.can f.fork order x k.ensures.left more),
          (_, goes),
        ),
      ),
    )

pub returns-then-half-clause-sorted : goal.returns-then-half-clause-sorted
returns-then-half-clause-sorted g t c = λ h can.
    let es = map g.E.Entry.item c.args.entries.now in
    let q = c.requires in
    let cell = cell_with c.args.left c.args.right c.args.top c.args.bottom in
    let below = c.args.below.number in
    let at = c.args.at.number in
    let some = c.if-below-eq-NO_SLOT.false in
    let ms = map g.E.Entry.item c.make_fork.new.entries in
    let f = c.make_fork.ensures.forked at h can in
    let order = order-kept es ms c.make_fork.ensures.areas at below (q.order some) in
    let into = c.half_of-half in
    let is_low = into.ensures.cell ∙ ap (λ b. half b cell) c.if-half.true in
    let k = c.links_at-links in
    let ps = map g.E.Entry.item c.put-then-half.new.entries in
    let gs = map g.E.Entry.item c.move_below.new.entries in
    let up = c.args.up.number in
    let x = k.result.left.number in
    let y = k.result.right.number in
    let moved = c.move_below.ensures in
    let goes = low-goes ms cell below at f.left f.right f.can f.fork order ps gs up y k.ensures.right c.put-then-half.ensures.put
    moved.moved moved.others moved.kinds into.result.cell x
    (sink-low ms cell below at f.left f.right f.can f.fork order into.result.cell is_low x k.ensures.left
    (subst (λ (s : Sides). IsIn s into.result.cell) c.size_at.ensures.sides into.ensures.inside)) in
    let fs = map g.E.Entry.item c.sink.new.entries in
    forked-sorted es ms fs cell up below at at h f
    (sunk-low ms cell below at f.left f.right f.can f.fork order ps gs up y k.ensures.right c.put-then-half.ensures.put
    moved.moved moved.others moved.kinds fs
    (at-low gs fs cell into.result.cell is_low at below f.left (c.sink.ensures.sorted f.left goes))
    c.sink.ensures.areas)

pub move_below-requires-else-half-clause-inside : goal.move_below-requires-else-half-clause-inside
move_below-requires-else-half-clause-inside g t c = λ more.
    let es = map g.E.Entry.item c.args.entries.now in
    let q = c.requires in
    let cell = cell_with c.args.left c.args.right c.args.top c.args.bottom in
    let below = c.args.below.number in
    let at = c.args.at.number in
    let some = c.if-below-eq-NO_SLOT.false in
    let ms = map g.E.Entry.item c.make_fork.new.entries in
    let f = c.make_fork.ensures.forked at q.sorted.0 q.sorted.1 in
    let y = c.links_at-links.result.left.number in
    omega (
      arith,
      length-map c.put-else-half.new.entries g.E.Entry.item,
      c.put-else-half.ensures.put.long,
      (top-of ms below y f.left (subst (λ n. IsHeap ms below n f.left) (sym c.links_at-links.ensures.left) f.can.heap.2.0) more).inside,
    )

pub sink-requires-else-half : goal.sink-requires-else-half
sink-requires-else-half g t c κs within =
    let es = map g.E.Entry.item c.args.entries.now in
    let q = c.requires in
    let cell = cell_with c.args.left c.args.right c.args.top c.args.bottom in
    let below = c.args.below.number in
    let at = c.args.at.number in
    let some = c.if-below-eq-NO_SLOT.false in
    let ms = map g.E.Entry.item c.make_fork.new.entries in
    let f = c.make_fork.ensures.forked at q.sorted.0 q.sorted.1 in
    let split = sort-splits es es cell below at q.sorted.0 q.sorted.1 some (c.is_alike.ensures.no c.if-is_alike.false) in
    let order = order-kept es ms c.make_fork.ensures.areas at below (q.order some) in
    let into = c.half_of-half in
    let is_high = into.ensures.cell ∙ ap (λ b. half b cell) c.if-half.false in
    let k = c.links_at-links in
    let ps = map g.E.Entry.item c.put-else-half.new.entries in
    let gs = map g.E.Entry.item c.move_below-else-half.new.entries in
    let up = c.args.up.number in
    let x = k.result.right.number in
    let y = k.result.left.number in
    let moved = c.move_below-else-half.ensures in
    let goes = high-goes ms cell below at f.left f.right f.can f.fork order ps gs up y k.ensures.left c.put-else-half.ensures.put
    moved.moved moved.others moved.kinds into.result.cell x
    (sink-high ms cell below at f.left f.right f.can f.fork order into.result.cell is_high x k.ensures.right
    (subst (λ (s : Sides). IsIn s into.result.cell) c.size_at.ensures.sides into.ensures.inside)) in
    let keeps = high-areas ms cell below at f.left f.right f.can f.fork order ps gs up y k.ensures.left c.put-else-half.ensures.put
    moved.moved moved.others moved.kinds in (
      omega (arith, c.decreases, ap breadth is_high, high-less cell q.sorted.1.cell split),
      (
        within,
        (
          λ more. order-kept ms gs keeps below x (sinks-right ms cell below at f.left f.right f.can f.fork order x k.ensures.right more),
          (_, goes),
        ),
      ),
    )

pub returns-else-half-clause-sorted : goal.returns-else-half-clause-sorted
returns-else-half-clause-sorted g t c = λ h can.
    let es = map g.E.Entry.item c.args.entries.now in
    let q = c.requires in
    let cell = cell_with c.args.left c.args.right c.args.top c.args.bottom in
    let below = c.args.below.number in
    let at = c.args.at.number in
    let some = c.if-below-eq-NO_SLOT.false in
    let ms = map g.E.Entry.item c.make_fork.new.entries in
    let f = c.make_fork.ensures.forked at h can in
    let order = order-kept es ms c.make_fork.ensures.areas at below (q.order some) in
    let into = c.half_of-half in
    let is_high = into.ensures.cell ∙ ap (λ b. half b cell) c.if-half.false in
    let k = c.links_at-links in
    let ps = map g.E.Entry.item c.put-else-half.new.entries in
    let gs = map g.E.Entry.item c.move_below-else-half.new.entries in
    let up = c.args.up.number in
    let x = k.result.right.number in
    let y = k.result.left.number in
    let moved = c.move_below-else-half.ensures in
    let goes = high-goes ms cell below at f.left f.right f.can f.fork order ps gs up y k.ensures.left c.put-else-half.ensures.put
    moved.moved moved.others moved.kinds into.result.cell x
    (sink-high ms cell below at f.left f.right f.can f.fork order into.result.cell is_high x k.ensures.right
    (subst (λ (s : Sides). IsIn s into.result.cell) c.size_at.ensures.sides into.ensures.inside)) in
    let fs = map g.E.Entry.item c.sink-else-half.new.entries in
    forked-sorted es ms fs cell up below at at h f
    (sunk-high ms cell below at f.left f.right f.can f.fork order ps gs up y k.ensures.left c.put-else-half.ensures.put
    moved.moved moved.others moved.kinds fs
    (at-high gs fs cell into.result.cell is_high at below f.right (c.sink-else-half.ensures.sorted f.right goes))
    c.sink-else-half.ensures.areas)
