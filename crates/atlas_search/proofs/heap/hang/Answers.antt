use Rattle.std.proofs.Common.{◌<◌, refl, ap, sym, ◌∙◌, subst, map, arith}
use Rattle.std.proofs.lemmas.List.{length-map}
use Rattle.atlas_search.specs.Ranks.{corner_of}
use Rattle.atlas_model.specs.Boxes.{Box}
use Rattle.atlas_search.specs.Items.{item_at, item_box}
use Rattle.atlas_search.proofs.SearchLemmas.Heaps.{corner-first}
use Rattle.atlas_search.proofs.HeapLemmas.Hanging.{above-inside, apart, areas-then, boxes-same, hanging-begins, hung-areas, other-in}
use Rattle.atlas_search.proofs.HeapLemmas.Hanging.{other-solid, rest-inside}
use Rattle.atlas_search.proofs.HeapLemmas.Turns.{turn-ends, turn-falls-passing, turn-falls-taking, turn-inside, turn-passes, turn-solid}
use Rattle.atlas_search.proofs.HeapLemmas.Turns.{turn-swaps, turn-takes}
use Rattle.atlas_search.proofs.heap.hang.Goals as goal

pub corner_at-rest_corner-requires-clause-inside : goal.corner_at-rest_corner-requires-clause-inside
corner_at-rest_corner-requires-clause-inside g c =
    let es = map g.E.Entry.item c.args.entries.now in
    let r = c.requires in
    omega (arith, other-in es r.0 c.args.top.number r.2 c.args.part.number r.1 r.3 r.4, length-map c.args.entries.now g.E.Entry.item)

pub corner_at-rest_corner-requires-clause-unsigned : goal.corner_at-rest_corner-requires-clause-unsigned
corner_at-rest_corner-requires-clause-unsigned g c =
    let es = map g.E.Entry.item c.args.entries.now in
    let r = c.requires in
    (other-solid es r.0 c.args.top.number r.2 c.args.part.number r.1 r.3 r.4).unsigned

pub loop-next-init : goal.loop-next-init
loop-next-init g c =
    let es = map g.E.Entry.item c.args.entries.now in
    record {
      hanging = λ up a under b is first. hanging-begins es up c.args.top.number under c.args.part.number a b is first;
      corner = c.corner_at-rest_corner.ensures.corner;
      narrow = c.corner_at-rest_corner.ensures.narrow;
      areas = record { long = refl; areas = λ k. refl; frees = λ k. refl; forks = λ k. refl };
      bare = refl;
    }

pub links_at-requires : goal.links_at-requires
links_at-requires g c =
    let l = c.loop-next in
    let r = c.requires in
    let es = map g.E.Entry.item c.args.entries.now in
    let fs = map g.E.Entry.item l.entries in
    let s = l.invariant.hanging r.0 r.1 r.2 r.3 r.4 r.5 in
    omega (
      arith,
      above-inside es fs fs r.0 c.args.top.number r.1 r.3 l.above.number l.rest.number r.4.short r.4.once s,
      length-map l.entries g.E.Entry.item,
    )

pub hang_left-requires-clause-less : goal.hang_left-requires-clause-less
hang_left-requires-clause-less g c =
    let l = c.loop-next in
    let r = c.requires in
    let es = map g.E.Entry.item c.args.entries.now in
    let fs = map g.E.Entry.item l.entries in
    let s = l.invariant.hanging r.0 r.1 r.2 r.3 r.4 r.5 in
    omega (
      arith,
      rest-inside es fs fs r.0 c.args.top.number r.1 r.3 l.above.number l.rest.number r.4.short r.4.once s,
      length-map l.entries g.E.Entry.item,
    )

pub hang_left-requires-clause-apart : goal.hang_left-requires-clause-apart
hang_left-requires-clause-apart g c =
    let l = c.loop-next in
    let r = c.requires in
    let es = map g.E.Entry.item c.args.entries.now in
    let fs = map g.E.Entry.item l.entries in
    let s = l.invariant.hanging r.0 r.1 r.2 r.3 r.4 r.5 in
    apart es fs fs r.0 c.args.top.number r.1 r.3 l.above.number l.rest.number r.4.short r.4.once s

pub returns-then-next-clause-hung : goal.returns-then-next-clause-hung
returns-then-next-clause-hung g c up a under b is first =
    let l = c.loop-next in
    let es = map g.E.Entry.item c.args.entries.now in
    let fs = map g.E.Entry.item l.entries in
    let gs = map g.E.Entry.item c.hang_left.new.entries in
    turn-ends es fs gs up c.args.top.number under c.args.part.number a b l.above.number l.rest.number c.links_at.result.right.number is
    (l.invariant.hanging up a under b is first) c.links_at.ensures.right c.if-next.true c.hang_left.ensures.hung

pub returns-then-next-clause-areas : goal.returns-then-next-clause-areas
returns-then-next-clause-areas g c =
    let l = c.loop-next in
    let es = map g.E.Entry.item c.args.entries.now in
    let fs = map g.E.Entry.item l.entries in
    let gs = map g.E.Entry.item c.hang_left.new.entries in
    areas-then es fs gs l.invariant.areas (hung-areas fs gs l.above.number l.rest.number c.hang_left.ensures.hung)

pub corner_at-next_corner-requires-clause-inside : goal.corner_at-next_corner-requires-clause-inside
corner_at-next_corner-requires-clause-inside g c =
    let l = c.loop-next in
    let r = c.requires in
    let es = map g.E.Entry.item c.args.entries.now in
    let fs = map g.E.Entry.item l.entries in
    let s = l.invariant.hanging r.0 r.1 r.2 r.3 r.4 r.5 in
    omega (
      arith,
      turn-inside es fs fs r.0 c.args.top.number r.2 c.args.part.number r.1 r.3 l.above.number l.rest.number
          c.links_at.result.right.number r.4 s c.links_at.ensures.right c.if-next.false,
      length-map l.entries g.E.Entry.item,
    )

pub corner_at-next_corner-requires-clause-unsigned : goal.corner_at-next_corner-requires-clause-unsigned
corner_at-next_corner-requires-clause-unsigned g c =
    let l = c.loop-next in
    let r = c.requires in
    let es = map g.E.Entry.item c.args.entries.now in
    let fs = map g.E.Entry.item l.entries in
    let s = l.invariant.hanging r.0 r.1 r.2 r.3 r.4 r.5 in
    (turn-solid es fs fs r.0 c.args.top.number r.2 c.args.part.number r.1 r.3 l.above.number l.rest.number c.links_at.result.right.number
    r.4 s c.links_at.ensures.right c.if-next.false).unsigned

pub hang_left-requires-then-rest_corner-next_corner-clause-above : goal.hang_left-requires-then-rest_corner-next_corner-clause-above
hang_left-requires-then-rest_corner-next_corner-clause-above g c =
    let l = c.loop-next in
    let r = c.requires in
    let es = map g.E.Entry.item c.args.entries.now in
    let fs = map g.E.Entry.item l.entries in
    let s = l.invariant.hanging r.0 r.1 r.2 r.3 r.4 r.5 in
    omega (
      arith,
      above-inside es fs fs r.0 c.args.top.number r.1 r.3 l.above.number l.rest.number r.4.short r.4.once s,
      length-map l.entries g.E.Entry.item,
    )

pub hang_left-requires-then-rest_corner-next_corner-clause-less : goal.hang_left-requires-then-rest_corner-next_corner-clause-less
hang_left-requires-then-rest_corner-next_corner-clause-less g c =
    let l = c.loop-next in
    let r = c.requires in
    let es = map g.E.Entry.item c.args.entries.now in
    let fs = map g.E.Entry.item l.entries in
    let s = l.invariant.hanging r.0 r.1 r.2 r.3 r.4 r.5 in
    omega (
      arith,
      rest-inside es fs fs r.0 c.args.top.number r.1 r.3 l.above.number l.rest.number r.4.short r.4.once s,
      length-map l.entries g.E.Entry.item,
    )

pub hang_left-requires-then-rest_corner-next_corner-clause-apart : goal.hang_left-requires-then-rest_corner-next_corner-clause-apart
hang_left-requires-then-rest_corner-next_corner-clause-apart g c =
    let l = c.loop-next in
    let r = c.requires in
    let es = map g.E.Entry.item c.args.entries.now in
    let fs = map g.E.Entry.item l.entries in
    let s = l.invariant.hanging r.0 r.1 r.2 r.3 r.4 r.5 in
    apart es fs fs r.0 c.args.top.number r.1 r.3 l.above.number l.rest.number r.4.short r.4.once s

pub swap_below-requires : goal.swap_below-requires
swap_below-requires g c =
    let l = c.loop-next in
    let r = c.requires in
    let es = map g.E.Entry.item c.args.entries.now in
    let fs = map g.E.Entry.item l.entries in
    let s = l.invariant.hanging r.0 r.1 r.2 r.3 r.4 r.5 in
    omega (
      arith,
      above-inside es fs fs r.0 c.args.top.number r.1 r.3 l.above.number l.rest.number r.4.short r.4.once s,
      length-map l.entries g.E.Entry.item,
    )

pub loop-next-smaller-then-rest_corner-next_corner : goal.loop-next-smaller-then-rest_corner-next_corner
loop-next-smaller-then-rest_corner-next_corner g c =
    let l = c.loop-next in
    let r = c.requires in
    let es = map g.E.Entry.item c.args.entries.now in
    let fs = map g.E.Entry.item l.entries in
    let s = l.invariant.hanging r.0 r.1 r.2 r.3 r.4 r.5 in
    turn-falls-taking es fs (map g.E.Entry.item c.hang_left-then-rest_corner-next_corner.new.entries) r.0 c.args.top.number r.2
    c.args.part.number r.1 r.3 l.above.number l.rest.number c.links_at.result.right.number r.4 s c.links_at.ensures.right
    c.if-next.false c.hang_left-then-rest_corner-next_corner.ensures.hung

pub loop-next-preserved-then-rest_corner-next_corner : goal.loop-next-preserved-then-rest_corner-next_corner
loop-next-preserved-then-rest_corner-next_corner g c =
    let l = c.loop-next in
    let es = map g.E.Entry.item c.args.entries.now in
    let fs = map g.E.Entry.item l.entries in
    let gs = map g.E.Entry.item c.hang_left-then-rest_corner-next_corner.new.entries in
    let is = c.hang_left-then-rest_corner-next_corner.ensures.hung in
    let boxes = boxes-same fs gs (hung-areas fs gs l.above.number l.rest.number is) in
    let order = corner-first (item_box (item_at fs l.rest.number)) (item_box (item_at fs c.links_at.result.right.number)) l.invariant.narrow
    c.corner_at-next_corner.ensures.narrow (omega (
      arith,
      l.invariant.corner,
      c.corner_at-next_corner.ensures.corner,
      c.if-rest_corner-next_corner.true,
    )) in
    record {
      hanging = λ up a under b apart first.
          turn-takes es fs gs up c.args.top.number under c.args.part.number a b l.above.number l.rest.number c.links_at.result.right.number
          apart
          (l.invariant.hanging up a under b apart first) c.links_at.ensures.right c.if-next.false order is;
      corner = c.corner_at-next_corner.ensures.corner ∙ ap corner_of (sym (boxes c.links_at.result.right.number));
      narrow = subst (λ (b : Box). b.min.x < 4294967296) (sym (boxes c.links_at.result.right.number))
          c.corner_at-next_corner.ensures.narrow;
      areas = areas-then es fs gs l.invariant.areas (hung-areas fs gs l.above.number l.rest.number is);
      bare = c.hang_left-then-rest_corner-next_corner.ensures.bare ∙ l.invariant.bare;
    }

pub loop-next-smaller : goal.loop-next-smaller
loop-next-smaller g c =
    let l = c.loop-next in
    let r = c.requires in
    let es = map g.E.Entry.item c.args.entries.now in
    let fs = map g.E.Entry.item l.entries in
    let s = l.invariant.hanging r.0 r.1 r.2 r.3 r.4 r.5 in
    turn-falls-passing es fs (map g.E.Entry.item c.swap_below.new.entries) r.0 c.args.top.number r.2 c.args.part.number r.1 r.3
    l.above.number l.rest.number c.links_at.result.right.number r.4 s c.links_at.ensures.right c.if-next.false
    (turn-swaps es fs (map g.E.Entry.item c.swap_below.new.entries) r.0 c.args.top.number r.2 c.args.part.number r.1 r.3 l.above.number
    l.rest.number c.links_at.result.right.number r.4 s c.links_at.ensures.right c.if-next.false c.swap_below.ensures.swapped)

pub loop-next-preserved : goal.loop-next-preserved
loop-next-preserved g c =
    let l = c.loop-next in
    let es = map g.E.Entry.item c.args.entries.now in
    let fs = map g.E.Entry.item l.entries in
    let gs = map g.E.Entry.item c.swap_below.new.entries in
    let r = c.requires in
    let s = l.invariant.hanging r.0 r.1 r.2 r.3 r.4 r.5 in
    let is = turn-swaps es fs gs r.0 c.args.top.number r.2 c.args.part.number r.1 r.3 l.above.number l.rest.number
    c.links_at.result.right.number r.4 s c.links_at.ensures.right c.if-next.false c.swap_below.ensures.swapped in
    let boxes = boxes-same fs gs (hung-areas fs gs l.above.number c.links_at.result.right.number is) in
    let order = corner-first (item_box (item_at fs c.links_at.result.right.number)) (item_box (item_at fs l.rest.number))
    c.corner_at-next_corner.ensures.narrow l.invariant.narrow (omega
    (arith, l.invariant.corner, c.corner_at-next_corner.ensures.corner, c.if-rest_corner-next_corner.false)) in
    record {
      hanging = λ up a under b apart first.
          turn-passes es fs gs up c.args.top.number under c.args.part.number a b l.above.number l.rest.number c.links_at.result.right.number
          apart
          (l.invariant.hanging up a under b apart first) c.links_at.ensures.right c.if-next.false order is;
      corner = l.invariant.corner ∙ ap corner_of (sym (boxes l.rest.number));
      narrow = subst (λ (b : Box). b.min.x < 4294967296) (sym (boxes l.rest.number)) l.invariant.narrow;
      areas = areas-then es fs gs l.invariant.areas (hung-areas fs gs l.above.number c.links_at.result.right.number is);
      bare = c.swap_below.ensures.bare ∙ l.invariant.bare;
    }
