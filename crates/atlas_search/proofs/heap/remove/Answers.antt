use Rattle.std.proofs.Common.{◌<◌, refl, map, length, inl, inr, sym, subst, ◌∙◌, arith}
use Rattle.std.proofs.lemmas.List.{length-map}
use Rattle.atlas_search.specs.HeapCalls.{ArePartsBelow, HasLeft}
use Rattle.atlas_search.specs.Heaps.{Heap}
use Rattle.atlas_search.specs.Items.{item_at}
use Rattle.atlas_search.proofs.HeapLemmas.Melding.{linked-as, linked-by}
use Rattle.atlas_search.proofs.HeapLemmas.Removing.{entry-removed, some-parts, top-only, top-removed, top-tagged}
use Rattle.atlas_search.proofs.heap.remove.Goals as goal

pub leave-rest-requires : goal.leave-rest-requires
leave-rest-requires g c =
    let r = c.requires in
    some-parts (map g.E.Entry.item c.args.entries.now) r.0 r.1 c.args.at.number r.2 r.3

pub returns-then-up-entries-clause-removed : goal.returns-then-up-entries-clause-removed
returns-then-up-entries-clause-removed g c tag top h can =
    let es = map g.E.Entry.item c.args.entries.now in
    let fs = map g.E.Entry.item c.leave-rest.new.entries in
    let outside = top-only es tag top c.args.at.number h can
    (omega (
      arith,
      c.if-up-entries.true,
      c.links_at.ensures.up,
      c.leave-rest.ensures.areas.long,
      length-map c.args.entries.now g.E.Entry.item,
      length-map c.leave-rest.new.entries g.E.Entry.item,
    )) in
    top-removed es fs tag top c.leave-rest.result.number c.args.at.number h can outside
    (subst (λ n. (l r : Heap) → ArePartsBelow es c.args.at.number l r → HasLeft es fs n c.leave-rest.result.number c.args.at.number l r)
    c.links_at.ensures.up c.leave-rest.ensures.left)

pub returns-then-links-at-clause-removed : goal.returns-then-links-at-clause-removed
returns-then-links-at-clause-removed g c tag top h can =
    let es = map g.E.Entry.item c.args.entries.now in
    let fs = map g.E.Entry.item c.leave-rest.new.entries in
    let gs = map g.E.Entry.item c.relink.new.entries in
    let up = c.links_at.result.up.number in
    let rest = c.leave-rest.result.number in
    let k = c.links_at-links in
    let inside : up < length fs = omega (arith, c.if-up-entries.false, length-map c.leave-rest.new.entries g.E.Entry.item) in
    let within = top-tagged es tag top c.args.at.number h can
    (omega (arith, inside, c.links_at.ensures.up, c.leave-rest.ensures.areas.long)) in
    let is = linked-by fs gs up k.result.up.number rest k.result.right.number inside c.relink.ensures.links in
    entry-removed es fs gs tag top rest c.args.at.number h can within (subst
    (λ n. (l r : Heap) → ArePartsBelow es c.args.at.number l r → HasLeft es fs n c.leave-rest.result.number c.args.at.number l r)
    c.links_at.ensures.up c.leave-rest.ensures.left) c.leave-rest.ensures.areas
    up c.links_at.ensures.up
    (inl (
      sym k.ensures.left ∙ c.if-links-at.true,
      linked-as fs gs up k.result.up.number rest k.result.right.number (item_at fs up).up rest (item_at fs up).right
          k.ensures.up refl k.ensures.right is,
    ))

pub returns-else-links-at-clause-removed : goal.returns-else-links-at-clause-removed
returns-else-links-at-clause-removed g c tag top h can =
    let es = map g.E.Entry.item c.args.entries.now in
    let fs = map g.E.Entry.item c.leave-rest.new.entries in
    let gs = map g.E.Entry.item c.relink-else-links-at.new.entries in
    let up = c.links_at.result.up.number in
    let rest = c.leave-rest.result.number in
    let k = c.links_at-links in
    let inside : up < length fs = omega (arith, c.if-up-entries.false, length-map c.leave-rest.new.entries g.E.Entry.item) in
    let within = top-tagged es tag top c.args.at.number h can
    (omega (arith, inside, c.links_at.ensures.up, c.leave-rest.ensures.areas.long)) in
    let is = linked-by fs gs up k.result.up.number k.result.left.number rest inside c.relink-else-links-at.ensures.links in
    entry-removed es fs gs tag top rest c.args.at.number h can within (subst
    (λ n. (l r : Heap) → ArePartsBelow es c.args.at.number l r → HasLeft es fs n c.leave-rest.result.number c.args.at.number l r)
    c.links_at.ensures.up c.leave-rest.ensures.left) c.leave-rest.ensures.areas
    up c.links_at.ensures.up
    (inr (
      λ e. c.if-links-at.false (k.ensures.left ∙ e),
      linked-as fs gs up k.result.up.number k.result.left.number rest (item_at fs up).up (item_at fs up).left rest
          k.ensures.up k.ensures.left refl is,
    ))
