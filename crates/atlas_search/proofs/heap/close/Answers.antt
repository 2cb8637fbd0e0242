use Rattle.std.proofs.Common.{map, ap, sym, subst, ◌∙◌, List, arith}
use Rattle.std.proofs.lemmas.List.{length-map}
use Rattle.atlas_search.specs.HeapCalls.{IsMelded}
use Rattle.atlas_search.specs.Items.{Item, item_at}
use Rattle.atlas_search.proofs.HeapLemmas.Melding.{linked-by}
use Rattle.atlas_search.proofs.HeapLemmas.Removing.{closes-both, closes-inside, closes-left, closes-none, closes-right, closes-within}
use Rattle.atlas_search.proofs.heap.close.Goals.{then-links-2, else-links-2}
use Rattle.atlas_search.proofs.heap.close.Goals as goal

pub set_up-requires : goal.set_up-requires
set_up-requires g c =
    let es = map g.E.Entry.item c.args.entries.now in
    let r = c.requires in
    let k = c.links_at-links in
    omega (
      arith,
      length-map c.args.entries.now g.E.Entry.item,
      closes-within es es c.args.at.number c.args.up.number r.0 r.1 r.2 k.result.left.number k.result.right.number
          k.ensures.left k.ensures.right c.if-links-2.true,
    )

pub returns-then-links-clause-melded : goal.returns-then-links-clause-melded
returns-then-links-clause-melded g c l r a =
    let item = g.E.Entry.item in
    let es = map item c.args.entries.now in
    let k = c.links_at-links in
    elim c.if-links-2.branch [
      | then-links-2 w ↦
          let fs = map item c.if-links-2.entries in
          let is = ap (map item) w.entries-is in
          let inside = closes-within es fs c.args.at.number c.args.up.number l r a k.result.left.number k.result.right.number
          k.ensures.left k.ensures.right w.if-links-2.true in
          closes-right es fs c.args.at.number c.args.up.number l r a k.result.left.number k.result.right.number
          k.ensures.left k.ensures.right c.if-links.true w.if-links-2.true
          (linked-by es fs k.result.right.number c.args.up.number (item_at es k.result.right.number).left
          (item_at es k.result.right.number).right inside (is ∙ w.set_up.ensures.links))
      | else-links-2 w ↦
          subst (λ (xs : List Item). IsMelded es xs c.args.up.number k.result.right.number l r)
          (sym (ap (map item) w.entries-is))
          (closes-none es es c.args.at.number c.args.up.number l r a k.result.left.number k.result.right.number
          k.ensures.left k.ensures.right c.if-links.true w.if-links-2.false)
    ]

pub set_up-requires-then-links-3 : goal.set_up-requires-then-links-3
set_up-requires-then-links-3 g c =
    let es = map g.E.Entry.item c.args.entries.now in
    let r = c.requires in
    let k = c.links_at-links in
    omega (
      arith,
      length-map c.args.entries.now g.E.Entry.item,
      closes-inside es es c.args.at.number c.args.up.number r.0 r.1 r.2 k.result.left.number k.result.right.number
          k.ensures.left k.ensures.right c.if-links.false,
    )

pub returns-then-links-3-clause-melded : goal.returns-then-links-3-clause-melded
returns-then-links-3-clause-melded g c l r a =
    let item = g.E.Entry.item in
    let es = map item c.args.entries.now in
    let fs = map item c.set_up-then-links-3.new.entries in
    let k = c.links_at-links in
    let inside = closes-inside es fs c.args.at.number c.args.up.number l r a k.result.left.number k.result.right.number
    k.ensures.left k.ensures.right c.if-links.false in
    closes-left es fs c.args.at.number c.args.up.number l r a k.result.left.number k.result.right.number
    k.ensures.left k.ensures.right c.if-links-3.true c.if-links.false
    (linked-by es fs k.result.left.number c.args.up.number (item_at es k.result.left.number).left
    (item_at es k.result.left.number).right inside c.set_up-then-links-3.ensures.links)

pub meld-requires : goal.meld-requires
meld-requires g c =
    let es = map g.E.Entry.item c.args.entries.now in
    let r = c.requires in
    let k = c.links_at-links in (
      c.args.at.number,
      r.0,
      r.1,
      closes-both es es c.args.at.number c.args.up.number r.0 r.1 r.2 k.result.left.number k.result.right.number
          k.ensures.left k.ensures.right c.if-links.false c.if-links-3.false,
    )

pub returns-clause-melded : goal.returns-clause-melded
returns-clause-melded g c l r a =
    let es = map g.E.Entry.item c.args.entries.now in
    let fs = map g.E.Entry.item c.meld.new.entries in
    let k = c.links_at-links in
    (c.meld.ensures.melded c.args.at.number l r
    (closes-both es fs c.args.at.number c.args.up.number l r a k.result.left.number k.result.right.number
    k.ensures.left k.ensures.right c.if-links.false c.if-links-3.false))
