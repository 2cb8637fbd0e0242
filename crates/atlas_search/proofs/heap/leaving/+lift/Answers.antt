use Rattle.std.proofs.Common.{true, map, ap, refl, sym, ◌∙◌, subst, inl, inr, arith}
use Rattle.atlas_search.specs.declared.link.Link.{Link}
use Rattle.atlas_search.specs.HeapCalls.{HasLeft}
use Rattle.atlas_search.specs.Items.{item_at}
use Rattle.atlas_search.proofs.HeapLemmas.Hanging.{plain-self}
use Rattle.atlas_search.proofs.HeapLemmas.Joining.{put-areas}
use Rattle.atlas_search.proofs.HeapLemmas.Leaving.{IsNext, falls, first-inside, first-part, first-solid, first-within, heaps-put}
use Rattle.atlas_search.proofs.HeapLemmas.Leaving.{heaps-turned, leaves-none, left-came, lone-left, lone-right, moved-heaps, moved-parts}
use Rattle.atlas_search.proofs.HeapLemmas.Leaving.{next-is, next-none, next-right, right-came, rises-closed, rises-left, rises-lifted}
use Rattle.atlas_search.proofs.HeapLemmas.Leaving.{rises-right}
use Rattle.atlas_search.proofs.HeapLemmas.Melding.{linked-by}
use Rattle.atlas_search.proofs.HeapLemmas.Sinking.{order-kept}
use Rattle.atlas_search.proofs.heap.leaving.+lift.Goals.{else-is_next_left, else-is_next_left-2, then-is_next_left, then-is_next_left-2}
use Rattle.atlas_search.proofs.heap.leaving.+lift.Goals as goal

pub is_fork-requires : goal.is_fork-requires
is_fork-requires g t c =
    let q = c.requires.heaps in
    let xs = c.args.entries.now in
    let z = c.args.left.number in
    let w = c.args.right.number in
    first-within g.E.Entry.item xs xs q.0 z w q.1 q.2 q.3 (c.requires.left c.if-is_left.true).0 refl

pub set_up-requires : goal.set_up-requires
set_up-requires g t c =
    let q = c.requires.heaps in
    let xs = c.args.entries.now in
    let z = c.args.left.number in
    let w = c.args.right.number in
    first-within g.E.Entry.item xs xs q.0 z w q.1 q.2 q.3 (c.requires.left c.if-is_left.true).0 refl

pub returns-then-not-is_fork-clause-lifted : goal.returns-then-not-is_fork-clause-lifted
returns-then-not-is_fork-clause-lifted g t c = λ at left right a.
    let es = map g.E.Entry.item c.args.entries.now in
    let fs = map g.E.Entry.item c.set_up.new.entries in
    let z = c.args.left.number in
    let w = c.args.right.number in
    let up = c.args.up.number in
    let some = (c.requires.left c.if-is_left.true).0 in
    let isn = sym c.is_fork.ensures ∙ c.if-not-is_fork.true in
    left-came es fs c.args.is_left up c.args.left.number c.args.right.number at left right c.if-is_left.true
    (lone-left es at z w left right a some fs up c.if-right-eq-NO_SLOT.true isn
    (linked-by es fs z up (item_at es z).left (item_at es z).right (first-inside es at z w left right a some)
    c.set_up.ensures.links))

pub move_below-requires-clause-inside : goal.move_below-requires-clause-inside
move_below-requires-clause-inside g t c = λ more.
    let q = c.requires.heaps in
    let xs = c.args.entries.now in
    let z = c.args.left.number in
    let w = c.args.right.number in
    let t = heaps-turned (map g.E.Entry.item xs) q.0 z w q.1 q.2 q.3 in
    first-within g.E.Entry.item xs xs q.0 w z q.2 q.1 t more refl

pub is_fork-requires-then-is_left : goal.is_fork-requires-then-is_left
is_fork-requires-then-is_left g t c =
    let q = c.requires.heaps in
    let xs = c.args.entries.now in
    let z = c.args.left.number in
    let w = c.args.right.number in
    first-within g.E.Entry.item xs c.move_below.new.entries q.0 z w q.1 q.2 q.3
    (c.requires.left c.if-is_left.true).0 c.move_below.ensures.kinds.long

pub close-rest-requires : goal.close-rest-requires
close-rest-requires g t c =
    let q = c.requires.heaps in
    let xs = c.args.entries.now in
    let es = map g.E.Entry.item xs in
    let gs = map g.E.Entry.item c.move_below.new.entries in
    let z = c.args.left.number in
    let w = c.args.right.number in
    let some = (c.requires.left c.if-is_left.true).0 in
    let p = first-part es q.0 z w q.1 q.2 q.3 some in
    let m = c.move_below.ensures in
    (p.left, p.right, moved-parts es q.0 z w q.1 q.2 q.3 some gs m.moved m.others m.kinds)

pub put-requires : goal.put-requires
put-requires g t c =
    let q = c.requires.heaps in
    let xs = c.args.entries.now in
    let z = c.args.left.number in
    let w = c.args.right.number in
    let long = c.close-rest.ensures.areas.long ∙ c.move_below.ensures.kinds.long in
    first-within g.E.Entry.item xs c.close-rest.new.entries q.0 z w q.1 q.2 q.3 (c.requires.left c.if-is_left.true).0 long

pub returns-then-not-is_fork-2-clause-lifted : goal.returns-then-not-is_fork-2-clause-lifted
returns-then-not-is_fork-2-clause-lifted g t c = λ at left right a.
    let es = map g.E.Entry.item c.args.entries.now in
    let gs = map g.E.Entry.item c.move_below.new.entries in
    let ms = map g.E.Entry.item c.close-rest.new.entries in
    let hs = map g.E.Entry.item c.put.new.entries in
    let z = c.args.left.number in
    let w = c.args.right.number in
    let up = c.args.up.number in
    let rest = c.close-rest.result.number in
    let first = c.requires.left c.if-is_left.true in
    let m = c.move_below.ensures in
    let p = first-part es at z w left right a first.0 in
    let parts = moved-parts es at z w left right a first.0 gs m.moved m.others m.kinds in
    let isn = sym c.is_fork-then-is_left.ensures ∙ c.if-not-is_fork-2.true in
    left-came es hs c.args.is_left up c.args.left.number c.args.right.number at left right c.if-is_left.true
    (rises-left es at z w left right a first.0 gs m.moved m.others m.kinds hs up rest rest w
    (rises-closed gs ms hs z up rest rest w p.left p.right parts isn (c.close-rest.ensures.melded p.left p.right parts)
    c.close-rest.ensures.areas c.put.ensures.put) first.1 refl refl)

pub is_left_first-is_next_left-requires-clause-left : goal.is_left_first-is_next_left-requires-clause-left
is_left_first-is_next_left-requires-clause-left g t c = λ more.
    let q = c.requires.heaps in
    let xs = c.args.entries.now in
    let ys = c.move_below.new.entries in
    let es = map g.E.Entry.item xs in
    let gs = map g.E.Entry.item ys in
    let z = c.args.left.number in
    let w = c.args.right.number in
    let some = (c.requires.left c.if-is_left.true).0 in
    let p = first-part es q.0 z w q.1 q.2 q.3 some in
    let m = c.move_below.ensures in
    let k = c.links_at-below in
    let x = k.result.left.number in
    let y = k.result.right.number in
    let isf = sym c.is_fork-then-is_left.ensures ∙ c.if-not-is_fork-2.false in
    first-within g.E.Entry.item ys ys z x y p.left p.right
    (moved-heaps es q.0 z w q.1 q.2 q.3 some gs m.moved m.others m.kinds x y isf k.ensures.left k.ensures.right) more refl

pub is_left_first-is_next_left-requires-clause-right : goal.is_left_first-is_next_left-requires-clause-right
is_left_first-is_next_left-requires-clause-right g t c = λ more.
    let q = c.requires.heaps in
    let xs = c.args.entries.now in
    let ys = c.move_below.new.entries in
    let es = map g.E.Entry.item xs in
    let gs = map g.E.Entry.item ys in
    let z = c.args.left.number in
    let w = c.args.right.number in
    let some = (c.requires.left c.if-is_left.true).0 in
    let p = first-part es q.0 z w q.1 q.2 q.3 some in
    let m = c.move_below.ensures in
    let k = c.links_at-below in
    let x = k.result.left.number in
    let y = k.result.right.number in
    let isf = sym c.is_fork-then-is_left.ensures ∙ c.if-not-is_fork-2.false in
    first-within g.E.Entry.item ys ys z y x p.right p.left (heaps-turned gs z x y p.left p.right
    (moved-heaps es q.0 z w q.1 q.2 q.3 some gs m.moved m.others m.kinds x y isf k.ensures.left k.ensures.right)) more refl

pub is_left_first-is_next_left-requires-clause-left_solid : goal.is_left_first-is_next_left-requires-clause-left_solid
is_left_first-is_next_left-requires-clause-left_solid g t c = λ more.
    let q = c.requires.heaps in
    let xs = c.args.entries.now in
    let ys = c.move_below.new.entries in
    let es = map g.E.Entry.item xs in
    let gs = map g.E.Entry.item ys in
    let z = c.args.left.number in
    let w = c.args.right.number in
    let some = (c.requires.left c.if-is_left.true).0 in
    let p = first-part es q.0 z w q.1 q.2 q.3 some in
    let m = c.move_below.ensures in
    let k = c.links_at-below in
    let x = k.result.left.number in
    let y = k.result.right.number in
    let isf = sym c.is_fork-then-is_left.ensures ∙ c.if-not-is_fork-2.false in
    first-solid gs z x y p.left p.right
    (moved-heaps es q.0 z w q.1 q.2 q.3 some gs m.moved m.others m.kinds x y isf k.ensures.left k.ensures.right) more

pub is_left_first-is_next_left-requires-clause-right_solid : goal.is_left_first-is_next_left-requires-clause-right_solid
is_left_first-is_next_left-requires-clause-right_solid g t c = λ more.
    let q = c.requires.heaps in
    let xs = c.args.entries.now in
    let ys = c.move_below.new.entries in
    let es = map g.E.Entry.item xs in
    let gs = map g.E.Entry.item ys in
    let z = c.args.left.number in
    let w = c.args.right.number in
    let some = (c.requires.left c.if-is_left.true).0 in
    let p = first-part es q.0 z w q.1 q.2 q.3 some in
    let m = c.move_below.ensures in
    let k = c.links_at-below in
    let x = k.result.left.number in
    let y = k.result.right.number in
    let isf = sym c.is_fork-then-is_left.ensures ∙ c.if-not-is_fork-2.false in
    first-solid gs z y x p.right p.left (heaps-turned gs z x y p.left p.right
    (moved-heaps es q.0 z w q.1 q.2 q.3 some gs m.moved m.others m.kinds x y isf k.ensures.left k.ensures.right)) more

pub returns-then-next-clause-lifted : goal.returns-then-next-clause-lifted
returns-then-next-clause-lifted g t c = λ at left right a.
    let es = map g.E.Entry.item c.args.entries.now in
    let gs = map g.E.Entry.item c.move_below.new.entries in
    let ps = map g.E.Entry.item c.put-then-is_left.new.entries in
    let z = c.args.left.number in
    let w = c.args.right.number in
    let up = c.args.up.number in
    let first = c.requires.left c.if-is_left.true in
    let m = c.move_below.ensures in
    let k = c.links_at-below in
    let x = k.result.left.number in
    let y = k.result.right.number in
    let f = c.is_left_first-is_next_left in
    let rest = c.if-is_next_left.next.number in
    let next : IsNext f.result x y rest = elim c.if-is_next_left.branch [
      | then-is_next_left u ↦ inl (u.if-is_next_left.true, ap (λ (v : Link). v.number) u.next-is)
      | else-is_next_left u ↦ inr (u.if-is_next_left.false, ap (λ (v : Link). v.number) u.next-is)
    ] in
    let isf = sym c.is_fork-then-is_left.ensures ∙ c.if-not-is_fork-2.false in
    let is = c.put-then-is_left.ensures.put in
    let p = first-part es at z w left right a first.0 in
    let parts = moved-parts es at z w left right a first.0 gs m.moved m.others m.kinds in
    let none = next-none f.result x y rest next f.ensures.some (λ e l. (f.ensures.right e l).0) c.if-next.true in
    let heaps = heaps-put gs ps z x y up rest w p.left p.right parts is k.ensures.left k.ensures.right in
    left-came es ps c.args.is_left up c.args.left.number c.args.right.number at left right c.if-is_left.true
    (rises-left es at z w left right a first.0 gs m.moved m.others m.kinds ps up rest rest w
    (rises-lifted gs ps ps z up rest rest w p.left p.right parts isf is
    (leaves-none ps z x y z rest p.left p.right heaps.short heaps.low heaps.high none.0 none.1 c.if-next.true) (plain-self ps))
    first.1 refl refl)

pub lift-requires : goal.lift-requires
lift-requires g t c κs within =
    let q = c.requires.heaps in
    let xs = c.args.entries.now in
    let es = map g.E.Entry.item xs in
    let gs = map g.E.Entry.item c.move_below.new.entries in
    let ps = map g.E.Entry.item c.put-then-is_left.new.entries in
    let z = c.args.left.number in
    let w = c.args.right.number in
    let up = c.args.up.number in
    let first = c.requires.left c.if-is_left.true in
    let m = c.move_below.ensures in
    let k = c.links_at-below in
    let x = k.result.left.number in
    let y = k.result.right.number in
    let f = c.is_left_first-is_next_left in
    let rest = c.if-is_next_left.next.number in
    let next : IsNext f.result x y rest = elim c.if-is_next_left.branch [
      | then-is_next_left u ↦ inl (u.if-is_next_left.true, ap (λ (v : Link). v.number) u.next-is)
      | else-is_next_left u ↦ inr (u.if-is_next_left.false, ap (λ (v : Link). v.number) u.next-is)
    ] in
    let is = c.put-then-is_left.ensures.put in
    let p = first-part es q.0 z w q.1 q.2 q.3 first.0 in
    let parts = moved-parts es q.0 z w q.1 q.2 q.3 first.0 gs m.moved m.others m.kinds in
    let heaps = heaps-put gs ps z x y up rest w p.left p.right parts is k.ensures.left k.ensures.right in
    let keeps = put-areas gs ps z up rest w true is in (
      omega (arith, c.decreases, falls es q.0 z w q.1 q.2 q.3 first.0 ps x y heaps),
      (
        within,
        (
          (z, p.left, p.right, heaps),
          (
            λ e. (f.ensures.some e, λ l. order-kept gs ps keeps x y (f.ensures.left e l)),
            λ e. (next-right f.result x y rest next c.if-next.false e, λ l. order-kept gs ps keeps y x (f.ensures.right e l).1),
          ),
        ),
      ),
    )

pub returns-else-next-clause-lifted : goal.returns-else-next-clause-lifted
returns-else-next-clause-lifted g t c = λ at left right a.
    let es = map g.E.Entry.item c.args.entries.now in
    let hs = map g.E.Entry.item c.lift.new.entries in
    let gs = map g.E.Entry.item c.move_below.new.entries in
    let ps = map g.E.Entry.item c.put-then-is_left.new.entries in
    let z = c.args.left.number in
    let w = c.args.right.number in
    let up = c.args.up.number in
    let first = c.requires.left c.if-is_left.true in
    let m = c.move_below.ensures in
    let k = c.links_at-below in
    let x = k.result.left.number in
    let y = k.result.right.number in
    let f = c.is_left_first-is_next_left in
    let rest = c.if-is_next_left.next.number in
    let next : IsNext f.result x y rest = elim c.if-is_next_left.branch [
      | then-is_next_left u ↦ inl (u.if-is_next_left.true, ap (λ (v : Link). v.number) u.next-is)
      | else-is_next_left u ↦ inr (u.if-is_next_left.false, ap (λ (v : Link). v.number) u.next-is)
    ] in
    let isf = sym c.is_fork-then-is_left.ensures ∙ c.if-not-is_fork-2.false in
    let is = c.put-then-is_left.ensures.put in
    let p = first-part es at z w left right a first.0 in
    let parts = moved-parts es at z w left right a first.0 gs m.moved m.others m.kinds in
    let heaps = heaps-put gs ps z x y up rest w p.left p.right parts is k.ensures.left k.ensures.right in
    left-came es hs c.args.is_left up c.args.left.number c.args.right.number at left right c.if-is_left.true
    (rises-left es at z w left right a first.0 gs m.moved m.others m.kinds hs up rest rest w
    (rises-lifted gs ps hs z up rest rest w p.left p.right parts isf is
    (subst (λ n. HasLeft ps hs z n z p.left p.right) (sym (next-is f.result x y rest next))
    (c.lift.ensures.lifted z p.left p.right heaps)) c.lift.ensures.areas) first.1 refl refl)

pub is_fork-requires-then-left-eq-NO_SLOT : goal.is_fork-requires-then-left-eq-NO_SLOT
is_fork-requires-then-left-eq-NO_SLOT g t c =
    let q = c.requires.heaps in
    let xs = c.args.entries.now in
    let z = c.args.right.number in
    let w = c.args.left.number in
    let t = heaps-turned (map g.E.Entry.item xs) q.0 w z q.1 q.2 q.3 in
    first-within g.E.Entry.item xs xs q.0 z w q.2 q.1 t (c.requires.right c.if-is_left.false).0 refl

pub set_up-requires-then-not-is_fork-3 : goal.set_up-requires-then-not-is_fork-3
set_up-requires-then-not-is_fork-3 g t c =
    let q = c.requires.heaps in
    let xs = c.args.entries.now in
    let z = c.args.right.number in
    let w = c.args.left.number in
    let t = heaps-turned (map g.E.Entry.item xs) q.0 w z q.1 q.2 q.3 in
    first-within g.E.Entry.item xs xs q.0 z w q.2 q.1 t (c.requires.right c.if-is_left.false).0 refl

pub returns-then-not-is_fork-3-clause-lifted : goal.returns-then-not-is_fork-3-clause-lifted
returns-then-not-is_fork-3-clause-lifted g t c = λ at left right a.
    let es = map g.E.Entry.item c.args.entries.now in
    let fs = map g.E.Entry.item c.set_up-then-not-is_fork-3.new.entries in
    let z = c.args.right.number in
    let w = c.args.left.number in
    let t = heaps-turned es at w z left right a in
    let up = c.args.up.number in
    let some = (c.requires.right c.if-is_left.false).0 in
    let isn = sym c.is_fork-then-left-eq-NO_SLOT.ensures ∙ c.if-not-is_fork-3.true in
    right-came es fs c.args.is_left up c.args.left.number c.args.right.number at left right c.if-is_left.false
    (lone-right es at z w right left t some fs up c.if-left-eq-NO_SLOT.true isn
    (linked-by es fs z up (item_at es z).left (item_at es z).right (first-inside es at z w right left t some)
    c.set_up-then-not-is_fork-3.ensures.links))

pub move_below-requires-else-is_left-clause-inside : goal.move_below-requires-else-is_left-clause-inside
move_below-requires-else-is_left-clause-inside g t c = λ more.
    let q = c.requires.heaps in
    let xs = c.args.entries.now in
    let z = c.args.right.number in
    let w = c.args.left.number in
    first-within g.E.Entry.item xs xs q.0 w z q.1 q.2 q.3 more refl

pub is_fork-requires-else-is_left : goal.is_fork-requires-else-is_left
is_fork-requires-else-is_left g t c =
    let q = c.requires.heaps in
    let xs = c.args.entries.now in
    let z = c.args.right.number in
    let w = c.args.left.number in
    let t = heaps-turned (map g.E.Entry.item xs) q.0 w z q.1 q.2 q.3 in
    first-within g.E.Entry.item xs c.move_below-else-is_left.new.entries q.0 z w q.2 q.1 t
    (c.requires.right c.if-is_left.false).0 c.move_below-else-is_left.ensures.kinds.long

pub close-rest-requires-then-not-is_fork-4 : goal.close-rest-requires-then-not-is_fork-4
close-rest-requires-then-not-is_fork-4 g t c =
    let q = c.requires.heaps in
    let xs = c.args.entries.now in
    let es = map g.E.Entry.item xs in
    let gs = map g.E.Entry.item c.move_below-else-is_left.new.entries in
    let z = c.args.right.number in
    let w = c.args.left.number in
    let t = heaps-turned (map g.E.Entry.item xs) q.0 w z q.1 q.2 q.3 in
    let some = (c.requires.right c.if-is_left.false).0 in
    let p = first-part es q.0 z w q.2 q.1 t some in
    let m = c.move_below-else-is_left.ensures in
    (p.left, p.right, moved-parts es q.0 z w q.2 q.1 t some gs m.moved m.others m.kinds)

pub put-requires-then-not-is_fork-4 : goal.put-requires-then-not-is_fork-4
put-requires-then-not-is_fork-4 g t c =
    let q = c.requires.heaps in
    let xs = c.args.entries.now in
    let z = c.args.right.number in
    let w = c.args.left.number in
    let t = heaps-turned (map g.E.Entry.item xs) q.0 w z q.1 q.2 q.3 in
    let long = c.close-rest-then-not-is_fork-4.ensures.areas.long ∙ c.move_below-else-is_left.ensures.kinds.long in
    first-within g.E.Entry.item xs c.close-rest-then-not-is_fork-4.new.entries q.0 z w q.2 q.1 t
    (c.requires.right c.if-is_left.false).0 long

pub returns-then-not-is_fork-4-clause-lifted : goal.returns-then-not-is_fork-4-clause-lifted
returns-then-not-is_fork-4-clause-lifted g t c = λ at left right a.
    let es = map g.E.Entry.item c.args.entries.now in
    let gs = map g.E.Entry.item c.move_below-else-is_left.new.entries in
    let ms = map g.E.Entry.item c.close-rest-then-not-is_fork-4.new.entries in
    let hs = map g.E.Entry.item c.put-then-not-is_fork-4.new.entries in
    let z = c.args.right.number in
    let w = c.args.left.number in
    let t = heaps-turned es at w z left right a in
    let up = c.args.up.number in
    let rest = c.close-rest-then-not-is_fork-4.result.number in
    let first = c.requires.right c.if-is_left.false in
    let m = c.move_below-else-is_left.ensures in
    let p = first-part es at z w right left t first.0 in
    let parts = moved-parts es at z w right left t first.0 gs m.moved m.others m.kinds in
    let isn = sym c.is_fork-else-is_left.ensures ∙ c.if-not-is_fork-4.true in
    right-came es hs c.args.is_left up c.args.left.number c.args.right.number at left right c.if-is_left.false
    (rises-right es at z w right left t first.0 gs m.moved m.others m.kinds hs up rest w rest
    (rises-closed gs ms hs z up rest w rest p.left p.right parts isn (c.close-rest-then-not-is_fork-4.ensures.melded p.left p.right parts)
    c.close-rest-then-not-is_fork-4.ensures.areas c.put-then-not-is_fork-4.ensures.put) first.1 refl refl)

pub is_left_first-is_next_left-requires-else-is_left-clause-left : goal.is_left_first-is_next_left-requires-else-is_left-clause-left
is_left_first-is_next_left-requires-else-is_left-clause-left g t c = λ more.
    let q = c.requires.heaps in
    let xs = c.args.entries.now in
    let ys = c.move_below-else-is_left.new.entries in
    let es = map g.E.Entry.item xs in
    let gs = map g.E.Entry.item ys in
    let z = c.args.right.number in
    let w = c.args.left.number in
    let t = heaps-turned (map g.E.Entry.item xs) q.0 w z q.1 q.2 q.3 in
    let some = (c.requires.right c.if-is_left.false).0 in
    let p = first-part es q.0 z w q.2 q.1 t some in
    let m = c.move_below-else-is_left.ensures in
    let k = c.links_at-below-else-is_left in
    let x = k.result.left.number in
    let y = k.result.right.number in
    let isf = sym c.is_fork-else-is_left.ensures ∙ c.if-not-is_fork-4.false in
    first-within g.E.Entry.item ys ys z x y p.left p.right
    (moved-heaps es q.0 z w q.2 q.1 t some gs m.moved m.others m.kinds x y isf k.ensures.left k.ensures.right) more refl

pub is_left_first-is_next_left-requires-else-is_left-clause-right : goal.is_left_first-is_next_left-requires-else-is_left-clause-right
is_left_first-is_next_left-requires-else-is_left-clause-right g t c = λ more.
    let q = c.requires.heaps in
    let xs = c.args.entries.now in
    let ys = c.move_below-else-is_left.new.entries in
    let es = map g.E.Entry.item xs in
    let gs = map g.E.Entry.item ys in
    let z = c.args.right.number in
    let w = c.args.left.number in
    let t = heaps-turned (map g.E.Entry.item xs) q.0 w z q.1 q.2 q.3 in
    let some = (c.requires.right c.if-is_left.false).0 in
    let p = first-part es q.0 z w q.2 q.1 t some in
    let m = c.move_below-else-is_left.ensures in
    let k = c.links_at-below-else-is_left in
    let x = k.result.left.number in
    let y = k.result.right.number in
    let isf = sym c.is_fork-else-is_left.ensures ∙ c.if-not-is_fork-4.false in
    first-within g.E.Entry.item ys ys z y x p.right p.left (heaps-turned gs z x y p.left p.right
    (moved-heaps es q.0 z w q.2 q.1 t some gs m.moved m.others m.kinds x y isf k.ensures.left k.ensures.right)) more refl

pub is_left_first-is_next_left-requires-else-is_left-clause-left_solid :
    goal.is_left_first-is_next_left-requires-else-is_left-clause-left_solid
is_left_first-is_next_left-requires-else-is_left-clause-left_solid g t c = λ more.
    let q = c.requires.heaps in
    let xs = c.args.entries.now in
    let ys = c.move_below-else-is_left.new.entries in
    let es = map g.E.Entry.item xs in
    let gs = map g.E.Entry.item ys in
    let z = c.args.right.number in
    let w = c.args.left.number in
    let t = heaps-turned (map g.E.Entry.item xs) q.0 w z q.1 q.2 q.3 in
    let some = (c.requires.right c.if-is_left.false).0 in
    let p = first-part es q.0 z w q.2 q.1 t some in
    let m = c.move_below-else-is_left.ensures in
    let k = c.links_at-below-else-is_left in
    let x = k.result.left.number in
    let y = k.result.right.number in
    let isf = sym c.is_fork-else-is_left.ensures ∙ c.if-not-is_fork-4.false in
    first-solid gs z x y p.left p.right
    (moved-heaps es q.0 z w q.2 q.1 t some gs m.moved m.others m.kinds x y isf k.ensures.left k.ensures.right) more

pub is_left_first-is_next_left-requires-else-is_left-clause-right_solid :
    goal.is_left_first-is_next_left-requires-else-is_left-clause-right_solid
is_left_first-is_next_left-requires-else-is_left-clause-right_solid g t c = λ more.
    let q = c.requires.heaps in
    let xs = c.args.entries.now in
    let ys = c.move_below-else-is_left.new.entries in
    let es = map g.E.Entry.item xs in
    let gs = map g.E.Entry.item ys in
    let z = c.args.right.number in
    let w = c.args.left.number in
    let t = heaps-turned (map g.E.Entry.item xs) q.0 w z q.1 q.2 q.3 in
    let some = (c.requires.right c.if-is_left.false).0 in
    let p = first-part es q.0 z w q.2 q.1 t some in
    let m = c.move_below-else-is_left.ensures in
    let k = c.links_at-below-else-is_left in
    let x = k.result.left.number in
    let y = k.result.right.number in
    let isf = sym c.is_fork-else-is_left.ensures ∙ c.if-not-is_fork-4.false in
    first-solid gs z y x p.right p.left (heaps-turned gs z x y p.left p.right
    (moved-heaps es q.0 z w q.2 q.1 t some gs m.moved m.others m.kinds x y isf k.ensures.left k.ensures.right)) more

pub returns-then-next-2-clause-lifted : goal.returns-then-next-2-clause-lifted
returns-then-next-2-clause-lifted g t c = λ at left right a.
    let es = map g.E.Entry.item c.args.entries.now in
    let gs = map g.E.Entry.item c.move_below-else-is_left.new.entries in
    let ps = map g.E.Entry.item c.put-else-is_left.new.entries in
    let z = c.args.right.number in
    let w = c.args.left.number in
    let t = heaps-turned es at w z left right a in
    let up = c.args.up.number in
    let first = c.requires.right c.if-is_left.false in
    let m = c.move_below-else-is_left.ensures in
    let k = c.links_at-below-else-is_left in
    let x = k.result.left.number in
    let y = k.result.right.number in
    let f = c.is_left_first-is_next_left-else-is_left in
    let rest = c.if-is_next_left-2.next.number in
    let next : IsNext f.result x y rest = elim c.if-is_next_left-2.branch [
      | then-is_next_left-2 u ↦ inl (u.if-is_next_left-2.true, ap (λ (v : Link). v.number) u.next-is)
      | else-is_next_left-2 u ↦ inr (u.if-is_next_left-2.false, ap (λ (v : Link). v.number) u.next-is)
    ] in
    let isf = sym c.is_fork-else-is_left.ensures ∙ c.if-not-is_fork-4.false in
    let is = c.put-else-is_left.ensures.put in
    let p = first-part es at z w right left t first.0 in
    let parts = moved-parts es at z w right left t first.0 gs m.moved m.others m.kinds in
    let none = next-none f.result x y rest next f.ensures.some (λ e l. (f.ensures.right e l).0) c.if-next-2.true in
    let heaps = heaps-put gs ps z x y up w rest p.left p.right parts is k.ensures.left k.ensures.right in
    right-came es ps c.args.is_left up c.args.left.number c.args.right.number at left right c.if-is_left.false
    (rises-right es at z w right left t first.0 gs m.moved m.others m.kinds ps up rest w rest
    (rises-lifted gs ps ps z up rest w rest p.left p.right parts isf is
    (leaves-none ps z x y z rest p.left p.right heaps.short heaps.low heaps.high none.0 none.1 c.if-next-2.true) (plain-self ps))
    first.1 refl refl)

pub lift-requires-else-is_left : goal.lift-requires-else-is_left
lift-requires-else-is_left g t c κs within =
    let q = c.requires.heaps in
    let xs = c.args.entries.now in
    let es = map g.E.Entry.item xs in
    let gs = map g.E.Entry.item c.move_below-else-is_left.new.entries in
    let ps = map g.E.Entry.item c.put-else-is_left.new.entries in
    let z = c.args.right.number in
    let w = c.args.left.number in
    let t = heaps-turned (map g.E.Entry.item xs) q.0 w z q.1 q.2 q.3 in
    let up = c.args.up.number in
    let first = c.requires.right c.if-is_left.false in
    let m = c.move_below-else-is_left.ensures in
    let k = c.links_at-below-else-is_left in
    let x = k.result.left.number in
    let y = k.result.right.number in
    let f = c.is_left_first-is_next_left-else-is_left in
    let rest = c.if-is_next_left-2.next.number in
    let next : IsNext f.result x y rest = elim c.if-is_next_left-2.branch [
      | then-is_next_left-2 u ↦ inl (u.if-is_next_left-2.true, ap (λ (v : Link). v.number) u.next-is)
      | else-is_next_left-2 u ↦ inr (u.if-is_next_left-2.false, ap (λ (v : Link). v.number) u.next-is)
    ] in
    let is = c.put-else-is_left.ensures.put in
    let p = first-part es q.0 z w q.2 q.1 t first.0 in
    let parts = moved-parts es q.0 z w q.2 q.1 t first.0 gs m.moved m.others m.kinds in
    let heaps = heaps-put gs ps z x y up w rest p.left p.right parts is k.ensures.left k.ensures.right in
    let keeps = put-areas gs ps z up w rest true is in (
      omega (arith, c.decreases, falls es q.0 z w q.2 q.1 t first.0 ps x y heaps),
      (
        within,
        (
          (z, p.left, p.right, heaps),
          (
            λ e. (f.ensures.some e, λ l. order-kept gs ps keeps x y (f.ensures.left e l)),
            λ e. (next-right f.result x y rest next c.if-next-2.false e, λ l. order-kept gs ps keeps y x (f.ensures.right e l).1),
          ),
        ),
      ),
    )

pub returns-else-next-2-clause-lifted : goal.returns-else-next-2-clause-lifted
returns-else-next-2-clause-lifted g t c = λ at left right a.
    let es = map g.E.Entry.item c.args.entries.now in
    let hs = map g.E.Entry.item c.lift-else-is_left.new.entries in
    let gs = map g.E.Entry.item c.move_below-else-is_left.new.entries in
    let ps = map g.E.Entry.item c.put-else-is_left.new.entries in
    let z = c.args.right.number in
    let w = c.args.left.number in
    let t = heaps-turned es at w z left right a in
    let up = c.args.up.number in
    let first = c.requires.right c.if-is_left.false in
    let m = c.move_below-else-is_left.ensures in
    let k = c.links_at-below-else-is_left in
    let x = k.result.left.number in
    let y = k.result.right.number in
    let f = c.is_left_first-is_next_left-else-is_left in
    let rest = c.if-is_next_left-2.next.number in
    let next : IsNext f.result x y rest = elim c.if-is_next_left-2.branch [
      | then-is_next_left-2 u ↦ inl (u.if-is_next_left-2.true, ap (λ (v : Link). v.number) u.next-is)
      | else-is_next_left-2 u ↦ inr (u.if-is_next_left-2.false, ap (λ (v : Link). v.number) u.next-is)
    ] in
    let isf = sym c.is_fork-else-is_left.ensures ∙ c.if-not-is_fork-4.false in
    let is = c.put-else-is_left.ensures.put in
    let p = first-part es at z w right left t first.0 in
    let parts = moved-parts es at z w right left t first.0 gs m.moved m.others m.kinds in
    let heaps = heaps-put gs ps z x y up w rest p.left p.right parts is k.ensures.left k.ensures.right in
    right-came es hs c.args.is_left up c.args.left.number c.args.right.number at left right c.if-is_left.false
    (rises-right es at z w right left t first.0 gs m.moved m.others m.kinds hs up rest w rest
    (rises-lifted gs ps hs z up rest w rest p.left p.right parts isf is
    (subst (λ n. HasLeft ps hs z n z p.left p.right) (sym (next-is f.result x y rest next))
    (c.lift-else-is_left.ensures.lifted z p.left p.right heaps)) c.lift-else-is_left.ensures.areas) first.1 refl refl)
