use Rattle.std.proofs.Common.{◌∙◌, ◌<◌, ap, sym, subst}
use Rattle.std.proofs.lemmas.List.{with_items_is}
use Rattle.atlas_entries.specs.Orders.{Order, used}
use Rattle.atlas_search.specs.Numbers.{occurs}
use Rattle.atlas_entries.specs.Rings.{IsRecency, run}
use Rattle.atlas_entries.proofs.RecencyCalls.{IsTouched, IsRecency-touched, touched-is, stored}
use Rattle.atlas_entries.proofs.recency.Recency.touch.Goals as goal

pub invariant_of-self : goal.invariant_of-self
invariant_of-self g c =
    let r = c.self.inside in
    let new = c.move_to_front.new.links in
    let last = c.move_to_front.new.ends in
    let i = c.args.number in
    let w : IsTouched r.links.items r.ends new last i = subst (λ l. IsTouched l r.ends new last i) c.deref_mut.ensures.value
    (record { ring = c.move_to_front.ensures.ring; others = c.move_to_front.ensures.others; size = c.move_to_front.ensures.size }) in
    let l : 0 < occurs i (run r.links.items r.ends r.count) = subst (λ (o : Order). 0 < occurs i o.entries) (sym c.self.view_is) c.requires
    in
    let e = with_items_is r.links new (w.size ∙ sym r.links.ok.0) in (
      subst (λ l. IsRecency l last r.unused r.count) (sym e) (IsRecency-touched r.links.items new r.ends last r.unused r.count i
          c.self.invariant.0 l w),
      c.self.invariant.1,
    )

pub returns : goal.returns
returns g c =
    let r = c.self.inside in
    let new = c.move_to_front.new.links in
    let last = c.move_to_front.new.ends in
    let i = c.args.number in
    let w : IsTouched r.links.items r.ends new last i = subst (λ l. IsTouched l r.ends new last i) c.deref_mut.ensures.value
    (record { ring = c.move_to_front.ensures.ring; others = c.move_to_front.ensures.others; size = c.move_to_front.ensures.size }) in
    let l : 0 < occurs i (run r.links.items r.ends r.count) = subst (λ (o : Order). 0 < occurs i o.entries) (sym c.self.view_is) c.requires
    in
    let e = with_items_is r.links new (w.size ∙ sym r.links.ok.0) in
    ap (λ l. stored l last r.count r.reserved) e ∙ touched-is r.links.items new r.ends last r.unused r.count i c.self.invariant.0 l
    r.reserved w ∙ ap (used i) c.self.view_is
