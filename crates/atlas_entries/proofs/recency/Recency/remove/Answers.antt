use Rattle.std.proofs.Common.{arith, ◌∙◌, ◌-◌, ◌<◌, ap, sym, subst}
use Rattle.std.proofs.lemmas.List.{with_items_is}
use Rattle.atlas_entries.specs.Orders.{Order, gone}
use Rattle.atlas_search.specs.Numbers.{occurs}
use Rattle.atlas_entries.specs.Rings.{IsRecency, run}
use Rattle.atlas_entries.proofs.RecencyCalls.{IsGiven, IsRecency-given, given-is, stored}
use Rattle.atlas_entries.proofs.recency.Recency.remove.Goals as goal

pub invariant_of-self : goal.invariant_of-self
invariant_of-self g c =
    let r = c.self.inside in
    let new = c.give_back.new.links in
    let last = c.give_back.new.ends in
    let i = c.args.number in
    let w : IsGiven r.links.items r.ends new last i r.unused = subst (λ l. IsGiven l r.ends new last i r.unused) c.deref_mut.ensures.value
    (record {
      ring = c.give_back.ensures.ring;
      own = c.give_back.ensures.own;
      others = c.give_back.ensures.others;
      size =
          c.give_back.ensures.size;
    }) in
    let l : 0 < occurs i (run r.links.items r.ends r.count) = subst (λ (o : Order). 0 < occurs i o.entries) (sym c.self.view_is) c.requires
    in
    let e = with_items_is r.links new (w.size ∙ sym r.links.ok.0) in (
      subst (λ l. IsRecency l last i (r.count - 1)) (sym e) (IsRecency-given r.links.items new r.ends last r.unused r.count i
          c.self.invariant.0 l w),
      omega (arith, c.self.invariant.1),
    )

pub returns : goal.returns
returns g c =
    let r = c.self.inside in
    let new = c.give_back.new.links in
    let last = c.give_back.new.ends in
    let i = c.args.number in
    let w : IsGiven r.links.items r.ends new last i r.unused = subst (λ l. IsGiven l r.ends new last i r.unused) c.deref_mut.ensures.value
    (record {
      ring = c.give_back.ensures.ring;
      own = c.give_back.ensures.own;
      others = c.give_back.ensures.others;
      size =
          c.give_back.ensures.size;
    }) in
    let l : 0 < occurs i (run r.links.items r.ends r.count) = subst (λ (o : Order). 0 < occurs i o.entries) (sym c.self.view_is) c.requires
    in
    let e = with_items_is r.links new (w.size ∙ sym r.links.ok.0) in
    ap (λ l. stored l last (r.count - 1) r.reserved) e ∙ given-is r.links.items new r.ends last r.unused r.count i c.self.invariant.0 l
    r.reserved w ∙ ap (gone i) c.self.view_is
