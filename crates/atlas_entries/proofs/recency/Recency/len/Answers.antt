use Rattle.std.proofs.Common.{◌∙◌, length, sym, ap, arith}
use Rattle.atlas_entries.specs.Orders.{Order}
use Rattle.atlas_entries.specs.Rings.{next_at}
use Rattle.atlas_entries.proofs.RingLemmas.{length-line}
use Rattle.atlas_entries.proofs.recency.Recency.len.Goals as goal

pub returns-clause-len : goal.returns-clause-len
returns-clause-len g c =
    let r = c.self.inside in
    sym (length-line r.count (next_at r.links.items r.ends) r.ends.next) ∙ ap (λ (o : Order). length o.entries) c.self.view_is

pub returns-clause-few : goal.returns-clause-few
returns-clause-few g c =
    let r = c.self.inside in
    let ring = c.self.invariant.0 in
    omega (arith, ring.short, ring.rest.all, length-line r.count (next_at r.links.items r.ends) r.ends.next)
