use Rattle.std.proofs.Common.{◌≡◌, ◌∙◌, ap, arith, length, rules}
use Rattle.atlas_entries.specs.Rings.{next_at}
use Rattle.atlas_entries.proofs.RingLemmas.{length-line}
use Rattle.atlas_entries.proofs.recency.Recency.copy.Goals as goal

pub invariant_of-result : goal.invariant_of-result
invariant_of-result g c =
    let r = c.self.inside in
    let links = c.in_ok-links.links in
    let same : links.items ≡ r.links.items = c.in_ok-links.ensures.items ∙ c.deref.ensures.value in
    let was = c.self.invariant.0 in (
      rw same (search rules),
      omega (arith, ap length same, links.ok.0, links.ok.1, was.rest.all, length-line r.count (next_at r.links.items r.ends) r.ends.next),
    )
