use Rattle.std.proofs.Common.{arith}
use Rattle.atlas_entries.specs.Rings.{next_at}
use Rattle.atlas_entries.proofs.RingLemmas.{length-line}
use Rattle.atlas_entries.proofs.recency.Recency.clear.Goals as goal

pub returns-clause-reserved : goal.returns-clause-reserved
returns-clause-reserved g c =
    let r = c.self.inside in
    rw (← c.self.view_is) (omega (arith, length-line r.count (next_at r.links.items r.ends) r.ends.next))
