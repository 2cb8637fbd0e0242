use Rattle.std.proofs.Common.{arith, subst, sym}
use Rattle.atlas_entries.specs.Rings.{next_at, IsRecency}
use Rattle.atlas_entries.proofs.RingLemmas.{length-line}
use Rattle.atlas_entries.proofs.recency.Recency.reserve.Goals as goal

pub invariant_of-self-2 : goal.invariant_of-self-2
invariant_of-self-2 g c =
    let r = c.self.inside in
    let was = c.self.invariant.0 in (
      subst (λ l. IsRecency l r.ends r.unused r.count) (sym c.in_ok-reserve.ensures.items) was,
      omega (
        arith,
        c.self.invariant.1,
        c.max-self-inside.ensures,
        c.in_ok-reserve.ensures.ok,
        c.in_ok-reserve.ensures.len,
        c.in_ok-reserve.ensures.capacity,
        r.links.ok.0,
        was.rest.all,
        length-line r.count (next_at r.links.items r.ends) r.ends.next,
      ),
    )
