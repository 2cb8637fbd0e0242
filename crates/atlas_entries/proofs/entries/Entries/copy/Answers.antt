use Rattle.std.proofs.Common.{◌≡◌, ◌∙◌, ap, arith, length, vec_capacity}
use Rattle.atlas_entries.proofs.KeptEntries.{kept-alike, kept-unreserved}
use Rattle.atlas_entries.proofs.ReserveLemmas.{entries-fit, memory-copied}
use Rattle.atlas_entries.proofs.entries.Entries.copy.Goals as goal

pub invariant_of-result : goal.invariant_of-result
invariant_of-result g c =
    let s = c.self.inside in
    let eq = g.K.PartialEq.eq in
    let new = c.in_ok-map.map in
    let items = c.in_ok-items.items in
    let stored : items.items ≡ s.items.items = c.in_ok-items.ensures.items ∙ c.deref.ensures.value in
    let alike = kept-alike eq s.map s.recency s.items.items c.self.invariant.0 new c.in_ok-map.ensures.same in
    let fit = entries-fit s.map s.recency (vec_capacity s.items) c.self.invariant.1 s.items.items c.self.invariant.0.made in
    rw (c.in_ok-recency.ensures, stored) (
      kept-unreserved eq new s.recency s.items.items alike,
      memory-copied s.map s.recency (vec_capacity s.items) c.self.invariant.1 new (vec_capacity items) c.in_ok-map.ensures.held
          (omega (arith, fit, ap length stored, items.ok.0, items.ok.1)),
      c.self.invariant.2,
    )
