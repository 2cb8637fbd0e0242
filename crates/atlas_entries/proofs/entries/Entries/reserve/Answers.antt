use Rattle.std.proofs.Common.{List, arith, subst, sym, vec_capacity}
use Rattle.atlas_entries.specs.declared.entries.Entry.{Entry}
use Rattle.atlas_entries.specs.Entries.{EndsBlank}
use Rattle.atlas_entries.specs.Orders.{Order}
use Rattle.atlas_entries.specs.Tables.{AreKept, HasMemory, numbered}
use Rattle.atlas_entries.proofs.KeptEntries.{kept-alike, kept-reserved}
use Rattle.atlas_entries.proofs.ReserveLemmas.{entries-fit, memory-kept, memory-reserved}
use Rattle.atlas_entries.proofs.entries.Entries.reserve.Goals as goal

pub invariant_of-self : goal.invariant_of-self
invariant_of-self g c =
    let s = c.self.inside in
    let new = c.reserve.new.self in
    let same = c.in_err-reserve.ensures.entries in (
      kept-alike g.K.PartialEq.eq s.map s.recency s.items.items c.self.invariant.0 new same.2,
      memory-kept s.map s.recency (vec_capacity s.items) c.self.invariant.1 new (vec_capacity s.items) c.in_err-reserve.ensures.spare same.1
          (omega arith),
      c.self.invariant.2,
    )

pub invariant_of-self-in_err-reserve-2 : goal.invariant_of-self-in_err-reserve-2
invariant_of-self-in_err-reserve-2 g c =
    let s = c.self.inside in
    let new = c.reserve.new.self in
    let same = c.in_ok-reserve.ensures.entries in (
      subst (λ xs. AreKept g.K.PartialEq.eq new s.recency xs) (sym c.in_err-reserve-2.ensures.items)
          (kept-alike g.K.PartialEq.eq s.map s.recency s.items.items c.self.invariant.0 new same.2),
      memory-kept s.map s.recency (vec_capacity s.items) c.self.invariant.1 new (vec_capacity c.reserve-2.new.self)
          c.in_ok-reserve.ensures.spare same.1 c.in_err-reserve-2.ensures.capacity,
      subst (λ (xs : List (Entry g.row.K.Denot)). EndsBlank s.mark (numbered xs s.recency.entries)) (sym c.in_err-reserve-2.ensures.items)
          c.self.invariant.2,
    )

pub invariant_of-self-in_err-reserve-3 : goal.invariant_of-self-in_err-reserve-3
invariant_of-self-in_err-reserve-3 g c =
    let s = c.self.inside in
    let eq = g.K.PartialEq.eq in
    let new = c.reserve.new.self in
    let items = c.reserve-2.new.self in
    let same = c.in_ok-reserve.ensures.entries in
    let kept : AreKept eq new s.recency items.items = subst (λ xs. AreKept eq new s.recency xs) (sym c.in_ok-reserve-2.ensures.items)
    (kept-alike eq s.map s.recency s.items.items c.self.invariant.0 new same.2) in (
      subst (λ o. AreKept eq new o items.items) (sym c.in_err-reserve-3.ensures.refused) kept,
      subst (λ o. HasMemory new o (vec_capacity items)) (sym c.in_err-reserve-3.ensures.refused)
          (memory-kept s.map s.recency (vec_capacity s.items) c.self.invariant.1 new (vec_capacity items) c.in_ok-reserve.ensures.spare
          same.1
          c.in_ok-reserve-2.ensures.capacity),
      subst (λ (o : Order). EndsBlank s.mark (numbered items.items o.entries)) (sym c.in_err-reserve-3.ensures.refused)
          (subst (λ (xs : List (Entry g.row.K.Denot)). EndsBlank s.mark (numbered xs s.recency.entries))
          (sym c.in_ok-reserve-2.ensures.items) c.self.invariant.2),
    )

pub invariant_of-self-2 : goal.invariant_of-self-2
invariant_of-self-2 g c =
    let s = c.self.inside in
    let eq = g.K.PartialEq.eq in
    let new = c.reserve.new.self in
    let items = c.reserve-2.new.self in
    let same = c.in_ok-reserve.ensures.entries in
    let kept : AreKept eq new s.recency items.items = subst (λ xs. AreKept eq new s.recency xs) (sym c.in_ok-reserve-2.ensures.items)
    (kept-alike eq s.map s.recency s.items.items c.self.invariant.0 new same.2) in
    let fit = entries-fit s.map s.recency (vec_capacity s.items) c.self.invariant.1 s.items.items c.self.invariant.0.made in (
      subst (λ o. AreKept eq new o items.items) (sym c.in_ok-reserve-3.ensures.reserves)
          (kept-reserved eq new s.recency items.items kept c.args.additional),
      subst (λ o. HasMemory new o (vec_capacity items)) (sym c.in_ok-reserve-3.ensures.reserves)
          (memory-reserved s.map s.recency (vec_capacity s.items) c.self.invariant.1 new (vec_capacity items) c.args.additional
          c.in_ok-reserve.ensures.spare c.in_ok-reserve.ensures.ok same.1 c.in_ok-reserve-2.ensures.capacity
          (omega (arith, fit, s.items.ok.0, c.in_ok-reserve-2.ensures.ok, c.in_ok-reserve-2.ensures.len))),
      subst (λ (o : Order). EndsBlank s.mark (numbered items.items o.entries)) (sym c.in_ok-reserve-3.ensures.reserves)
          (subst (λ (xs : List (Entry g.row.K.Denot)). EndsBlank s.mark (numbered xs s.recency.entries))
          (sym c.in_ok-reserve-2.ensures.items) c.self.invariant.2),
    )
