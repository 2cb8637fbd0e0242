use Rattle.std.proofs.Common.{◌+◌, ◌-◌, ◌<◌, ◌≤◌, arith, length, vec_capacity, max, refl, ◌≡◌, ◌∙◌, ◌∷◌, List, ap, inl, inr, subst, sym}
use Rattle.std.proofs.Common.{Err, rules}
use Rattle.std.proofs.lemmas.Bool.{false≢true}
use Rattle.atlas_entries.specs.declared.entries.Entry.{Entry}
use Rattle.atlas_entries.specs.Entries.{EndsBlank, Table}
use Rattle.atlas_entries.specs.Orders.{Order}
use Rattle.atlas_entries.specs.Tables.{AreKept, HasMemory, numbered}
use Rattle.atlas_entries.proofs.KeptEntries.{absent-is, joined-is, kept-alike, kept-joined, new-none}
use Rattle.atlas_entries.proofs.EntryLemmas.{length-numbered}
use Rattle.atlas_entries.proofs.MarkLemmas.{mark-new}
use Rattle.atlas_entries.proofs.ReserveLemmas.{memory-joined, memory-kept}
use Rattle.atlas_entries.proofs.entries.Entries.push.Goals as goal

pub invariant_of-self : goal.invariant_of-self
invariant_of-self g c =
    let s = c.self.inside in
    let new = c.reserve.new.self in
    let same = c.in_err-reserve.ensures.entries in (
      kept-alike g.K.PartialEq.eq s.map s.recency s.items.items c.self.invariant.0 new same.2,
      memory-kept s.map s.recency (vec_capacity s.items) c.self.invariant.1 new (vec_capacity s.items) c.in_err-reserve.ensures.spare same.1
          (omega arith),
      c.self.invariant.2,
    )

pub invariant_of-self-in_err-make_room : goal.invariant_of-self-in_err-make_room
invariant_of-self-in_err-make_room g c =
    let s = c.self.inside in
    let new = c.reserve.new.self in
    let same = c.in_ok-reserve.ensures.entries in (
      subst (λ xs. AreKept g.K.PartialEq.eq new s.recency xs) (sym c.make_room.ensures.items)
          (kept-alike g.K.PartialEq.eq s.map s.recency s.items.items c.self.invariant.0 new same.2),
      memory-kept s.map s.recency (vec_capacity s.items) c.self.invariant.1 new (vec_capacity c.make_room.new.items)
          c.in_ok-reserve.ensures.spare same.1 c.make_room.ensures.capacity,
      subst (λ (xs : List (Entry g.row.K.Denot)). EndsBlank s.mark (numbered xs s.recency.entries)) (sym c.make_room.ensures.items)
          c.self.invariant.2,
    )

pub invariant_of-self-in_err-number : goal.invariant_of-self-in_err-number
invariant_of-self-in_err-number g c =
    let s = c.self.inside in
    let eq = g.K.PartialEq.eq in
    let new = c.reserve.new.self in
    let items = c.make_room.new.items in
    let same = c.in_ok-reserve.ensures.entries in
    let kept : AreKept eq new s.recency items.items = subst (λ xs. AreKept eq new s.recency xs) (sym c.make_room.ensures.items)
    (kept-alike eq s.map s.recency s.items.items c.self.invariant.0 new same.2) in (
      subst (λ o. AreKept eq new o items.items) (sym c.in_err-number.ensures.refused) kept,
      subst (λ o. HasMemory new o (vec_capacity items)) (sym c.in_err-number.ensures.refused)
          (memory-kept s.map s.recency (vec_capacity s.items) c.self.invariant.1 new (vec_capacity items) c.in_ok-reserve.ensures.spare
          same.1
          c.make_room.ensures.capacity),
      subst (λ (o : Order). EndsBlank s.mark (numbered items.items o.entries)) (sym c.in_err-number.ensures.refused)
          (subst (λ (xs : List (Entry g.row.K.Denot)). EndsBlank s.mark (numbered xs s.recency.entries)) (sym c.make_room.ensures.items)
          c.self.invariant.2),
    )

pub store-requires-clause-room : goal.store-requires-clause-room
store-requires-clause-room g c = λ last.
    let s = c.self.inside in
    let fresh = c.in_ok-number.ensures.new in
    let made = c.self.invariant.0.made in
    let all = fresh.dense (omega (arith, fresh.next, made, last, ap length c.make_room.ensures.items)) in
    c.in_ok-make_room.ensures.room (omega (arith, all, fresh.next, last, ap length c.make_room.ensures.items, c.len.ensures.len))

pub invariant_of-self-2 : goal.invariant_of-self-2
invariant_of-self-2 g c =
    let s = c.self.inside in
    let eq = g.K.PartialEq.eq in
    let n = c.in_ok-number.number in
    let e : Entry g.row.K.Denot = record c.args.entry { number = n } in
    let map = c.reserve.new.self in
    let items = c.make_room.new.items in
    let last = c.store.new.items in
    let same = c.in_ok-reserve.ensures.entries in
    let kept : AreKept eq map s.recency items.items = subst (λ xs. AreKept eq map s.recency xs) (sym c.make_room.ensures.items)
    (kept-alike eq s.map s.recency s.items.items c.self.invariant.0 map same.2) in
    let memory = memory-kept s.map s.recency (vec_capacity s.items) c.self.invariant.1 map (vec_capacity items)
    c.in_ok-reserve.ensures.spare same.1 c.make_room.ensures.capacity in
    let absent = same.2 e.key ∙ absent-is eq s.map s.recency s.items.items c.self.invariant.0 c.args.self.now.entries
    (ap (λ t. t.entries) c.self.view_is) e.key c.requires in
    let few = subst (λ (o : Order). length o.entries ≤ o.made) c.in_ok-number.ensures.joined c.in_ok-number.ensures.few in (
      subst (λ o. AreKept eq c.bind.new.map o last.items) (sym c.in_ok-number.ensures.joined)
          (kept-joined eq map s.recency items.items kept g.met.K.Eq.laws n e c.bind.new.map last.items c.in_ok-number.ensures.new absent
          c.bind.ensures.updates.0 c.store.ensures.stored c.store.ensures.others c.store.ensures.size refl),
      subst (λ o. HasMemory c.bind.new.map o (vec_capacity last)) (sym c.in_ok-number.ensures.joined)
          (memory-joined map s.recency (vec_capacity items) memory n c.bind.new.map (vec_capacity last) c.bind.ensures.spare
          (c.bind.ensures.held absent)
          (omega (arith, few))
          c.store.ensures.capacity (omega (arith, kept.made, c.store.ensures.size, last.ok.0, last.ok.1))),
      subst (λ (o : Order). EndsBlank s.mark (numbered last.items o.entries)) (sym c.in_ok-number.ensures.joined)
          (mark-new eq map s.recency items.items kept s.mark
          (subst (λ (xs : List (Entry g.row.K.Denot)). EndsBlank s.mark (numbered xs s.recency.entries)) (sym c.make_room.ensures.items)
          c.self.invariant.2)
          n e last.items c.in_ok-number.ensures.new c.store.ensures.stored c.store.ensures.others),
    )

pub returns-clause-new : goal.returns-clause-new
returns-clause-new g c =
    let s = c.self.inside in
    let fresh = c.in_ok-number.ensures.new in
    rw (← c.self.view_is) (record {
      free = new-none g.K.PartialEq.eq s.map s.recency s.items.items c.self.invariant.0
          (numbered s.items.items s.recency.entries) refl c.in_ok-number.number fresh;
      next = fresh.next;
      dense = λ last. length-numbered s.items.items s.recency.entries c.self.invariant.0.inside ∙ fresh.dense last;
    })

pub returns-clause-made : goal.returns-clause-made
returns-clause-made g c =
    ap (λ o. o.made) c.in_ok-number.ensures.joined ∙ ap (λ t. max t.made (c.in_ok-number.number + 1)) c.self.view_is

pub returns-clause-joined : goal.returns-clause-joined
returns-clause-joined g c =
    let s = c.self.inside in
    let eq = g.K.PartialEq.eq in
    let n = c.in_ok-number.number in
    let e : Entry g.row.K.Denot = record c.args.entry { number = n } in
    let map = c.reserve.new.self in
    let items = c.make_room.new.items.items in
    let kept : AreKept eq map s.recency items = subst (λ xs. AreKept eq map s.recency xs) (sym c.make_room.ensures.items)
    (kept-alike eq s.map s.recency s.items.items c.self.invariant.0 map c.in_ok-reserve.ensures.entries.2) in
    ap (λ o. numbered c.store.new.items.items o.entries) c.in_ok-number.ensures.joined ∙
    joined-is eq map s.recency items kept n e c.store.new.items.items c.in_ok-number.ensures.new c.store.ensures.stored
    c.store.ensures.others ∙
    ap (λ xs. (n, e) ∷ numbered xs s.recency.entries) c.make_room.ensures.items ∙
    ap (λ es. (n, e) ∷ es) (ap (λ t. t.entries) c.self.view_is)

pub returns-in_err-number-clause-errors : goal.returns-in_err-number-clause-errors
returns-in_err-number-clause-errors g c =
    let s = c.self.inside in
    let same : c.from_residual-in_err-number.result ≡ Err c.in_err-number.field-0.0 = search rules in
    let long = sym (length-numbered s.items.items s.recency.entries c.self.invariant.0.inside) in
    rw same (rw (← (ap (λ t. t.entries) c.self.view_is)) (elim c.in_err-number.ensures.errors [
      | inl memory ↦ inl memory
      | inr none ↦ inr (none.0, sym long ∙ none.1)
    ]))

pub returns-clause-reserved : goal.returns-clause-reserved
returns-clause-reserved g c =
    ap (λ o. o.reserved) c.in_ok-number.ensures.joined ∙ ap (λ t. t.reserved - 1) c.self.view_is

pub returns-in_err-make_room-clause-memory : goal.returns-in_err-make_room-clause-memory
returns-in_err-make_room-clause-memory g c = λ some is.
    let s = c.self.inside in
    let left : 0 < s.recency.reserved = subst (λ (t : Table g.row.K.Denot). 0 < t.reserved) (sym c.self.view_is) some in
    false≢true (c.in_err-make_room.ensures.memory (omega (arith, left, c.self.invariant.1.items, c.len.ensures.len)))

pub returns-in_err-number-clause-memory : goal.returns-in_err-number-clause-memory
returns-in_err-number-clause-memory g c = λ some is.
    let s = c.self.inside in
    let left : 0 < s.recency.reserved = subst (λ (t : Table g.row.K.Denot). 0 < t.reserved) (sym c.self.view_is) some in
    let same : c.from_residual-in_err-number.result ≡ Err c.in_err-number.field-0.0 = search rules in
    c.in_err-number.ensures.memory left (sym same ∙ is)
