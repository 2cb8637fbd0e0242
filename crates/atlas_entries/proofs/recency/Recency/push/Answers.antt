use Rattle.std.proofs.Common.{◌∙◌, ◌+◌, ◌-◌, ◌<◌, ap, sym, subst, inl, inr, length, ◌≡◌, ◌∷◌, Err, arith, rules}
use Rattle.std.proofs.lemmas.List.{with_items_is}
use Rattle.atlas_entries.specs.Orders.{IsFreshNumber, Order, with_newest}
use Rattle.atlas_entries.specs.Rings.{HasSpare, IsRecency, IsRing, next_at, run}
use Rattle.atlas_entries.proofs.RingLemmas.{length-line}
use Rattle.atlas_entries.proofs.SpareLemmas.{all-used, none-spare, unused-inside, new-free}
use Rattle.atlas_entries.proofs.RecencyCalls.{IsJoined, IsRecency-joined, joined-is, joined-new, stored, count-fits}
use Rattle.atlas_entries.proofs.recency.Recency.push.Goals as goal

pub take_number-requires-clause-unused : goal.take_number-requires-clause-unused
take_number-requires-clause-unused g c =
    let r = c.self.inside in
    unused-inside r.links.items r.ends r.unused (run r.links.items r.ends r.count) c.self.invariant.0.rest

pub push_front-requires-clause-unlisted : goal.push_front-requires-clause-unlisted
push_front-requires-clause-unlisted g c =
    let r = c.self.inside in
    let xs = run r.links.items r.ends r.count in
    let mid = c.take_number.new.links.items in (
      xs,
      subst (λ l. IsRing l r.ends xs) (sym c.deref_mut.ensures.value) (c.in_ok-number.ensures.ring r.ends xs c.self.invariant.0.ring),
      new-free mid r.ends c.take_number.new.unused c.in_ok-number.number xs (c.in_ok-number.ensures.rest r.ends xs c.self.invariant.0.rest),
    )

pub overflow_add-self : goal.overflow_add-self
overflow_add-self g c =
    let r = c.self.inside in
    omega (arith, count-fits r.links.items r.ends r.unused r.count c.self.invariant.0)

pub invariant_of-self-2 : goal.invariant_of-self-2
invariant_of-self-2 g c =
    let r = c.self.inside in
    let mid = c.take_number.new.links in
    let new = c.push_front.new.links in
    let last = c.push_front.new.ends in
    let i = c.in_ok-number.number in
    let w : IsJoined r.links.items mid.items r.ends new last r.unused c.take_number.new.unused i =
    subst (λ l. IsJoined r.links.items l r.ends new last r.unused c.take_number.new.unused i) c.deref_mut.ensures.value (record {
      ring = λ xs h. subst (λ l. IsRing l r.ends xs) (sym c.deref_mut.ensures.value) (c.in_ok-number.ensures.ring r.ends xs h);
      rest = λ xs h.
          subst (λ l. HasSpare l r.ends c.take_number.new.unused (i ∷ xs)) (sym c.deref_mut.ensures.value)
          (c.in_ok-number.ensures.rest r.ends xs h);
      made = ap length c.deref_mut.ensures.value ∙ c.in_ok-number.ensures.made;
      short = rw c.deref_mut.ensures.value c.in_ok-number.ensures.short;
      pushed = c.push_front.ensures.ring;
      others = c.push_front.ensures.others;
      size = c.push_front.ensures.size;
    })
    in
    let e = with_items_is mid new (w.size ∙ sym mid.ok.0) in
    let joined = IsRecency-joined r.links.items mid.items new r.ends last r.unused c.take_number.new.unused r.count i c.self.invariant.0 w
    in (
      subst (λ l. IsRecency l last c.take_number.new.unused (r.count + 1)) (sym e) joined,
      omega (
        arith,
        c.self.invariant.1,
        c.in_ok-number.ensures.capacity,
        mid.ok.0,
        mid.ok.1,
        w.size,
        joined.rest.all,
        length-line (r.count + 1) (next_at new last) last.next,
        c.saturating_sub-self-inside.ensures,
      ),
    )

pub returns-clause-few : goal.returns-clause-few
returns-clause-few g c =
    let r = c.self.inside in
    let mid = c.take_number.new.links in
    let new = c.push_front.new.links in
    let last = c.push_front.new.ends in
    let i = c.in_ok-number.number in
    let w : IsJoined r.links.items mid.items r.ends new last r.unused c.take_number.new.unused i =
    subst (λ l. IsJoined r.links.items l r.ends new last r.unused c.take_number.new.unused i) c.deref_mut.ensures.value (record {
      ring = λ xs h. subst (λ l. IsRing l r.ends xs) (sym c.deref_mut.ensures.value) (c.in_ok-number.ensures.ring r.ends xs h);
      rest = λ xs h.
          subst (λ l. HasSpare l r.ends c.take_number.new.unused (i ∷ xs)) (sym c.deref_mut.ensures.value)
          (c.in_ok-number.ensures.rest r.ends xs h);
      made = ap length c.deref_mut.ensures.value ∙ c.in_ok-number.ensures.made;
      short = rw c.deref_mut.ensures.value c.in_ok-number.ensures.short;
      pushed = c.push_front.ensures.ring;
      others = c.push_front.ensures.others;
      size = c.push_front.ensures.size;
    })
    in
    let joined = IsRecency-joined r.links.items mid.items new r.ends last r.unused c.take_number.new.unused r.count i c.self.invariant.0 w
    in
    let e = with_items_is mid new (w.size ∙ sym mid.ok.0) in
    rw e (omega (arith, w.size, mid.ok.0, joined.rest.all, length-line (r.count + 1) (next_at new last) last.next))

pub returns-clause-new : goal.returns-clause-new
returns-clause-new g c =
    let r = c.self.inside in
    let mid = c.take_number.new.links in
    let new = c.push_front.new.links in
    let last = c.push_front.new.ends in
    let i = c.in_ok-number.number in
    let w : IsJoined r.links.items mid.items r.ends new last r.unused c.take_number.new.unused i =
    subst (λ l. IsJoined r.links.items l r.ends new last r.unused c.take_number.new.unused i) c.deref_mut.ensures.value (record {
      ring = λ xs h. subst (λ l. IsRing l r.ends xs) (sym c.deref_mut.ensures.value) (c.in_ok-number.ensures.ring r.ends xs h);
      rest = λ xs h.
          subst (λ l. HasSpare l r.ends c.take_number.new.unused (i ∷ xs)) (sym c.deref_mut.ensures.value)
          (c.in_ok-number.ensures.rest r.ends xs h);
      made = ap length c.deref_mut.ensures.value ∙ c.in_ok-number.ensures.made;
      short = rw c.deref_mut.ensures.value c.in_ok-number.ensures.short;
      pushed = c.push_front.ensures.ring;
      others = c.push_front.ensures.others;
      size = c.push_front.ensures.size;
    })
    in
    let e = with_items_is mid new (w.size ∙ sym mid.ok.0) in
    subst (IsFreshNumber i) c.self.view_is (joined-new r.links.items mid.items new r.ends last r.unused c.take_number.new.unused r.count i
    c.self.invariant.0 w r.reserved c.in_ok-number.ensures.next c.in_ok-number.ensures.dense)

pub returns-clause-joined : goal.returns-clause-joined
returns-clause-joined g c =
    let r = c.self.inside in
    let mid = c.take_number.new.links in
    let new = c.push_front.new.links in
    let last = c.push_front.new.ends in
    let i = c.in_ok-number.number in
    let w : IsJoined r.links.items mid.items r.ends new last r.unused c.take_number.new.unused i =
    subst (λ l. IsJoined r.links.items l r.ends new last r.unused c.take_number.new.unused i) c.deref_mut.ensures.value (record {
      ring = λ xs h. subst (λ l. IsRing l r.ends xs) (sym c.deref_mut.ensures.value) (c.in_ok-number.ensures.ring r.ends xs h);
      rest = λ xs h.
          subst (λ l. HasSpare l r.ends c.take_number.new.unused (i ∷ xs)) (sym c.deref_mut.ensures.value)
          (c.in_ok-number.ensures.rest r.ends xs h);
      made = ap length c.deref_mut.ensures.value ∙ c.in_ok-number.ensures.made;
      short = rw c.deref_mut.ensures.value c.in_ok-number.ensures.short;
      pushed = c.push_front.ensures.ring;
      others = c.push_front.ensures.others;
      size = c.push_front.ensures.size;
    })
    in
    let e = with_items_is mid new (w.size ∙ sym mid.ok.0) in
    rw c.saturating_sub-self-inside.ensures
    (ap (λ l. stored l last (r.count + 1) (r.reserved - 1)) e ∙ joined-is r.links.items mid.items new r.ends last r.unused
    c.take_number.new.unused r.count i c.self.invariant.0 w r.reserved ∙ ap (with_newest i) c.self.view_is)

pub returns-in_err-number-clause-errors : goal.returns-in_err-number-clause-errors
returns-in_err-number-clause-errors g c =
    let r = c.self.inside in
    let xs = run r.links.items r.ends r.count in
    let all = all-used r.links.items r.ends r.unused xs c.self.invariant.0.rest in
    let same : c.from_residual.result ≡ Err c.in_err-number.field-0.0 = search rules in
    rw same (rw (← c.self.view_is) (elim c.in_err-number.ensures.errors [
      | inl memory ↦ inl memory
      | inr none ↦ inr (none.0, all none.1 none.2)
    ]))

pub returns-in_err-number-clause-memory : goal.returns-in_err-number-clause-memory
returns-in_err-number-clause-memory g c = λ some is.
    let r = c.self.inside in
    let xs = run r.links.items r.ends r.count in
    let same : c.from_residual.result ≡ Err c.in_err-number.field-0.0 = search rules in
    let memory = c.take_number.ensures.memory (c.in_err-number.was ∙ sym same ∙ is) in
    let left : 0 < r.reserved = subst (λ (o : Order). 0 < o.reserved) (sym c.self.view_is) some in
    let all = none-spare r.links.items r.ends r.unused xs c.self.invariant.0.rest memory.0 c.self.invariant.0.short in
    absurd (omega (arith, left, c.self.invariant.1, memory.1, all, length-line r.count (next_at r.links.items r.ends) r.ends.next))
