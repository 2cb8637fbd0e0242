use Rattle.std.proofs.Common.{◌<◌, ◌∙◌, List, ap, sym, subst}
use Rattle.atlas_entries.specs.declared.recency.links.Link.{Link}
use Rattle.atlas_entries.specs.Orders.{Order}
use Rattle.atlas_search.specs.Numbers.{occurs}
use Rattle.atlas_entries.specs.Rings.{run, IsRing, next_at}
use Rattle.atlas_entries.proofs.SpareLemmas.{older-none, older-some, next-entry}
use Rattle.atlas_entries.proofs.recency.Recency.older.Goals as goal

pub returns-then-own-clause-next : goal.returns-then-own-clause-next
returns-then-own-clause-next g c = λ newer older e.
    let r = c.self.inside in
    let ring = subst (λ xs. IsRing r.links.items r.ends xs) (ap (λ (o : Order). o.entries) c.self.view_is ∙ e) c.self.invariant.0.ring in
    let at = sym (c.read_link-own.ensures.next ∙ ap (λ (l : List Link). next_at l r.ends c.args.number) c.deref.ensures.value) in
    older-none r.links.items r.ends c.args.number newer older c.self.invariant.0.short ring (at ∙ c.if-own.true)

pub returns-clause-next : goal.returns-clause-next
returns-clause-next g c = λ newer older e.
    let r = c.self.inside in
    let ring = subst (λ xs. IsRing r.links.items r.ends xs) (ap (λ (o : Order). o.entries) c.self.view_is ∙ e) c.self.invariant.0.ring in
    let at = c.read_link-own.ensures.next ∙ ap (λ (l : List Link). next_at l r.ends c.args.number) c.deref.ensures.value in
    rw at (older-some r.links.items r.ends c.args.number newer older ring (λ q. c.if-own.false (at ∙ q)))

pub returns-clause-entry : goal.returns-clause-entry
returns-clause-entry g c =
    let r = c.self.inside in
    let at = c.read_link-own.ensures.next ∙ ap (λ (l : List Link). next_at l r.ends c.args.number) c.deref.ensures.value in
    let l : 0 < occurs c.args.number (run r.links.items r.ends r.count) = subst (λ (o : Order). 0 < occurs c.args.number o.entries)
    (sym c.self.view_is) c.requires in
    rw at (subst (λ (o : Order). 0 < occurs (next_at r.links.items r.ends c.args.number) o.entries) c.self.view_is
    (next-entry r.links.items r.ends c.args.number _ c.self.invariant.0.ring l (λ q. c.if-own.false (at ∙ q))))
