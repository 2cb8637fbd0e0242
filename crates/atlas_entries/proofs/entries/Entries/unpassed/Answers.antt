use Rattle.std.proofs.Common.{ap, ◌∙◌, refl, sym}
use Rattle.atlas_entries.specs.Orders.{oldest_of}
use Rattle.atlas_entries.proofs.KeptEntries.{each-number, entry-is, numbers-are}
use Rattle.atlas_entries.proofs.MarkLemmas.{marked, marked-number, unmarked}
use Rattle.atlas_entries.proofs.entries.Entries.unpassed.Goals as goal

pub returns-then-self-clause-next : goal.returns-then-self-clause-next
returns-then-self-clause-next g c =
    let s = c.self.inside in
    rw (← c.self.view_is) (unmarked _ c.oldest.result
    (c.oldest.ensures.last ∙ ap oldest_of (sym (numbers-are g.K.PartialEq.eq s.map s.recency s.items.items c.self.invariant.0 _ refl))))

pub returns-then-self-clause-entry : goal.returns-then-self-clause-entry
returns-then-self-clause-entry g c =
    let s = c.self.inside in
    each-number g.K.PartialEq.eq s.map s.recency s.items.items c.self.invariant.0 c.args.self.now.entries
    (ap (λ t. t.entries) c.self.view_is) c.oldest.result c.oldest.ensures.entry

pub newer-requires : goal.newer-requires
newer-requires g c =
    let s = c.self.inside in
    entry-is g.K.PartialEq.eq s.map s.recency s.items.items c.self.invariant.0 _ refl s.mark
    (marked-number s.mark _ c.self.invariant.2 c.if-self.false)

pub returns-clause-next : goal.returns-clause-next
returns-clause-next g c =
    let s = c.self.inside in
    rw (← c.self.view_is) (marked s.mark _ c.newer.result c.self.invariant.2 c.if-self.false
    (λ newer older is. c.newer.ensures.next newer older (sym (numbers-are g.K.PartialEq.eq s.map s.recency s.items.items c.self.invariant.0
    _ refl) ∙ is)))

pub returns-clause-entry : goal.returns-clause-entry
returns-clause-entry g c =
    let s = c.self.inside in
    each-number g.K.PartialEq.eq s.map s.recency s.items.items c.self.invariant.0 c.args.self.now.entries
    (ap (λ t. t.entries) c.self.view_is) c.newer.result c.newer.ensures.entry
