use Rattle.std.proofs.Common.{◌≡◌, ◌∙◌, Some, ap, arith, slice_get, subst, sym, vec_capacity}
use Rattle.std.proofs.lemmas.Option.{slice_get_read}
use Rattle.atlas_entries.specs.Entries.{without_number, EndsBlank}
use Rattle.atlas_entries.specs.Orders.{IsEntry, Order}
use Rattle.atlas_entries.specs.Tables.{AreKept, HasMemory, numbered}
use Rattle.atlas_entries.proofs.EntryLemmas.{numbered-without}
use Rattle.atlas_entries.proofs.KeptEntries.{entry-is, kept-gone}
use Rattle.atlas_entries.proofs.MarkLemmas.{mark-gone}
use Rattle.atlas_entries.proofs.ReserveLemmas.{memory-gone, one-at-most}
use Rattle.atlas_entries.proofs.entries.Entries.remove.Goals as goal

pub index-requires : goal.index-requires
index-requires g c =
    let s = c.self.inside in
    let l : IsEntry c.args.number s.recency = entry-is g.K.PartialEq.eq s.map s.recency s.items.items c.self.invariant.0
    c.args.self.now.entries (ap (λ t. t.entries) c.self.view_is) c.args.number c.requires in
    omega (arith, c.self.invariant.0.inside c.args.number l, s.items.ok.0)

pub remove-requires : goal.remove-requires
remove-requires g c =
    let s = c.self.inside in
    entry-is g.K.PartialEq.eq s.map s.recency s.items.items c.self.invariant.0 c.args.self.now.entries (ap (λ t. t.entries) c.self.view_is)
    c.args.number c.requires

pub invariant_of-self : goal.invariant_of-self
invariant_of-self g c =
    let s = c.self.inside in
    let n = c.args.number in
    let eq = g.K.PartialEq.eq in
    let l : IsEntry n s.recency = entry-is eq s.map s.recency s.items.items c.self.invariant.0 c.args.self.now.entries
    (ap (λ t. t.entries) c.self.view_is) n c.requires in
    let r = c.index.result.now in
    let at : slice_get s.items.items n ≡ Some r = slice_get_read s.items.items _ n r s.items.ok.0
    (omega (arith, c.self.invariant.0.inside n l, s.items.ok.0)) c.index.ensures in (
      subst (λ o. AreKept eq c.remove-number.new.self o s.items.items) (sym c.remove.ensures)
          (kept-gone eq s.map s.recency s.items.items c.self.invariant.0 g.met.K.Eq.laws n r c.remove-number.new.self l at
          c.remove-number.ensures.updates.0),
      subst (λ o. HasMemory c.remove-number.new.self o (vec_capacity s.items)) (sym c.remove.ensures)
          (memory-gone s.map s.recency (vec_capacity s.items) c.self.invariant.1 n c.remove-number.new.self l c.remove-number.ensures.spare
          (omega (arith, c.remove-number.ensures.len, one-at-most c.remove-number.result))),
      subst (λ (o : Order). EndsBlank c.unmark.new.mark (numbered s.items.items o.entries)) (sym c.remove.ensures)
          (mark-gone eq s.map s.recency s.items.items c.self.invariant.0 s.mark c.self.invariant.2 n l c.unmark.new.mark c.unmark.ensures),
    )

pub unmark-requires : goal.unmark-requires
unmark-requires g c =
    let s = c.self.inside in
    entry-is g.K.PartialEq.eq s.map s.recency s.items.items c.self.invariant.0 c.args.self.now.entries (ap (λ t. t.entries) c.self.view_is)
    c.args.number c.requires

pub returns-clause-entries : goal.returns-clause-entries
returns-clause-entries g c =
    let s = c.self.inside in
    let n = c.args.number in
    ap (λ o. numbered s.items.items o.entries) c.remove.ensures ∙ numbered-without s.items.items n s.recency.entries
    c.self.invariant.0.inside ∙ ap (without_number n) (ap (λ t. t.entries) c.self.view_is)

pub returns-clause-made : goal.returns-clause-made
returns-clause-made g c = ap (λ o. o.made) c.remove.ensures ∙ ap (λ t. t.made) c.self.view_is

pub returns-clause-reserved : goal.returns-clause-reserved
returns-clause-reserved g c = ap (λ o. o.reserved) c.remove.ensures ∙ ap (λ t. t.reserved) c.self.view_is
