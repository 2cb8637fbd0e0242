use Rattle.std.proofs.Common.{◌≡◌, ◌∙◌, Some, ap, arith, refl, set, slice_get, subst, sym, vec_capacity}
use Rattle.std.proofs.lemmas.Option.{slice_get_read}
use Rattle.atlas_entries.specs.Entries.{touched, EndsBlank}
use Rattle.atlas_entries.specs.Orders.{IsEntry, Order}
use Rattle.atlas_entries.specs.Tables.{AreKept, HasMemory, numbered}
use Rattle.atlas_entries.proofs.KeptEntries.{entry-is, kept-used, kept-written, touched-is}
use Rattle.atlas_entries.proofs.MarkLemmas.{mark-used}
use Rattle.atlas_entries.proofs.ReserveLemmas.{memory-used}
use Rattle.atlas_entries.proofs.entries.Entries.touch.Goals as goal

pub touch-requires : goal.touch-requires
touch-requires g c =
    let s = c.self.inside in
    entry-is g.K.PartialEq.eq s.map s.recency s.items.items c.self.invariant.0 c.args.self.now.entries (ap (λ t. t.entries) c.self.view_is)
    c.args.number c.requires

pub index_mut-entry-requires : goal.index_mut-entry-requires
index_mut-entry-requires g c =
    let s = c.self.inside in
    let l : IsEntry c.args.number s.recency = entry-is g.K.PartialEq.eq s.map s.recency s.items.items c.self.invariant.0
    c.args.self.now.entries (ap (λ t. t.entries) c.self.view_is) c.args.number c.requires in
    omega (arith, c.self.invariant.0.inside c.args.number l, s.items.ok.0)

pub invariant_of-self : goal.invariant_of-self
invariant_of-self g c =
    let s = c.self.inside in
    let n = c.args.number in
    let eq = g.K.PartialEq.eq in
    let l : IsEntry n s.recency = entry-is eq s.map s.recency s.items.items c.self.invariant.0 c.args.self.now.entries
    (ap (λ t. t.entries) c.self.view_is) n c.requires in
    let r = c.index_mut-entry.result.now in
    let at : slice_get s.items.items n ≡ Some r = slice_get_read s.items.items _ n r s.items.ok.0
    (omega (arith, c.self.invariant.0.inside n l, s.items.ok.0)) c.index_mut-entry.ensures.value in (
      subst (λ o. AreKept eq s.map o (set s.items.items n (record r { frame = c.args.frame }))) (sym c.touch.ensures)
          (kept-used eq s.map s.recency (set s.items.items n (record r { frame = c.args.frame }))
          (kept-written eq s.map s.recency s.items.items c.self.invariant.0 n r (record r { frame = c.args.frame }) l at refl refl) n
          l),
      subst (λ o. HasMemory s.map o (vec_capacity s.items)) (sym c.touch.ensures)
          (memory-used s.map s.recency (vec_capacity s.items) c.self.invariant.1 n l),
      subst (λ (o : Order). EndsBlank c.unmark.new.mark (numbered (set s.items.items n (record r { frame = c.args.frame })) o.entries))
          (sym c.touch.ensures)
          (mark-used eq s.map s.recency s.items.items c.self.invariant.0 s.mark c.self.invariant.2 n l c.unmark.new.mark c.unmark.ensures
          c.args.frame r at),
    )

pub unmark-requires : goal.unmark-requires
unmark-requires g c =
    let s = c.self.inside in
    entry-is g.K.PartialEq.eq s.map s.recency s.items.items c.self.invariant.0 c.args.self.now.entries (ap (λ t. t.entries) c.self.view_is)
    c.args.number c.requires

pub returns-clause-entries : goal.returns-clause-entries
returns-clause-entries g c =
    let s = c.self.inside in
    let n = c.args.number in
    let eq = g.K.PartialEq.eq in
    let l : IsEntry n s.recency = entry-is eq s.map s.recency s.items.items c.self.invariant.0 c.args.self.now.entries
    (ap (λ t. t.entries) c.self.view_is) n c.requires in
    let r = c.index_mut-entry.result.now in
    let at : slice_get s.items.items n ≡ Some r = slice_get_read s.items.items _ n r s.items.ok.0
    (omega (arith, c.self.invariant.0.inside n l, s.items.ok.0)) c.index_mut-entry.ensures.value in
    ap (λ o. numbered (set s.items.items n (record r { frame = c.args.frame })) o.entries) c.touch.ensures ∙
    touched-is eq s.map s.recency s.items.items c.self.invariant.0 n c.args.frame r l at ∙
    ap (touched n c.args.frame) (ap (λ t. t.entries) c.self.view_is)

pub returns-clause-made : goal.returns-clause-made
returns-clause-made g c = ap (λ o. o.made) c.touch.ensures ∙ ap (λ t. t.made) c.self.view_is

pub returns-clause-reserved : goal.returns-clause-reserved
returns-clause-reserved g c = ap (λ o. o.reserved) c.touch.ensures ∙ ap (λ t. t.reserved) c.self.view_is
