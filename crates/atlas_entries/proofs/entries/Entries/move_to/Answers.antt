use Rattle.std.proofs.Common.{◌≡◌, ◌∙◌, Some, ap, arith, refl, slice_get, sym}
use Rattle.std.proofs.lemmas.Option.{slice_get_read}
use Rattle.atlas_entries.specs.Entries.{entry_at, moved}
use Rattle.atlas_entries.specs.Orders.{IsEntry}
use Rattle.atlas_entries.proofs.EntryLemmas.{entry_at-numbered}
use Rattle.atlas_entries.proofs.KeptEntries.{entry-is, kept-written, moved-is}
use Rattle.atlas_entries.proofs.MarkLemmas.{mark-placed}
use Rattle.atlas_entries.proofs.entries.Entries.move_to.Goals as goal

pub index_mut-entry-requires : goal.index_mut-entry-requires
index_mut-entry-requires g c =
    let s = c.self.inside in
    let l : IsEntry c.args.number s.recency = entry-is g.K.PartialEq.eq s.map s.recency s.items.items c.self.invariant.0
    c.args.self.now.entries (ap (λ t. t.entries) c.self.view_is) c.args.number c.requires.here in
    omega (arith, c.self.invariant.0.inside c.args.number l, s.items.ok.0)

pub invariant_of-self : goal.invariant_of-self
invariant_of-self g c =
    let s = c.self.inside in
    let n = c.args.number in
    let eq = g.K.PartialEq.eq in
    let l : IsEntry n s.recency = entry-is eq s.map s.recency s.items.items c.self.invariant.0 c.args.self.now.entries
    (ap (λ t. t.entries) c.self.view_is) n c.requires.here in
    let r = c.index_mut-entry.result.now in
    let at : slice_get s.items.items n ≡ Some r = slice_get_read s.items.items _ n r s.items.ok.0
    (omega (arith, c.self.invariant.0.inside n l, s.items.ok.0)) c.index_mut-entry.ensures.value in
    let found : entry_at n c.args.self.now.entries ≡ Some r = ap (λ t. entry_at n t.entries) (sym c.self.view_is) ∙
    entry_at-numbered s.items.items n s.recency.entries c.self.invariant.0.inside l ∙ at in
    let lies = rw found at c.requires.lies in (
      kept-written eq s.map s.recency s.items.items c.self.invariant.0 n r
          (record r { page = c.args.page; id = c.args.id; rectangle = c.args.rectangle }) l at refl refl,
      c.self.invariant.1,
      mark-placed eq s.map s.recency s.items.items c.self.invariant.0 s.mark c.self.invariant.2 n c.args.page c.args.id
          c.args.rectangle r l at lies,
    )

pub returns-clause-entries : goal.returns-clause-entries
returns-clause-entries g c =
    let s = c.self.inside in
    let n = c.args.number in
    let eq = g.K.PartialEq.eq in
    let l : IsEntry n s.recency = entry-is eq s.map s.recency s.items.items c.self.invariant.0 c.args.self.now.entries
    (ap (λ t. t.entries) c.self.view_is) n c.requires.here in
    let r = c.index_mut-entry.result.now in
    let at : slice_get s.items.items n ≡ Some r = slice_get_read s.items.items _ n r s.items.ok.0
    (omega (arith, c.self.invariant.0.inside n l, s.items.ok.0)) c.index_mut-entry.ensures.value in
    moved-is eq s.map s.recency s.items.items c.self.invariant.0 n c.args.page c.args.id c.args.rectangle r l at ∙
    ap (moved n c.args.page c.args.id c.args.rectangle) (ap (λ t. t.entries) c.self.view_is)

pub returns-clause-made : goal.returns-clause-made
returns-clause-made g c = ap (λ t. t.made) c.self.view_is

pub returns-clause-reserved : goal.returns-clause-reserved
returns-clause-reserved g c = ap (λ t. t.reserved) c.self.view_is
