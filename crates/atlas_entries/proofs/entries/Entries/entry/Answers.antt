use Rattle.std.proofs.Common.{◌∙◌, ap, arith, sym}
use Rattle.std.proofs.lemmas.Option.{slice_get_read}
use Rattle.atlas_entries.specs.Entries.{entry_at}
use Rattle.atlas_entries.specs.Orders.{IsEntry}
use Rattle.atlas_entries.proofs.EntryLemmas.{entry_at-numbered}
use Rattle.atlas_entries.proofs.KeptEntries.{entry-is}
use Rattle.atlas_entries.proofs.entries.Entries.entry.Goals as goal

pub index-requires : goal.index-requires
index-requires g c =
    let s = c.self.inside in
    let l : IsEntry c.args.number s.recency = entry-is g.K.PartialEq.eq s.map s.recency s.items.items c.self.invariant.0
    c.args.self.now.entries (ap (λ t. t.entries) c.self.view_is) c.args.number c.requires in
    omega (arith, c.self.invariant.0.inside c.args.number l, s.items.ok.0)

pub returns : goal.returns
returns g c =
    let s = c.self.inside in
    let n = c.args.number in
    let l : IsEntry n s.recency = entry-is g.K.PartialEq.eq s.map s.recency s.items.items c.self.invariant.0 c.args.self.now.entries
    (ap (λ t. t.entries) c.self.view_is) n c.requires in
    ap (entry_at n) (sym (ap (λ t. t.entries) c.self.view_is)) ∙ entry_at-numbered s.items.items n s.recency.entries
    c.self.invariant.0.inside l ∙
    slice_get_read s.items.items _ n c.index.result.now s.items.ok.0 (omega (arith, c.self.invariant.0.inside n l, s.items.ok.0))
    c.index.ensures
