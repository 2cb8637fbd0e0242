use Rattle.std.proofs.Common.{ap, ◌∙◌, sym}
use Rattle.atlas_entries.proofs.KeptEntries.{each-number, entry-is, numbers-are}
use Rattle.atlas_entries.proofs.entries.Entries.newer.Goals as goal

pub newer-requires : goal.newer-requires
newer-requires g c =
    let s = c.self.inside in
    entry-is g.K.PartialEq.eq s.map s.recency s.items.items c.self.invariant.0 c.args.self.now.entries (ap (λ t. t.entries) c.self.view_is)
    c.args.number c.requires

pub returns-clause-next : goal.returns-clause-next
returns-clause-next g c = λ newer older e.
    let s = c.self.inside in
    c.newer.ensures.next newer older (sym (numbers-are g.K.PartialEq.eq s.map s.recency s.items.items c.self.invariant.0
    c.args.self.now.entries (ap (λ t. t.entries) c.self.view_is)) ∙ e)

pub returns-clause-entry : goal.returns-clause-entry
returns-clause-entry g c =
    let s = c.self.inside in
    each-number g.K.PartialEq.eq s.map s.recency s.items.items c.self.invariant.0 c.args.self.now.entries
    (ap (λ t. t.entries) c.self.view_is) c.newer.result c.newer.ensures.entry
