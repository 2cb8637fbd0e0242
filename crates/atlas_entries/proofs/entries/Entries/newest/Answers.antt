use Rattle.std.proofs.Common.{◌∙◌, ap, sym}
use Rattle.atlas_entries.specs.Orders.{newest_of}
use Rattle.atlas_entries.proofs.KeptEntries.{each-number, numbers-are}
use Rattle.atlas_entries.proofs.entries.Entries.newest.Goals as goal

pub returns-clause-first : goal.returns-clause-first
returns-clause-first g c =
    let s = c.self.inside in
    c.newest.ensures.first ∙ ap newest_of (sym (numbers-are g.K.PartialEq.eq s.map s.recency s.items.items c.self.invariant.0
    c.args.self.now.entries (ap (λ t. t.entries) c.self.view_is)))

pub returns-clause-entry : goal.returns-clause-entry
returns-clause-entry g c =
    let s = c.self.inside in
    each-number g.K.PartialEq.eq s.map s.recency s.items.items c.self.invariant.0 c.args.self.now.entries
    (ap (λ t. t.entries) c.self.view_is) c.newest.result c.newest.ensures.entry
