use Rattle.std.proofs.Common.{◌∙◌, ap, sym}
use Rattle.atlas_entries.specs.Orders.{oldest_of}
use Rattle.atlas_entries.proofs.KeptEntries.{each-number, numbers-are}
use Rattle.atlas_entries.proofs.entries.Entries.oldest.Goals as goal

pub returns-clause-last : goal.returns-clause-last
returns-clause-last g c =
    let s = c.self.inside in
    c.oldest.ensures.last ∙ ap oldest_of (sym (numbers-are g.K.PartialEq.eq s.map s.recency s.items.items c.self.invariant.0
    c.args.self.now.entries (ap (λ t. t.entries) c.self.view_is)))

pub returns-clause-entry : goal.returns-clause-entry
returns-clause-entry g c =
    let s = c.self.inside in
    each-number g.K.PartialEq.eq s.map s.recency s.items.items c.self.invariant.0 c.args.self.now.entries
    (ap (λ t. t.entries) c.self.view_is) c.oldest.result c.oldest.ensures.entry
