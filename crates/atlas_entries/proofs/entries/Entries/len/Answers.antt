use Rattle.std.proofs.Common.{◌∙◌, ap, length, sym}
use Rattle.atlas_entries.proofs.EntryLemmas.{length-numbered}
use Rattle.atlas_entries.proofs.entries.Entries.len.Goals as goal

pub returns-clause-len : goal.returns-clause-len
returns-clause-len g c =
    let s = c.self.inside in
    c.len.ensures.len ∙ sym (length-numbered s.items.items s.recency.entries c.self.invariant.0.inside) ∙
    ap length (ap (λ t. t.entries) c.self.view_is)
