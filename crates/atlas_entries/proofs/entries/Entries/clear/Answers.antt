use Rattle.std.proofs.Common.{◌∙◌, ◌+◌, ap, length, sym}
use Rattle.atlas_entries.specs.Entries.{Table}
use Rattle.atlas_entries.proofs.EntryLemmas.{length-numbered}
use Rattle.atlas_entries.proofs.entries.Entries.clear.Goals as goal

pub returns-clause-reserved : goal.returns-clause-reserved
returns-clause-reserved g c =
    let s = c.self.inside in
    c.clear-2.ensures.reserved ∙
    ap (λ n. s.recency.reserved + n) (sym (length-numbered s.items.items s.recency.entries c.self.invariant.0.inside)) ∙
    ap (λ (t : Table g.row.K.Denot). t.reserved + length t.entries) c.self.view_is
