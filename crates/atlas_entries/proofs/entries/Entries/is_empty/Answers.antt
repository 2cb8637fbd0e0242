use Rattle.std.proofs.Common.{◌∙◌, ap, sym}
use Rattle.atlas_entries.specs.Entries.{numbers}
use Rattle.atlas_entries.specs.Tables.{numbered}
use Rattle.atlas_entries.proofs.KeptEntries.{numbers-are}
use Rattle.atlas_entries.proofs.entries.Entries.is_empty.Goals as goal

pub returns : goal.returns
returns g c =
    let s = c.self.inside in
    let same = numbers-are g.K.PartialEq.eq s.map s.recency s.items.items c.self.invariant.0 c.args.self.now.entries
    (ap (λ t. t.entries) c.self.view_is) in (
      λ t. sym (ap (λ t. t.entries) c.self.view_is) ∙ ap (numbered s.items.items) (c.is_empty.ensures.0 t),
      λ e. c.is_empty.ensures.1 (sym same ∙ ap numbers e),
    )
