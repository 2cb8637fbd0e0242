use Rattle.std.proofs.Common.{◌∙◌, ◌<◌, ap, subst}
use Rattle.atlas_entries.specs.Orders.{Order, oldest_of}
use Rattle.atlas_search.specs.Numbers.{occurs}
use Rattle.atlas_entries.proofs.SpareLemmas.{last-none, last-some, last-entry}
use Rattle.atlas_entries.proofs.recency.Recency.oldest.Goals as goal

pub returns-then-ends-clause-last : goal.returns-then-ends-clause-last
returns-then-ends-clause-last g c =
    last-none _ _ _ c.self.invariant.0.short c.self.invariant.0.ring c.if-ends.true ∙ ap (λ (o : Order). oldest_of o.entries) c.self.view_is

pub returns-clause-last : goal.returns-clause-last
returns-clause-last g c =
    last-some _ _ _ c.self.invariant.0.ring c.if-ends.false ∙ ap (λ (o : Order). oldest_of o.entries) c.self.view_is

pub returns-clause-entry : goal.returns-clause-entry
returns-clause-entry g c =
    subst (λ (o : Order). 0 < occurs c.self.inside.ends.previous o.entries) c.self.view_is
    (last-entry _ _ _ c.self.invariant.0.ring c.if-ends.false)
