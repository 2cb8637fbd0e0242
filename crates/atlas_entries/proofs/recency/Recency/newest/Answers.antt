use Rattle.std.proofs.Common.{◌∙◌, ◌<◌, ap, subst}
use Rattle.atlas_entries.specs.Orders.{Order, newest_of}
use Rattle.atlas_search.specs.Numbers.{occurs}
use Rattle.atlas_entries.proofs.SpareLemmas.{first-none, first-some, first-entry}
use Rattle.atlas_entries.proofs.recency.Recency.newest.Goals as goal

pub returns-then-ends-clause-first : goal.returns-then-ends-clause-first
returns-then-ends-clause-first g c =
    first-none _ _ _ c.self.invariant.0.short c.self.invariant.0.ring c.if-ends.true ∙
    ap (λ (o : Order). newest_of o.entries) c.self.view_is

pub returns-clause-first : goal.returns-clause-first
returns-clause-first g c =
    first-some _ _ _ c.self.invariant.0.ring c.if-ends.false ∙ ap (λ (o : Order). newest_of o.entries) c.self.view_is

pub returns-clause-entry : goal.returns-clause-entry
returns-clause-entry g c =
    subst (λ (o : Order). 0 < occurs c.self.inside.ends.next o.entries) c.self.view_is
    (first-entry _ _ _ c.self.invariant.0.ring c.if-ends.false)
