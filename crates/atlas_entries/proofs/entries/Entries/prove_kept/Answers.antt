use Rattle.std.proofs.Common.{ap, subst, sym, eqb}
use Rattle.std.specs.List.{IsDistinct}
use Rattle.atlas_entries.specs.Entries.{keys, AreNumbered}
use Rattle.atlas_entries.proofs.EntryLemmas.{IsDistinct-from_once}
use Rattle.atlas_entries.proofs.KeptEntries.{IsDistinct-keys, labels, labels-below, numbers-are}
use Rattle.atlas_entries.proofs.entries.Entries.prove_kept.Goals as goal

pub returns-clause-numbers : goal.returns-clause-numbers
returns-clause-numbers g c =
    let s = c.self.inside in
    subst (IsDistinct eqb) (sym (numbers-are g.K.PartialEq.eq s.map s.recency s.items.items c.self.invariant.0 c.args.self.now.entries
    (ap (λ t. t.entries) c.self.view_is)))
    (IsDistinct-from_once s.recency.entries c.self.invariant.0.once)

pub returns-clause-keys : goal.returns-clause-keys
returns-clause-keys g c =
    let s = c.self.inside in
    subst (λ es. IsDistinct g.K.PartialEq.eq (keys es)) (ap (λ t. t.entries) c.self.view_is)
    (IsDistinct-keys g.K.PartialEq.eq s.map s.recency s.items.items c.self.invariant.0 g.met.K.Eq.laws)

pub returns-clause-own : goal.returns-clause-own
returns-clause-own g c =
    let s = c.self.inside in
    subst (λ es. AreNumbered es) (ap (λ t. t.entries) c.self.view_is)
    (labels g.K.PartialEq.eq s.map s.recency s.items.items c.self.invariant.0 s.recency.entries)

pub returns-clause-made : goal.returns-clause-made
returns-clause-made g c =
    let s = c.self.inside in
    rw (← c.self.view_is)
    (labels-below g.K.PartialEq.eq s.map s.recency s.items.items c.self.invariant.0 s.recency.made s.recency.entries
    c.prove_kept.ensures.made)
