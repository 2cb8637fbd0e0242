use Rattle.std.proofs.Common.{◌∙◌, ap, IfSome, subst}
use Rattle.atlas_entries.specs.Entries.{IsNumber, number_of}
use Rattle.atlas_entries.proofs.KeptEntries.{get-number_of, found-numbers}
use Rattle.atlas_entries.proofs.entries.Entries.find.Goals as goal

pub returns-clause-number : goal.returns-clause-number
returns-clause-number g c =
    let s = c.self.inside in
    let k = c.args.key.now in
    c.copied.ensures ∙ c.get.ensures.value ∙ get-number_of g.K.PartialEq.eq s.map s.recency s.items.items c.self.invariant.0 k ∙
    ap (number_of g.K.PartialEq.eq k) (ap (λ t. t.entries) c.self.view_is)

pub returns-clause-entry : goal.returns-clause-entry
returns-clause-entry g c =
    let s = c.self.inside in
    let k = c.args.key.now in
    subst (λ es. IfSome c.copied.result (λ n. IsNumber n es)) (ap (λ t. t.entries) c.self.view_is)
    (found-numbers g.K.PartialEq.eq s.map s.recency s.items.items c.self.invariant.0 k c.copied.result
    (c.copied.ensures ∙ c.get.ensures.value))
