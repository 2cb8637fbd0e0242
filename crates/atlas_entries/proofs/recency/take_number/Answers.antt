use Rattle.std.proofs.Common.{◌≡◌, ◌∙◌, ◌<◌, sym, subst, length, inl, inr}
use Rattle.atlas_entries.specs.Rings.{HasSpare, IsRing}
use Rattle.atlas_entries.proofs.SpareLemmas.{IsRing-appended, HasSpare-appended, HasSpare-reused, next-read}
use Rattle.atlas_entries.proofs.recency.take_number.Goals as goal

pub returns-then-number-clause-rest : goal.returns-then-number-clause-rest
returns-then-number-clause-rest g c = λ ends xs h.
    let links = c.args.links.now.items in
    let u = c.args.unused.now in
    let inside : u < length links = elim c.requires.unused [ inl e ↦ absurd (c.if-number.true e) | inr m ↦ m ] in
    rw (next-read links ends c.index.result.now u c.if-number.true c.index.ensures inside)
    (HasSpare-reused links ends u xs c.if-number.true h)

pub returns-clause-ring : goal.returns-clause-ring
returns-clause-ring g c = λ ends xs h.
    subst (λ l. IsRing l ends xs) (sym c.in_ok-push.ensures.items) (IsRing-appended c.args.links.now.items ends _ xs h)

pub returns-clause-rest : goal.returns-clause-rest
returns-clause-rest g c = λ ends xs h.
    let links = c.args.links.now in
    let u = c.args.unused.now in
    let e : c.len-number.result ≡ length links.items = c.len-number.ensures ∙ links.ok.0 in
    let from = subst (λ v. HasSpare links.items ends v xs) c.if-number.false h in
    rw (c.in_ok-push.ensures.items, c.if-number.false, e) (HasSpare-appended links.items ends _ xs c.requires.short from)
