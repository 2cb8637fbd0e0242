use Rattle.std.proofs.Common.{◌∙◌, ◌≡◌, ap, arith, sym}
use Rattle.std.specs.Prelude.{unwrap_or}
use Rattle.atlas_search.specs.Numbers.{front, no_slot}
use Rattle.atlas_search.proofs.Occurrences.{front-without}
use Rattle.atlas_entries.proofs.MarkLemmas.{first-left, front-or}
use Rattle.atlas_entries.proofs.entries.unmark.Goals as goal

pub returns-then-number-mark : goal.returns-then-number-mark
returns-then-number-mark g c = λ newer older was first.
    first ∙ sym (front-without c.args.number older (λ is. c.if-number-mark.true (sym (first ∙ is))))

pub returns : goal.returns
returns g c = λ newer older was first.
    let n = c.args.number in
    let same : n ≡ c.args.mark.now = c.if-number-mark.false in
    let below = c.prove_kept.ensures.made n c.requires in
    let w = first-left n newer older (same ∙ first) (λ is. omega (arith, is, below, c.prove_kept.ensures.few)) in
    c.unwrap_or.ensures ∙ ap (λ o. unwrap_or o no_slot) (c.older.ensures.next newer w.0 (was ∙ w.1)) ∙ sym (front-or w.0)
    ∙ sym (ap front w.2)
