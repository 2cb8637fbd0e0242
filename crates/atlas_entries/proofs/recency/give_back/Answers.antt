use Rattle.std.proofs.Common.{◌≡◌, ◌∙◌, arith, refl, sym}
use Rattle.atlas_search.specs.Numbers.{without}
use Rattle.atlas_entries.specs.Rings.{next_at, no_entry}
use Rattle.atlas_entries.proofs.RingLemmas.{at_once-here, at_once-there}
use Rattle.atlas_search.proofs.Occurrences.{ne-from_occurs, gone-from}
use Rattle.atlas_entries.proofs.SpareLemmas.{IsRing-relinked}
use Rattle.atlas_entries.proofs.recency.give_back.Goals as goal

pub returns-clause-ring : goal.returns-clause-ring
returns-clause-ring c = λ xs h l.
    let at = c.args.at in
    let m = h.inside at l in
    let ni : at ≡ no_entry → ⊥ = (λ q. omega (arith, q, m, c.requires.short)) in
    IsRing-relinked c.unlink.new.links c.set_next.new.links c.unlink.new.ends c.set_next.new.ends at (without at xs) c.set_next.ensures.size
    ni (gone-from at xs l (h.once at)) (λ k ne. c.set_next.ensures.next k ∙ at_once-there at c.args.unused
    (next_at c.unlink.new.links c.unlink.new.ends) k ne) c.set_next.ensures.previous (c.unlink.ensures.ring xs h l)

pub returns-clause-own : goal.returns-clause-own
returns-clause-own c =
    c.set_next.ensures.next c.args.at ∙ at_once-here c.args.at c.args.unused (next_at c.unlink.new.links c.unlink.new.ends) c.args.at refl

pub returns-clause-others : goal.returns-clause-others
returns-clause-others c = λ xs k h l m z.
    let at = c.args.at in
    let nk : k ≡ no_entry → ⊥ = (λ q. omega (arith, q, m, c.requires.short)) in
    c.set_next.ensures.next k ∙ at_once-there at c.args.unused (next_at c.unlink.new.links c.unlink.new.ends) k
    (λ q. ne-from_occurs k at xs z l (sym q)) ∙ c.unlink.ensures.others xs k h l nk z
