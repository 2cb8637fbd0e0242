use Rattle.std.proofs.Common.{arith, ◌∙◌}
use Rattle.atlas_entries.proofs.RingCalls.{IsPushed, IsRing-pushed, others-pushed, first-inside}
use Rattle.atlas_entries.proofs.recency.links.push_front.Goals as goal

pub set_previous-requires : goal.set_previous-requires
set_previous-requires c =
    rw (c.set_next.ensures.size, c.set_link.ensures.size) (first-inside c.args.links.now c.args.ends.now c.requires.unlisted.0
    c.requires.unlisted.1)

pub returns-clause-ring : goal.returns-clause-ring
returns-clause-ring c =
    let w : IsPushed c.args.links.now c.set_link.new.links c.set_next.new.links c.set_previous.new.links c.args.ends.now c.set_next.new.ends
    c.set_previous.new.ends c.args.at =
    record {
      next1 = c.set_link.ensures.next c.args.ends.now;
      previous1 = c.set_link.ensures.previous c.args.ends.now;
      next2 = c.set_next.ensures.next;
      previous2 = c.set_next.ensures.previous;
      next3 = c.set_previous.ensures.next;
      previous3 = c.set_previous.ensures.previous;
    } in
    IsRing-pushed _ _ _ _ _ _ _ c.args.at w (λ q. omega (arith, q, c.requires.inside, c.requires.short)) c.requires.short
    (c.set_previous.ensures.size ∙ c.set_next.ensures.size ∙ c.set_link.ensures.size) c.requires.inside

pub returns-clause-others : goal.returns-clause-others
returns-clause-others c =
    let w : IsPushed c.args.links.now c.set_link.new.links c.set_next.new.links c.set_previous.new.links c.args.ends.now c.set_next.new.ends
    c.set_previous.new.ends c.args.at =
    record {
      next1 = c.set_link.ensures.next c.args.ends.now;
      previous1 = c.set_link.ensures.previous c.args.ends.now;
      next2 = c.set_next.ensures.next;
      previous2 = c.set_next.ensures.previous;
      next3 = c.set_previous.ensures.next;
      previous3 = c.set_previous.ensures.previous;
    } in
    others-pushed _ _ _ _ _ _ _ c.args.at w (λ q. omega (arith, q, c.requires.inside, c.requires.short))
