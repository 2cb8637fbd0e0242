use Rattle.std.proofs.Common.{◌∙◌}
use Rattle.atlas_entries.proofs.RingCalls.{unlinked-by, IsRing-unlinked, others-unlinked, neighbours-inside}
use Rattle.atlas_entries.proofs.recency.links.unlink.Goals as goal

pub own_link-own-requires-clause-inside : goal.own_link-own-requires-clause-inside
own_link-own-requires-clause-inside c = c.requires.listed.1.inside c.args.at c.requires.listed.2

pub set_next-requires : goal.set_next-requires
set_next-requires c =
    rw (c.own_link-own.ensures.previous c.args.ends.now) (neighbours-inside c.args.links.now c.args.ends.now c.args.at c.requires.listed).0

pub set_previous-requires : goal.set_previous-requires
set_previous-requires c =
    rw ((c.own_link-own.ensures.next c.args.ends.now), c.set_next.ensures.size)
    (neighbours-inside c.args.links.now c.args.ends.now c.args.at c.requires.listed).1

pub returns-clause-ring : goal.returns-clause-ring
returns-clause-ring c =
    let w = unlinked-by c.args.links.now c.set_next.new.links c.set_previous.new.links c.args.ends.now c.set_next.new.ends
    c.set_previous.new.ends c.args.at _ _ (c.own_link-own.ensures.previous c.args.ends.now)
    (c.own_link-own.ensures.next c.args.ends.now) c.set_next.ensures.next c.set_next.ensures.previous c.set_previous.ensures.next
    c.set_previous.ensures.previous in
    IsRing-unlinked c.args.links.now c.args.ends.now c.set_previous.new.links c.set_previous.new.ends c.requires.short
    (c.set_previous.ensures.size ∙ c.set_next.ensures.size) c.args.at w

pub returns-clause-others : goal.returns-clause-others
returns-clause-others c =
    let w = unlinked-by c.args.links.now c.set_next.new.links c.set_previous.new.links c.args.ends.now c.set_next.new.ends
    c.set_previous.new.ends c.args.at _ _ (c.own_link-own.ensures.previous c.args.ends.now)
    (c.own_link-own.ensures.next c.args.ends.now) c.set_next.ensures.next c.set_next.ensures.previous c.set_previous.ensures.next
    c.set_previous.ensures.previous in
    others-unlinked c.args.links.now c.args.ends.now c.set_previous.new.links c.set_previous.new.ends c.requires.short
    (c.set_previous.ensures.size ∙ c.set_next.ensures.size) c.args.at w
