use Rattle.std.proofs.Common.{arith}
use Rattle.atlas_image.proofs.ImageLemmas.Walking.{walk-begins, walk-ends, walk-full}
use Rattle.atlas_image.proofs.order.Order.note_ranks.Goals as goal

pub loop-place-init : goal.loop-place-init
loop-place-init g c =
    record {
      walked = walk-begins c.args.nodes.now c.args.self.now.top c.args.self.now.firsts.items c.args.queue.now.items
          c.enqueue.new.queue.items c.args.self.now.ranks.items c.enqueue.new.self.ranks.items c.requires.none c.requires.blank
          c.requires.long c.in_ok-enqueue.ensures.queued;
      top = c.enqueue.ensures.top;
      firsts = c.enqueue.ensures.firsts;
    }

pub returns-then-place-len-clause-ranked : goal.returns-then-place-len-clause-ranked
returns-then-place-len-clause-ranked g c =
    walk-ends c.args.nodes.now c.args.self.now.top c.args.self.now.firsts.items c.loop-place.queue.items
    c.loop-place.self.ranks.items c.loop-place.place c.loop-place.invariant.walked (omega arith)

pub returns-clause-ranked : goal.returns-clause-ranked
returns-clause-ranked g c =
    walk-full c.args.nodes.now c.args.self.now.top c.args.self.now.firsts.items c.loop-place.queue.items
    c.loop-place.self.ranks.items c.loop-place.place c.loop-place.invariant.walked (omega arith)
