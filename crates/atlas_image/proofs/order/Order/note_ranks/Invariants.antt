use Rattle.std.proofs.Common.{◌≡◌}
use Rattle.atlas_image.specs.Ranks.{IsWalkedTo}
use Rattle.atlas_image.proofs.order.Order.note_ranks.Given as goal

abbrev pub invariant-loop-place : goal.invariant-loop-place
invariant-loop-place g l =
    record {
      walked : IsWalkedTo l.nodes l.fn.self.top l.fn.self.firsts.items l.queue.items l.self.ranks.items l.place;
      top : l.self.top ≡ l.fn.self.top;
      firsts : l.self.firsts.items ≡ l.fn.self.firsts.items;
    }
