use Rattle.std.proofs.Common.{◌≡◌, length}
use Rattle.atlas_image.specs.Ranks.{AreNoted}
use Rattle.atlas_image.proofs.order.Order.note_firsts.Given as goal

abbrev pub invariant-loop-number : goal.invariant-loop-number
invariant-loop-number g l =
    record {
      noted : AreNoted l.nodes l.self l.number;
      long : length l.self.firsts.items ≡ length l.nodes;
      ranks : l.self.ranks.items ≡ l.fn.self.ranks.items;
    }
