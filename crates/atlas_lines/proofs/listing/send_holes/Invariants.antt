use Rattle.std.proofs.Common.{◌≡◌, ◌++◌, false, take, flat_map}
use Rattle.atlas_words.specs.Blocks.{IsGathered}
use Rattle.atlas_lines.specs.Replies.{hole_line}
use Rattle.atlas_lines.proofs.listing.send_holes.Given as goal

abbrev pub invariant-loop-area : goal.invariant-loop-area
invariant-loop-area g l = record {
  working : g.W.ToolOutput.has_failed l.output ≡ false;
  gathered : IsGathered
      (g.W.ToolOutput.contents l.fn.output) (g.W.ToolOutput.contents l.output) l.waiting
      (l.fn.waiting ++ flat_map hole_line (take l.area-index l.found));
}
