use Rattle.std.proofs.Common.{◌≡◌, ◌++◌, false, take, flat_map}
use Rattle.atlas_words.specs.Blocks.{IsGathered}
use Rattle.atlas_lines.specs.Replies.{live_line}
use Rattle.atlas_lines.proofs.listing.send_live.Given as goal

abbrev pub invariant-loop-allocation : goal.invariant-loop-allocation
invariant-loop-allocation g l = record {
  working : g.W.ToolOutput.has_failed l.output ≡ false;
  gathered : IsGathered
      (g.W.ToolOutput.contents l.fn.output) (g.W.ToolOutput.contents l.output) l.waiting
      (l.fn.waiting ++ flat_map live_line (take l.allocation-index l.found));
}
