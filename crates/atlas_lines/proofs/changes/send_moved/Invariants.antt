use Rattle.std.proofs.Common.{◌≡◌, ◌++◌, false, take, flat_map}
use Rattle.atlas_words.specs.Blocks.{IsGathered}
use Rattle.atlas_lines.specs.Replies.{change_line}
use Rattle.atlas_lines.proofs.changes.send_moved.Given as goal

abbrev pub invariant-loop-change : goal.invariant-loop-change
invariant-loop-change g l = record {
  working : g.W.ToolOutput.has_failed l.output ≡ false;
  gathered : IsGathered
      (g.W.ToolOutput.contents l.fn.output) (g.W.ToolOutput.contents l.output) l.waiting
      (l.fn.waiting ++ flat_map change_line (take l.change-index l.changes));
}
