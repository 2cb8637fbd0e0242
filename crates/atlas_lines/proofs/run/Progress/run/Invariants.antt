use Rattle.std.proofs.Common.{◌≡◌, ◌+◌, ◌-◌, ◌^◌, ◌≤◌, length, [], false}
use Rattle.atlas_words.specs.Lines.{HasNoEnd}
use Rattle.atlas_lines.specs.Progress.{HasRun}
use Rattle.atlas_lines.proofs.run.Progress.run.Given as goal

abbrev pub invariant-loop-left : goal.invariant-loop-left
invariant-loop-left g l = record {
  reading : g.R.ToolInput.has_failed l.input ≡ false;
  working : g.W.ToolOutput.has_failed l.output ≡ false;
  waiting : l.waiting ≡ [];
  top : l.left ≤ 2 ^ 64 - 1;
  no_end : HasNoEnd l.self.line;
  short : length l.self.line ≤ 120;
  room : l.self.number + length l.self.line ≤ 2 ^ 64 - 1 - l.left;
  run : HasRun
      (g.R.ToolInput.remaining l.fn.input) (g.R.ToolInput.remaining l.input) (g.W.ToolOutput.contents l.fn.output)
      (g.W.ToolOutput.contents l.output) l.self (2 ^ 64 - 1 - l.left);
}

abbrev pub decreases-loop-left : goal.decreases-loop-left
decreases-loop-left g l = l.left
