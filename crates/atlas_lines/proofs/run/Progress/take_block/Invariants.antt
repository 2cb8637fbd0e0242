use Rattle.std.proofs.Common.{◌≡◌, ◌+◌, ◌≤◌, ◌++◌, List, ℕ, length, take, false}
use Rattle.atlas_words.specs.Blocks.{IsGathered}
use Rattle.atlas_words.specs.Lines.{HasNoEnd}
use Rattle.atlas_lines.specs.Progress.{Advances}
use Rattle.atlas_lines.proofs.run.Progress.take_block.Given as goal

abbrev pub invariant-loop-byte : goal.invariant-loop-byte
invariant-loop-byte g l = record {
  working : g.W.ToolOutput.has_failed l.output ≡ false;
  no_end : HasNoEnd l.self.line;
  room : l.self.number + length l.self.line ≤ l.fn.self.number + length l.fn.self.line + l.byte-index;
  advances : (text : List ℕ) × Advances l.fn.self (take l.byte-index l.block) text l.self
      × IsGathered (g.W.ToolOutput.contents l.fn.output) (g.W.ToolOutput.contents l.output) l.waiting (l.fn.waiting ++ text);
}
