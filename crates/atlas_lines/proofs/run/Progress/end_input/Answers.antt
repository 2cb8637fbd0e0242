use Rattle.std.proofs.Common.{inr, refl}
use Rattle.atlas_lines.proofs.Joins.{line_written, line_begun}
use Rattle.atlas_lines.proofs.run.Progress.end_input.Goals as goal

pub returns-then-not-flush-clause-line : goal.returns-then-not-flush-clause-line
returns-then-not-flush-clause-line g c =
    inr (
      refl,
      line_begun c.args.self.now c.end_line.new.self _ (g.W.ToolOutput.contents c.end_line.new.output) _ c.args.waiting.now
          c.end_line.new.waiting c.in_default.ensures.line
          (c.if-not-flush.ensures.beginning refl),
    )

pub returns-clause-line : goal.returns-clause-line
returns-clause-line g c =
    line_written c.args.self.now c.end_line.new.self _ (g.W.ToolOutput.contents c.end_line.new.output) _ c.args.waiting.now
    c.end_line.new.waiting c.in_default.ensures.line
    (c.if-not-flush.ensures.written refl)
