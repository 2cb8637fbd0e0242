use Rattle.std.proofs.Common.{refl}
use Rattle.atlas_lines.proofs.Joins.{bytes_written, bytes_begun}
use Rattle.atlas_lines.proofs.run.Progress.take_read.Goals as goal

pub returns-then-not-flush-clause-continues : goal.returns-then-not-flush-clause-continues
returns-then-not-flush-clause-continues g c =
    bytes_begun c.args.self.now c.take_block.new.self c.args.block.now _ (g.W.ToolOutput.contents c.take_block.new.output) _
    c.args.waiting.now c.take_block.new.waiting
    c.in_default.ensures.continues (c.if-not-flush.ensures.beginning refl)

pub returns-clause-continues : goal.returns-clause-continues
returns-clause-continues g c =
    bytes_written c.args.self.now c.take_block.new.self c.args.block.now _ (g.W.ToolOutput.contents c.take_block.new.output) _
    c.args.waiting.now c.take_block.new.waiting
    c.in_default.ensures.continues (c.if-not-flush.ensures.written refl)
