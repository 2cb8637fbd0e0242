use Rattle.std.proofs.Common.{rules}
use Rattle.atlas_lines.proofs.Joins.{line_continues, long_stops, byte_continues}
use Rattle.atlas_lines.proofs.run.Progress.take_byte.Goals as goal

pub returns-then-byte-eq10-clause-continues : goal.returns-then-byte-eq10-clause-continues
returns-then-byte-eq10-clause-continues g c =
    line_continues c.end_line.result c.args.self.now c.end_line.new.self c.args.byte _ _ c.args.waiting.now _ c.if-byte-eq10.true
    c.requires.line c.end_line.ensures.line

pub returns-then-len-eq-LINE-clause-continues : goal.returns-then-len-eq-LINE-clause-continues
returns-then-len-eq-LINE-clause-continues g c =
    long_stops c.end_badly.result c.args.self.now c.args.byte _ _ c.args.waiting.now c.if-byte-eq10.false c.requires.line (search rules)
    c.end_badly.ensures.line

pub returns-clause-continues : goal.returns-clause-continues
returns-clause-continues g c = byte_continues _ c.args.self.now c.args.byte c.push.new.self _ c.args.waiting.now c.self.view_is
    c.push.ensures
