use Rattle.std.proofs.Common.{refl, length, flat_map}
use Rattle.atlas_lines.specs.Replies.{change_line, lost_line, counts_line}
use Rattle.atlas_words.proofs.Blocks.{parts_gathered, first_begins, second_begins, third_begins}
use Rattle.atlas_lines.proofs.changes.send_changes.Goals as goal

pub returns-then-not-send_moved-clause-beginning : goal.returns-then-not-send_moved-clause-beginning
returns-then-not-send_moved-clause-beginning g c failed =
    first_begins _ _ c.args.waiting.now (flat_map change_line c.args.changes.now) _ (c.if-not-send_moved.ensures.beginning refl)

pub returns-then-not-send_lost-clause-beginning : goal.returns-then-not-send_lost-clause-beginning
returns-then-not-send_lost-clause-beginning g c failed =
    second_begins _ (g.W.ToolOutput.contents c.send_moved.new.output) _ c.args.waiting.now c.send_moved.new.waiting
    (flat_map change_line c.args.changes.now) (flat_map lost_line c.args.failures.now) _
    (c.if-not-send_moved.ensures.gathered refl) (c.if-not-send_lost.ensures.beginning refl)

pub returns-clause-gathered : goal.returns-clause-gathered
returns-clause-gathered g c whole =
    parts_gathered _ (g.W.ToolOutput.contents c.send_moved.new.output) (g.W.ToolOutput.contents c.send_lost.new.output) _ c.args.waiting.now
    c.send_moved.new.waiting c.send_lost.new.waiting _
    (flat_map change_line c.args.changes.now) (flat_map lost_line c.args.failures.now)
    (counts_line (length c.args.changes.now) (length c.args.failures.now))
    (c.if-not-send_moved.ensures.gathered refl) (c.if-not-send_lost.ensures.gathered refl) (c.end_changes.ensures.gathered whole)

pub returns-clause-beginning : goal.returns-clause-beginning
returns-clause-beginning g c failed =
    third_begins _ (g.W.ToolOutput.contents c.send_moved.new.output) (g.W.ToolOutput.contents c.send_lost.new.output) _ c.args.waiting.now
    c.send_moved.new.waiting c.send_lost.new.waiting
    (flat_map change_line c.args.changes.now) (flat_map lost_line c.args.failures.now)
    (counts_line (length c.args.changes.now) (length c.args.failures.now))
    (c.if-not-send_moved.ensures.gathered refl) (c.if-not-send_lost.ensures.gathered refl) (c.end_changes.ensures.beginning failed)
