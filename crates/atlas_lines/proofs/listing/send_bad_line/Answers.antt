use Rattle.std.proofs.Common.{refl}
use Rattle.atlas_lines.specs.Replies.{bad_line_text}
use Rattle.atlas_words.proofs.Blocks.{gathered_begins}
use Rattle.atlas_lines.proofs.listing.send_bad_line.Goals as goal

pub returns-clause-beginning : goal.returns-clause-beginning
returns-clause-beginning g c failed =
    gathered_begins _ (g.W.ToolOutput.contents c.make_room.new.output) _ c.make_room.new.waiting c.args.waiting.now
    (bad_line_text c.args.number) c.push_bad_line.new.text
    (c.if-not-make_room.ensures.gathered refl) c.push_bad_line.ensures (c.flush.ensures.beginning failed)
