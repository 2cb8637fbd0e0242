use Rattle.std.proofs.Common.{List, ap}
use Rattle.guillotiere.specs.declared.Rectangle.{Rectangle}
use Rattle.atlas_lines.specs.Machine.{ToolReply}
use Rattle.atlas_lines.specs.Replies.{reply_text}
use Rattle.atlas_lines.proofs.Holes.{same_holes}
use Rattle.atlas_lines.proofs.laws.one_list_of_holes.Goals as goal

pub returns-clause-list : goal.returns-clause-list
returns-clause-list c = same_holes

pub returns-clause-text : goal.returns-clause-text
returns-clause-text c state areas others sound a b = ap (λ (list : List Rectangle). reply_text (ToolReply.HoleLines list))
    (same_holes state areas others sound a b)
