use Rattle.std.proofs.Common.{refl}
use Rattle.atlas_lines.proofs.Runs.{empty_size}
use Rattle.atlas_lines.proofs.tool.Tool.create_simple.Goals as goal

pub returns-then-is_empty : goal.returns-then-is_empty
returns-then-is_empty g c = (empty_size c.args.size (c.if-is_empty.ensures.0 refl), refl)
