use Rattle.std.proofs.Common.{arith}
use Rattle.atlas_search.proofs.marks.Marks.used.Goals as goal

pub returns-clause-only : goal.returns-clause-only
returns-clause-only c = grind arith
