use Rattle.atlas_lines.proofs.Readings.{same_lines, some_lines}
use Rattle.atlas_lines.proofs.laws.one_reading.Goals as goal

pub returns-clause-some : goal.returns-clause-some
returns-clause-some c = some_lines

pub returns-clause-only : goal.returns-clause-only
returns-clause-only c = same_lines
