use Rattle.atlas_lines.proofs.Readings.{same_command}
use Rattle.atlas_lines.proofs.laws.one_command.Goals as goal

pub returns : goal.returns
returns c = same_command
