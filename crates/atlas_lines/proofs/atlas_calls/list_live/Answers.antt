use Rattle.atlas_lines.proofs.Lists.{live_shown}
use Rattle.atlas_lines.proofs.atlas_calls.list_live.Goals as goal

pub returns-in-Ok : goal.returns-in-Ok
returns-in-Ok g c = live_shown _ _ c.in-Ok.ensures.list
