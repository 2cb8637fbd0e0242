use Rattle.guillotiere_c.proofs.LiveCounts.{listed}
use Rattle.guillotiere_c.proofs.atlas_lists.write_whole_list.Goals as goal

pub returns : goal.returns
returns c old new step changes_room failures_room exact =
    let told = c.write_list.ensures in
    listed old new _ _ _ _ _ step changes_room failures_room exact.changes exact.failures told.changes told.failures told.changes_count
    told.failures_count
