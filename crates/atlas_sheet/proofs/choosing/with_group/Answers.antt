use Rattle.std.proofs.Common.{subst, sym}
use Rattle.atlas_sheet.specs.Grouping.{IsClosed}
use Rattle.atlas_sheet.proofs.choosing.with_group.Goals as goal

pub returns-in-Some-clause-chosen : goal.returns-in-Some-clause-chosen
returns-in-Some-clause-chosen g c =
    (rw c.in-Some.is at c.in_ok-more.ensures.chosen) c.args.groups.now
    (c.in_ok-row.ensures.closed (subst (IsClosed c.args.groups.now) (sym c.deref.ensures.value) c.requires.chosen.closed))
