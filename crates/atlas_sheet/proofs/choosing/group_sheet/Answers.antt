use Rattle.atlas_sheet.proofs.choosing.group_sheet.Goals as goal

pub with_groups-requires-clause-first : goal.with_groups-requires-clause-first
with_groups-requires-clause-first g c =
    (c.args.group, c.requires.first, rw c.in-Some.is at c.in_ok-one.ensures.row)
