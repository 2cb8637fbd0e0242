use Rattle.atlas_sheet.specs.Grouping.{AreChosen}
use Rattle.atlas_sheet.proofs.GroupAsks.{AreAskedTo}
use Rattle.atlas_sheet.proofs.choosing.with_groups.Given as goal

abbrev pub invariant-loop-number : goal.invariant-loop-number
invariant-loop-number g l = record {
  chosen : AreChosen l.options l.sprites l.groups l.chosen;
  asked : AreAskedTo l.options l.sprites l.groups l.slots.items l.number l.asked.items l.chosen.row.items l.room;
}
