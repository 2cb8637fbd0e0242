use Rattle.std.proofs.Common.{◌+◌, ◌-◌, ◌<◌, ◌≤◌, is_none}
use Rattle.std.specs.List.{count_by}
use Rattle.atlas_sheet.specs.Grouping.{AreChosen}
use Rattle.atlas_sheet.proofs.GroupTakes.{AreSinglesTaken}
use Rattle.atlas_sheet.proofs.choosing.with_singles.Given as goal

abbrev pub invariant-loop-taken : goal.invariant-loop-taken
invariant-loop-taken g l = record {
  chosen : AreChosen l.options l.sprites l.groups l.chosen;
  below : l.taken < l.refused;
  inside : l.refused ≤ count_by is_none l.groups + 1;
  singles : AreSinglesTaken l.options l.sprites l.groups l.whole.items l.taken l.refused l.chosen.row.items;
}

abbrev pub decreases-loop-taken : goal.decreases-loop-taken
decreases-loop-taken g l = l.refused - l.taken
