use Rattle.atlas_sheet.specs.Grouping.{IsSoFar, to_do}
use Rattle.atlas_sheet.proofs.groups.grouped.Given as goal

abbrev pub invariant-loop-so_far : goal.invariant-loop-so_far
invariant-loop-so_far g l = IsSoFar l.options l.sprites l.groups l.so_far

abbrev pub decreases-loop-so_far : goal.decreases-loop-so_far
decreases-loop-so_far g l = to_do l.sprites l.so_far.left.items l.so_far.kept.items
