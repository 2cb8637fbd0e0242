use Rattle.atlas_sheet.specs.Grouping.{AreKept}
use Rattle.atlas_sheet.proofs.groups.kept_groups.Given as goal

abbrev pub invariant-loop-number : goal.invariant-loop-number
invariant-loop-number g l = AreKept l.options l.sprites l.groups l.kept.items
