use Rattle.std.proofs.Common.{◌/◌, map}
use Rattle.atlas_sheet.proofs.Powers.{FailsOutside}
use Rattle.atlas_sheet.proofs.search.try_shapes.Given as goal

abbrev pub invariant-loop-flat : goal.invariant-loop-flat
invariant-loop-flat g l = FailsOutside (map (λ t. t.way) l.trials) l.most l.spacing l.sprites l.sum (l.sum / 2) l.flat
