use Rattle.std.proofs.Common.{map, take}
use Rattle.guillotiere.specs.Pixels.{sides_of}
use Rattle.atlas_sheet.specs.Packings.{NoWayPacks}
use Rattle.atlas_sheet.proofs.trials.try_size.Given as goal

abbrev pub invariant-loop-trial : goal.invariant-loop-trial
invariant-loop-trial g l = NoWayPacks (map (λ t. t.way) (take l.trial-index l.trials)) (sides_of l.size) l.spacing l.sprites
