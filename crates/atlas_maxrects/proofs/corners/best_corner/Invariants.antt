use Rattle.std.proofs.Common.{take}
use Rattle.atlas_maxrects.specs.Free.{IsBestCorner, sides_by}
use Rattle.atlas_maxrects.proofs.corners.best_corner.Given as goal

abbrev pub invariant-loop-one : goal.invariant-loop-one
invariant-loop-one l = IsBestCorner (take l.one-index l.free) (sides_by l.width l.height) l.best
