use Rattle.std.proofs.Common.{◌≡◌, length}
use Rattle.atlas_pack.specs.Folders.{folder_in}
use Rattle.atlas_pack.proofs.folders.folder_in.Given as goal

abbrev pub invariant-loop-last : goal.invariant-loop-last
invariant-loop-last l = folder_in l.name ≡ folder_in l.rest

abbrev pub decreases-loop-last : goal.decreases-loop-last
decreases-loop-last l = length l.rest
