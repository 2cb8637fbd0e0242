use Rattle.std.proofs.Common.{◌≡◌, map, take}
use Rattle.atlas_image.specs.Unused.{is_unused}
use Rattle.atlas_image.proofs.unused.marks_of.Given as goal

abbrev pub invariant-loop-member : goal.invariant-loop-member
invariant-loop-member g l = l.marks.items ≡ map is_unused (take l.member-index l.nodes)
