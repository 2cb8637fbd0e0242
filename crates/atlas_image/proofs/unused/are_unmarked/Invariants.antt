use Rattle.std.proofs.Common.{ℕ, ◌<◌, ◌≡◌}
use Rattle.atlas_image.specs.Unused.{mark_count}
use Rattle.atlas_image.proofs.unused.are_unmarked.Given as goal

abbrev pub invariant-loop-mark : goal.invariant-loop-mark
invariant-loop-mark l = (i : ℕ) → i < l.mark-index → mark_count l.marks i ≡ 0
