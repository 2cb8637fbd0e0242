use Rattle.std.proofs.Common.{ℕ, ◌<◌}
use Rattle.atlas_search.specs.Masks.{IsMarked}
use Rattle.atlas_search.proofs.glance.has_beyond.Given as goal

abbrev pub invariant-loop-row : goal.invariant-loop-row
invariant-loop-row g l = (k : ℕ) → IsMarked l.left k → (l.own.row < k) × (k < 52)

abbrev pub decreases-loop-row : goal.decreases-loop-row
decreases-loop-row g l = l.left.bits
