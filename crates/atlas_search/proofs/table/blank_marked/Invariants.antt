use Rattle.std.proofs.Common.{ℕ, ◌<◌}
use Rattle.atlas_search.specs.Masks.{IsMarked}
use Rattle.atlas_search.proofs.SearchLemmas.BlankHeads.{AreBlanked}
use Rattle.atlas_search.proofs.table.blank_marked.Given as goal

abbrev pub invariant-loop-row : goal.invariant-loop-row
invariant-loop-row l = ((i : ℕ) → IsMarked l.left i → i < 52) × AreBlanked l.fn.heads l.heads l.left

abbrev pub decreases-loop-row : goal.decreases-loop-row
decreases-loop-row l = l.left.bits
