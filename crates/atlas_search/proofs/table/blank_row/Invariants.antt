use Rattle.std.proofs.Common.{ℕ}
use Rattle.atlas_search.specs.Masks.{IsMarked}
use Rattle.atlas_search.proofs.SearchLemmas.BlankHeads.{IsBlanked}
use Rattle.atlas_search.proofs.table.blank_row.Given as goal

abbrev pub invariant-loop-column : goal.invariant-loop-column
invariant-loop-column l =
    ((k : ℕ) → IsMarked l.left k → IsMarked l.fn.columns k) × IsBlanked l.fn.heads l.heads l.row l.fn.columns l.left

abbrev pub decreases-loop-column : goal.decreases-loop-column
decreases-loop-column l = l.left.bits
