use Rattle.std.proofs.Common.{◌≡◌, ◌+◌, ◌*◌, ◌<◌, ◌≤◌, ℕ, true}
use Rattle.atlas_search.specs.Masks.{IsMarked}
use Rattle.atlas_search.specs.Tables.{is_used_at}
use Rattle.atlas_search.proofs.search.rows_with.Given as goal

abbrev pub invariant-loop-column : goal.invariant-loop-column
invariant-loop-column g l =
    (i j : ℕ) → i < 52 → l.fn.first ≤ j → j < l.column → is_used_at l.table.heads (52 * i + j) ≡ true → IsMarked l.rows i
