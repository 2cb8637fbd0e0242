use Rattle.std.proofs.Common.{ℕ, ◌≢◌, ◌<◌, slice_index_or}
use Rattle.atlas_search.proofs.table.head_in.Given as goal

abbrev pub invariant-loop-i : goal.invariant-loop-i
invariant-loop-i l = (s : ℕ) → s < l.i → slice_index_or l.only s 0 ≢ l.number
