use Rattle.std.proofs.Common.{ℕ, ◌≡◌, ◌≢◌, ◌<◌, ◌≤◌, length, slice_index_or}
use Rattle.atlas_search.proofs.table.set_head_in.Given as goal

abbrev pub invariant-loop-i : goal.invariant-loop-i
invariant-loop-i l =
    (length l.only ≡ 8)
    × ((n : ℕ) → n < l.i → n ≡ l.first.number → slice_index_or l.only n 0 ≡ l.number)
    × ((n : ℕ) → n < l.i → n ≢ l.first.number → slice_index_or l.fn.only n 0 ≡ l.number → slice_index_or l.only n 0 ≡ 2704)
    × ((n : ℕ) → n < l.i → n ≢ l.first.number → slice_index_or l.fn.only n 0 ≢ l.number
    → slice_index_or l.only n 0 ≡ slice_index_or l.fn.only n 0)
    × ((n : ℕ) → l.i ≤ n → slice_index_or l.only n 0 ≡ slice_index_or l.fn.only n 0)
