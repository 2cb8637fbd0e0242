-- Counts that end at 2^64 - 1.
use Rattle.std.specs.Prelude.{ℕ, ◌+◌, min}

abbrev pub one_more : ℕ → ℕ
one_more n = min (n + 1) 18446744073709551615
