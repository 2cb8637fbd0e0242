use Rattle.std.proofs.Common.{◌≡◌, vec_len}
use Rattle.atlas_bench.proofs.sizes.sizes.Given as goal

abbrev pub invariant-loop : goal.invariant-loop
invariant-loop l = vec_len l.sizes ≡ l.counter
