use Rattle.std.proofs.Common.{◌≡◌, take}
use Rattle.std.specs.List.{fold}
use Rattle.atlas_bench.specs.Checksums.{with_grant}
use Rattle.atlas_bench.proofs.answers.Answers.add_grants.Given as goal

abbrev pub invariant-loop-allocation : goal.invariant-loop-allocation
invariant-loop-allocation l =
    l.self ≡ record { calls = l.fn.self.calls; checksum = fold with_grant l.fn.self.checksum (take l.allocation-index l.grants) }
