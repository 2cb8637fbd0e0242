use Rattle.std.proofs.Common.{◌≡◌, take}
use Rattle.std.specs.List.{fold}
use Rattle.atlas_bench.specs.Checksums.{with_moved}
use Rattle.atlas_bench.proofs.answers.Answers.add_changes.Given as goal

abbrev pub invariant-loop-change : goal.invariant-loop-change
invariant-loop-change l =
    l.self ≡ record { calls = l.fn.self.calls; checksum = fold with_moved l.fn.self.checksum (take l.change-index l.changes) }
