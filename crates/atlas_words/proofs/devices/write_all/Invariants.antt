use Rattle.std.proofs.Common.{◌≡◌, ◌++◌, List, ℕ, false, length}
use Rattle.std.specs.Io.KnownBytes.{Appends}
use Rattle.atlas_words.proofs.devices.write_all.Given as goal

-- The first bytes went, and the rest is what is left.
abbrev pub invariant-loop-rest : goal.invariant-loop-rest
invariant-loop-rest g l =
    (g.W.ToolOutput.has_failed l.output ≡ false)
    × ((done : List ℕ) × (l.fn.bytes ≡ done ++ l.rest) × Appends (g.W.ToolOutput.contents l.fn.output) (g.W.ToolOutput.contents l.output)
    done)

abbrev pub decreases-loop-rest : goal.decreases-loop-rest
decreases-loop-rest g l = length l.rest
