use Rattle.std.proofs.Common.{ℕ, ◌<◌, List, length}
use Rattle.atlas_image.specs.Unused.{IsMarkedLine}
use Rattle.atlas_image.proofs.ImageLemmas.UnusedLines.{IsStillMarked, IsTakenTo}
use Rattle.atlas_search.specs.Numbers.{no_slot}
use Rattle.atlas_image.proofs.unused.take_marks.Given as goal

abbrev pub invariant-loop-step : goal.invariant-loop-step
invariant-loop-step l =
    record {
      sound : (xs : List ℕ) × IsTakenTo l.nodes l.fn.marks l.marks l.fn.first.number xs l.at.number;
      complete : length l.nodes < no_slot → (zs : List ℕ) → IsMarkedLine l.nodes l.fn.marks l.fn.first.number zs
          → (ys : List ℕ) × IsStillMarked l.nodes l.fn.marks l.marks zs ys l.at.number l._step;
    }
