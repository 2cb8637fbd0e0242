use Rattle.std.proofs.Common.{map, ◌≡◌, ℕ, false}
use Rattle.atlas_model.specs.Boxes.{Sides}
use Rattle.atlas_model.specs.Choice.{Options}
use Rattle.atlas_search.specs.Lookups.{AreAfter, AreBelow, AreListed, HasAdded, IsInRow}
use Rattle.atlas_search.specs.Masks.{has, IsMarked}
use Rattle.atlas_search.proofs.search.search_larger.Given as goal

abbrev pub invariant-loop-column : goal.invariant-loop-column
invariant-loop-column g l =
    ((k : ℕ) → IsMarked l.left k → IsMarked l.fn.columns k)
    × ((o : Options) (end : ℕ) (r : Sides) → AreListed o l.table.heads (map g.E.Entry.item l.entries)
    → ((k : ℕ) → IsMarked l.fn.columns k → AreBelow end l.row k) → ((k : ℕ) → IsMarked l.fn.columns k → AreAfter o r l.row k)
    → HasAdded o (map g.E.Entry.item l.entries) end r (λ i j. IsInRow l.row l.fn.columns i j × (has l.left j ≡ false)) l.fn.best l.best)

abbrev pub decreases-loop-column : goal.decreases-loop-column
decreases-loop-column g l = l.left.bits
