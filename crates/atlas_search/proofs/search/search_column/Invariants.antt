use Rattle.std.proofs.Common.{map, ◌≡◌, ℕ, false}
use Rattle.atlas_model.specs.Boxes.{Sides}
use Rattle.atlas_model.specs.Choice.{Options}
use Rattle.atlas_search.specs.Lookups.{AreBelow, AreListed, HasAdded, IsInColumn}
use Rattle.atlas_search.specs.Masks.{has, IsMarked}
use Rattle.atlas_search.proofs.search.search_column.Given as goal

abbrev pub invariant-loop-row : goal.invariant-loop-row
invariant-loop-row g l =
    ((k : ℕ) → IsMarked l.left k → IsMarked l.fn.rows k)
    × ((o : Options) (end : ℕ) (r : Sides) → AreListed o l.table.heads (map g.E.Entry.item l.entries)
    → ((k : ℕ) → IsMarked l.fn.rows k → AreBelow end k l.column)
    → HasAdded o (map g.E.Entry.item l.entries) end r (λ i j. IsInColumn l.column l.fn.rows i j × (has l.left i ≡ false)) l.fn.best l.best)

abbrev pub decreases-loop-row : goal.decreases-loop-row
decreases-loop-row g l = l.left.bits
