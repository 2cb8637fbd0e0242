use Rattle.std.proofs.Common.{map, ◌≡◌, ℕ, false}
use Rattle.atlas_model.specs.Boxes.{Sides}
use Rattle.atlas_model.specs.Pixels.{options_of}
use Rattle.atlas_search.specs.Lookups.{AreAfter, HasAdded, IsBeyond}
use Rattle.atlas_search.specs.Masks.{has, IsMarked}
use Rattle.atlas_search.proofs.search.search_rows.Given as goal

abbrev pub invariant-loop-row : goal.invariant-loop-row
invariant-loop-row g l =
    ((k : ℕ) → IsMarked l.left k → IsMarked l.fn.rows k)
    × ((r : Sides) → ((i : ℕ) → IsMarked l.fn.rows i → AreAfter (options_of l.options) r i l.first)
    → HasAdded (options_of l.options) (map g.E.Entry.item l.entries) l.end r
    (λ i j. IsBeyond l.fn.rows l.first l.end i j × (has l.left i ≡ false)) l.fn.best l.best)

abbrev pub decreases-loop-row : goal.decreases-loop-row
decreases-loop-row g l = l.left.bits
