use Rattle.std.proofs.Common.{◌+◌, ◌*◌, max}
use Rattle.atlas_search.specs.Showing.{cell_with}
use Rattle.atlas_search.proofs.SearchLemmas.Cells.{breadth}
use Rattle.atlas_search.proofs.search.showing.+show.Given as goal

abbrev pub decreases-show_halves : goal.decreases-show_halves
decreases-show_halves g l = 3 * max (breadth l.halves.low) (breadth l.halves.high) + 3

abbrev pub decreases-show_below : goal.decreases-show_below
decreases-show_below g l = 3 * breadth (cell_with l.left l.right l.top l.bottom) + 1

abbrev pub decreases-show_within : goal.decreases-show_within
decreases-show_within g l = 3 * breadth l.cell + 2
