use Rattle.std.proofs.Common.{◌+◌, ◌*◌}
use Rattle.atlas_search.specs.Showing.{cell_with}
use Rattle.atlas_search.proofs.SearchLemmas.Cells.{breadth}
use Rattle.atlas_search.proofs.heap.sorting.+sort.Given as goal

abbrev pub decreases-sort_in : goal.decreases-sort_in
decreases-sort_in g l = 2 * breadth l.cell + 1

abbrev pub decreases-sort_below : goal.decreases-sort_below
decreases-sort_below g l = 2 * breadth (cell_with l.left l.right l.top l.bottom)
