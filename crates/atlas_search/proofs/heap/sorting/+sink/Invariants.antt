use Rattle.atlas_search.specs.Showing.{cell_with}
use Rattle.atlas_search.proofs.SearchLemmas.Cells.{breadth}
use Rattle.atlas_search.proofs.heap.sorting.+sink.Given as goal

abbrev pub decreases-sink : goal.decreases-sink
decreases-sink g l = breadth (cell_with l.left l.right l.top l.bottom)
