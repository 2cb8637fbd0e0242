-- What a search through a list needs. No public clause cites this module.
use Rattle.std.specs.Prelude.{ℕ, ◌≡◌, ◌<◌, ◌≤◌, List, length, true}
use Rattle.atlas_search.specs.declared.cells.Cell.{Cell}
use Rattle.atlas_search.specs.Forks.{IsCell, IsRouted, IsSorted}
use Rattle.atlas_search.specs.Heaps.{Heap, IsHeap, members}
use Rattle.atlas_search.specs.Heaps.Heap.{Top}
use Rattle.atlas_search.specs.Items.{Item, item_at}
use Rattle.atlas_search.specs.Numbers.{occurs}
use Rattle.atlas_search.specs.Rectangles.{IsSolid}

-- A heap without repetition begins with this top, and has sizes of this cell and exact rectangles alone.
pub record IsShowable (es : List Item) (cell : Cell) (top : ℕ) (h : Heap) : Type 0 where
  pub short : length es ≤ 4261412864
  pub up : ℕ
  pub heap : IsHeap es up top h
  pub once : (i : ℕ) → occurs i (members h) ≤ 1
  pub exact : (i : ℕ) → 0 < occurs i (members h) → IsSolid (item_at es i).area
  pub is_cell : IsCell cell
  pub routed : IsRouted es cell h

-- The same of a list, whose sizes have one cell.
pub record IsListShowable (es : List Item) (top : ℕ) (h : Heap) : Type 0 where
  pub short : length es ≤ 4261412864
  pub up : ℕ
  pub heap : IsHeap es up top h
  pub once : (i : ℕ) → occurs i (members h) ≤ 1
  pub exact : (i : ℕ) → 0 < occurs i (members h) → IsSolid (item_at es i).area
  pub sorted : IsSorted es h

-- The cell of these widths and heights.
abbrev pub cell_with : (left right top bottom : ℕ) → Cell
cell_with left right top bottom = record { left = left; right = right; top = top; bottom = bottom }

-- A fork, and the heaps that hang below it: with it they are such a heap.
pub record IsForkShowable (es : List Item) (cell : Cell) (fork : Item) (at : ℕ) (l r : Heap) : Type 0 where
  pub is : fork ≡ item_at es at
  pub is_fork : fork.is_fork ≡ true
  pub whole : IsShowable es cell at (Top at l r)
