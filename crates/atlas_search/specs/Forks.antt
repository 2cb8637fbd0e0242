-- Lists of several sizes: a heap of entries of one size, or one whose top is a fork, with one half of the sizes to its left and
-- the other to its right. No public clause cites this module.
use Rattle.std.specs.Prelude.{ℕ, ◌+◌, ◌-◌, ◌*◌, ◌/◌, ◌≡◌, ◌<◌, ◌≤◌, ◌==◌, ◌⊎◌, ◌&&◌, ◌||◌, Bool, true, false, List, min}
use Rattle.std.specs.Prelude.{nat_lt, not, if◌then◌else◌}
use Rattle.atlas_search.specs.declared.cells.Cell.{Cell}
use Rattle.atlas_model.specs.Boxes.{Sides}
use Rattle.atlas_search.specs.Heaps.{Heap, IsHeap, members, tag_of}
use Rattle.atlas_search.specs.Heaps.Heap.{None, Top}
use Rattle.atlas_search.specs.Items.{Item, item_at, item_sides}
use Rattle.atlas_search.specs.Numbers.{occurs}

-- The first side with the step of a side, and the first one after them.
unfoldable pub first_of : ℕ → ℕ
first_of n =
    if nat_lt n 16 then n
    else if nat_lt n 64 then n / 2 * 2
    else if nat_lt n 128 then n / 8 * 8
    else if nat_lt n 256 then n / 64 * 64
    else 256

unfoldable pub end_of : ℕ → ℕ
end_of n =
    if nat_lt n 16 then n + 1
    else if nat_lt n 64 then n / 2 * 2 + 2
    else if nat_lt n 128 then n / 8 * 8 + 8
    else if nat_lt n 256 then n / 64 * 64 + 64
    else 2147483648

-- The sizes with both sides in the steps of these.
abbrev pub cell_of : Sides → Cell
cell_of s =
    record { left = first_of s.width; right = end_of s.width; top = first_of s.height; bottom = end_of s.height }

-- A cell has a size, with sides above 0 that an `i32` can hold.
pub record IsCell (c : Cell) : Type 0 where
  pub left : 0 < c.left
  pub right : c.right ≤ 2147483648
  pub wide : c.left < c.right
  pub top : 0 < c.top
  pub bottom : c.bottom ≤ 2147483648
  pub high : c.top < c.bottom

-- A size of a cell.
pub record IsIn (s : Sides) (c : Cell) : Type 0 where
  pub left : c.left ≤ s.width
  pub right : s.width < c.right
  pub top : c.top ≤ s.height
  pub bottom : s.height < c.bottom

-- A size is before the end of the widths, or before that of the heights.
abbrev pub is_before_end : (is_wide : Bool) → Sides → Cell → Bool
is_before_end true s c = nat_lt s.width c.right
is_before_end false s c = nat_lt s.height c.bottom

-- Both sides of a size, and so much more, are before the first ones.
abbrev pub is_beyond : Sides → (more : ℕ) → Cell → Bool
is_beyond s more c = nat_lt (s.width + more) c.left && nat_lt (s.height + more) c.top

-- A cell has more than one size.
abbrev pub IsSplit : Cell → Type 0
IsSplit c = (1 < c.right - c.left) ⊎ (1 < c.bottom - c.top)

-- Sides are divided in the middle, but not beyond twice the first.
abbrev pub middle : (first end : ℕ) → ℕ
middle first end = min (first + (end - first) / 2) (2 * first)

-- Whether a cell is divided by width: a side that has two values is divided first, and else the longer one.
unfoldable pub is_cut_wide : Cell → Bool
is_cut_wide c =
    (c.right - c.left == 2) || (nat_lt (c.bottom - c.top) (c.right - c.left + 1) && not (c.bottom - c.top == 2))

-- The halves of a cell that is divided by width, or by height.
abbrev pub low_by : Bool → Cell → Cell
low_by true c = record c { right = middle c.left c.right }
low_by false c = record c { bottom = middle c.top c.bottom }

abbrev pub high_by : Bool → Cell → Cell
high_by true c = record c { left = middle c.left c.right }
high_by false c = record c { top = middle c.top c.bottom }

abbrev pub low : Cell → Cell
low c = low_by (is_cut_wide c) c

abbrev pub high : Cell → Cell
high c = high_by (is_cut_wide c) c

-- These are the halves of a cell.
abbrev pub HasHalves : (c l h : Cell) → Type 0
HasHalves c l h = (l ≡ low c) × (h ≡ high c)

-- The low half, or the high one.
abbrev pub half : Bool → Cell → Cell
half true c = low c
half false c = high c

-- All entries of a heap have this size, and none is a fork.
abbrev pub IsAlike : List Item → Sides → Heap → Type 0
IsAlike es s h = (j : ℕ) → 0 < occurs j (members h)
    → (item_sides (item_at es j) ≡ s) × ((item_at es j).is_fork ≡ false)

-- A heap has sizes of a cell. Below a fork the cell's halves hang, below any other entry those of its own size alone.
abbrev pub IsRouted : List Item → Cell → Heap → Type 0
IsRouted es c None = Unit {0}
IsRouted es c (Top i left right) =
    IsIn (item_sides (item_at es i)) c
    × ((item_at es i).is_fork ≡ true → IsSplit c × IsRouted es (low c) left × IsRouted es (high c) right)
    × ((item_at es i).is_fork ≡ false
    → IsAlike es (item_sides (item_at es i)) left × IsAlike es (item_sides (item_at es i)) right)

-- Where one heap has sizes of a cell, or of one size without forks, so has another one.
pub record Reroutes (es fs : List Item) (g h : Heap) : Type 0 where
  pub routed : (c : Cell) → IsRouted es c g → IsRouted fs c h
  pub alike : (s : Sides) → IsAlike es s g → IsAlike fs s h

-- A list is routed: each of its sizes has the same cell.
abbrev pub IsSorted : List Item → Heap → Type 0
IsSorted es h = (i : ℕ) → 0 < occurs i (members h) → IsRouted es (cell_of (item_sides (item_at es i))) h

-- List k, whose first is `head`, has the entries xs in some order.
abbrev pub IsListed : List Item → (k head : ℕ) → List ℕ → Type 0
IsListed es k head xs =
    (h : Heap) × IsHeap es (tag_of k) head h × ((i : ℕ) → occurs i (members h) ≡ occurs i xs) × IsSorted es h
