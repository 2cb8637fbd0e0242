-- What the calls that change heaps need, and what they leave. No public clause cites this module.
use Rattle.std.specs.Prelude.{ℕ, ◌+◌, ◌≡◌, ◌≢◌, ◌<◌, ◌≤◌, ◌⊎◌, ◌==◌, Bool, true, List, length, if◌then◌else◌}
use Rattle.atlas_search.specs.declared.cells.Cell.{Cell}
use Rattle.atlas_search.specs.Forks.{IsCell, IsIn, IsRouted, Reroutes, cell_of}
use Rattle.atlas_search.specs.Numbers.{occurs, no_slot, same}
use Rattle.atlas_search.specs.Rectangles.{IsSolid}
use Rattle.atlas_search.specs.Heaps.{Heap, IsHeap, members}
use Rattle.atlas_search.specs.Heaps.Heap.{Top}
use Rattle.atlas_search.specs.Items.{Item, forked, item_at, item_sides, linked}

-- Of the entries nothing changed but links, and which are forks.
pub record KeepsAreas (es fs : List Item) : Type 0 where
  pub long : length fs ≡ length es
  pub areas : (k : ℕ) → (item_at fs k).area ≡ (item_at es k).area
  pub frees : (k : ℕ) → (item_at fs k).is_free ≡ (item_at es k).is_free

-- Nor did which are forks.
pub record KeepsKinds (es fs : List Item) : Type 0 where
  pub long : length fs ≡ length es
  pub areas : (k : ℕ) → (item_at fs k).area ≡ (item_at es k).area
  pub frees : (k : ℕ) → (item_at fs k).is_free ≡ (item_at es k).is_free
  pub forks : (k : ℕ) → (item_at fs k).is_fork ≡ (item_at es k).is_fork

-- One entry has these links, and nothing else changed.
pub record IsRelinked (es fs : List Item) (at up left right : ℕ) : Type 0 where
  pub long : length fs ≡ length es
  pub here : item_at fs at ≡ linked (item_at es at) up left right
  pub others : (k : ℕ) → k ≢ at → item_at fs k ≡ item_at es k

-- One entry has these links, and is a fork or none; nothing else changed.
pub record IsPut (es fs : List Item) (at up left right : ℕ) (is_fork : Bool) : Type 0 where
  pub long : length fs ≡ length es
  pub here : item_at fs at ≡ forked (linked (item_at es at) up left right) is_fork
  pub others : (k : ℕ) → k ≢ at → item_at fs k ≡ item_at es k

-- Entry `less` hangs to the left below entry `above`, and what was there hangs to the right.
pub record IsHungLeft (es fs : List Item) (above less : ℕ) : Type 0 where
  pub long : length fs ≡ length es
  pub upper : item_at fs above ≡ linked (item_at es above) (item_at es above).up less (item_at es above).left
  pub lower : item_at fs less ≡ linked (item_at es less) above (item_at es less).left (item_at es less).right
  pub others : (k : ℕ) → k ≢ above → k ≢ less → item_at fs k ≡ item_at es k

-- A heap has each of its entries once, and all have exact rectangles.
pub record IsSoundHeap (es : List Item) (up top : ℕ) (h : Heap) : Type 0 where
  pub short : length es ≤ no_slot
  pub heap : IsHeap es up top h
  pub once : (k : ℕ) → occurs k (members h) ≤ 1
  pub exact : (k : ℕ) → 0 < occurs k (members h) → IsSolid (item_at es k).area

-- Two heaps that aren't empty have no entry in common, and all have exact rectangles.
pub record AreSeparate (es : List Item) (up one : ℕ) (g : Heap) (under other : ℕ) (h : Heap) : Type 0 where
  pub short : length es ≤ no_slot
  pub heap : IsHeap es up one g
  pub part : IsHeap es under other h
  pub some : one ≢ no_slot
  pub more : other ≢ no_slot
  pub once : (k : ℕ) → occurs k (members g) + occurs k (members h) ≤ 1
  pub exact : (k : ℕ) → 0 < occurs k (members g) + occurs k (members h) → IsSolid (item_at es k).area

-- Two heaps are one with this top, above which `up` stands; all other entries keep their links.
pub record IsMelded (es fs : List Item) (up top : ℕ) (g h : Heap) : Type 0 where
  pub both : Heap
  pub heap : IsHeap fs up top both
  pub has : (k : ℕ) → occurs k (members both) ≡ occurs k (members g) + occurs k (members h)
  pub others : (k : ℕ) → occurs k (members g) + occurs k (members h) ≡ 0 → item_at fs k ≡ item_at es k

-- Entry `at` can join a heap; `hint` is none or one of its entries.
pub record CanPush (es : List Item) (up top hint at : ℕ) (h : Heap) : Type 0 where
  pub sound : IsSoundHeap es up top h
  pub inside : at < length es
  pub solid : IsSolid (item_at es at).area
  pub apart : occurs at (members h) ≡ 0
  pub near : (hint ≡ no_slot) ⊎ (0 < occurs hint (members h))
  pub routed : IsRouted es (cell_of (item_sides (item_at es at))) h

-- Entry `at` has joined a heap, whose sizes have its cell; all other entries keep their links.
pub record HasPushed (es fs : List Item) (up top at : ℕ) (h : Heap) : Type 0 where
  pub grown : Heap
  pub heap : IsHeap fs up top grown
  pub has : (k : ℕ) → occurs k (members grown) ≡ same k at + occurs k (members h)
  pub others : (k : ℕ) → k ≢ at → occurs k (members h) ≡ 0 → item_at fs k ≡ item_at es k
  pub routed : IsRouted fs (cell_of (item_sides (item_at es at))) grown

-- Entry `at` can leave a heap, above which a tag stands.
pub record CanRemove (es : List Item) (tag top at : ℕ) (h : Heap) : Type 0 where
  pub sound : IsSoundHeap es tag top h
  pub tagged : length es ≤ tag
  pub member : 0 < occurs at (members h)

-- Entry `at` has left a heap, whose top is `rest` if it was `at`; all other entries keep their links.
pub record HasRemoved (es fs : List Item) (tag top rest at : ℕ) (h : Heap) : Type 0 where
  pub less : Heap
  pub heap : IsHeap fs tag (if at == top then rest else top) less
  pub has : (k : ℕ) → same k at + occurs k (members less) ≡ occurs k (members h)
  pub others : (k : ℕ) → occurs k (members h) ≡ 0 → item_at fs k ≡ item_at es k
  pub routed : (c : Cell) → IsRouted es c h → IsRouted fs c less

-- These heaps hang below entry `at`, and all have exact rectangles.
pub record ArePartsBelow (es : List Item) (at : ℕ) (left right : Heap) : Type 0 where
  pub short : length es ≤ no_slot
  pub inside : at < length es
  pub low : IsHeap es at (item_at es at).left left
  pub high : IsHeap es at (item_at es at).right right
  pub once : (k : ℕ) → same k at + (occurs k (members left) + occurs k (members right)) ≤ 1
  pub exact : (k : ℕ) → 0 < occurs k (members left) + occurs k (members right) → IsSolid (item_at es k).area

-- Entry `at` can be sorted into a heap with this top, of sizes of a cell.
pub record CanSort (es : List Item) (c : Cell) (top at : ℕ) (h : Heap) : Type 0 where
  pub short : length es ≤ no_slot
  pub cell : IsCell c
  pub under : ℕ
  pub heap : IsHeap es under top h
  pub once : (k : ℕ) → same k at + occurs k (members h) ≤ 1
  pub inside : at < length es
  pub exact : (k : ℕ) → 0 < same k at + occurs k (members h) → IsSolid (item_at es k).area
  pub routed : IsRouted es c h
  pub within : IsIn (item_sides (item_at es at)) c

-- It is sorted in; all other entries keep their links.
pub record HasSorted (es fs : List Item) (c : Cell) (up top at : ℕ) (h : Heap) : Type 0 where
  pub both : Heap
  pub heap : IsHeap fs up top both
  pub has : (k : ℕ) → occurs k (members both) ≡ same k at + occurs k (members h)
  pub others : (k : ℕ) → k ≢ at → occurs k (members h) ≡ 0 → item_at fs k ≡ item_at es k
  pub routed : IsRouted fs c both

-- The top of a heap is a fork now.
pub record IsForked (es fs : List Item) (c : Cell) (top at : ℕ) (h : Heap) : Type 0 where
  pub left : Heap
  pub right : Heap
  pub fork : (item_at fs top).is_fork ≡ true
  pub up : (item_at fs top).up ≡ (item_at es top).up
  pub can : CanSort fs c top at (Top top left right)
  pub has : (k : ℕ) → occurs k (members (Top top left right)) ≡ occurs k (members h)
  pub others : (k : ℕ) → occurs k (members h) ≡ 0 → item_at fs k ≡ item_at es k

-- These heaps, with tops x and y, hung below the fork `at`, whose links may be others by now; all have exact rectangles.
pub record AreHeapsOf (es : List Item) (at x y : ℕ) (left right : Heap) : Type 0 where
  pub short : length es ≤ no_slot
  pub fork : (item_at es at).is_fork ≡ true
  pub low : IsHeap es at x left
  pub high : IsHeap es at y right
  pub once : (k : ℕ) → same k at + (occurs k (members left) + occurs k (members right)) ≤ 1
  pub exact : (k : ℕ) → 0 < occurs k (members left) + occurs k (members right) → IsSolid (item_at es k).area

-- What hung below entry `at` is a heap, which hangs below `up`; all other entries keep their links.
pub record HasLeft (es fs : List Item) (up top at : ℕ) (left right : Heap) : Type 0 where
  pub both : Heap
  pub heap : IsHeap fs up top both
  pub has : (k : ℕ) → occurs k (members both) ≡ occurs k (members left) + occurs k (members right)
  pub others : (k : ℕ) → occurs k (members left) + occurs k (members right) ≡ 0 → item_at fs k ≡ item_at es k
  pub routes : Reroutes es fs (Top at left right) both
