-- Lists that are routed, as an entry joins them or leaves.
use Rattle.std.proofs.Common.{◌≡◌, ℕ, ◌<◌, List, sym, ap, ◌∙◌, subst, arith}
use Rattle.atlas_search.specs.declared.cells.Cell.{Cell}
use Rattle.atlas_model.specs.declared.geometry.Rectangle.{Rectangle}
use Rattle.atlas_model.specs.Boxes.{box_sides}
use Rattle.atlas_model.specs.Choice.{Options}
use Rattle.atlas_model.specs.Pixels.{box_of}
use Rattle.atlas_search.specs.Bands.{list_of}
use Rattle.atlas_search.specs.Forks.{IsRouted, IsSorted, cell_of}
use Rattle.atlas_search.specs.Heaps.{Heap, members}
use Rattle.atlas_search.specs.Heaps.Heap.{None, Top}
use Rattle.atlas_search.specs.Items.{Item, item_at, item_sides}
use Rattle.atlas_search.specs.Numbers.{occurs}
use Rattle.atlas_search.specs.Rectangles.{IsSolid}
use Rattle.atlas_search.proofs.Occurrences.{same-self}
use Rattle.atlas_search.proofs.SearchLemmas.Heaps.{occurs-top}
use Rattle.atlas_search.proofs.SearchLemmas.Routes.{routed-frame}
use Rattle.atlas_search.proofs.SearchLemmas.SameCells.{cell-same}

-- Each entry of a heap has a size of this cell.
abbrev pub HasCell : List Item → Cell → Heap → Type 0
HasCell es c h = (i : ℕ) → 0 < occurs i (members h) → cell_of (item_sides (item_at es i)) ≡ c

pub sorted-by : (es : List Item) (c : Cell) (h : Heap) → HasCell es c h → IsRouted es c h → IsSorted es h
sorted-by es c h cells r i l = subst (λ (d : Cell). IsRouted es d h) (sym (cells i l)) r

pub routed-by : (es : List Item) (c : Cell) (h : Heap) → HasCell es c h → IsSorted es h → IsRouted es c h
routed-by es c None cells s = tt
routed-by es c (Top at left right) cells s =
    let l : 0 < occurs at (members (Top at left right)) = omega (arith, same-self at, occurs-top at at left right) in
    subst (λ (d : Cell). IsRouted es d (Top at left right)) (cells at l) (s at l)

-- Of its entries nothing changed.
pub sorted-frame : (es fs : List Item) (h : Heap) → ((i : ℕ) → 0 < occurs i (members h) → item_at fs i ≡ item_at es i)
    → IsSorted es h → IsSorted fs h
sorted-frame es fs h kept s i l =
    subst (λ (t : Item). IsRouted fs (cell_of (item_sides t)) h) (sym (kept i l))
    (routed-frame es fs (cell_of (item_sides (item_at es i))) h
    (λ k m. (ap (λ (t : Item). t.area) (kept k m), ap (λ (t : Item). t.is_fork) (kept k m))) (s i l))

-- An entry left it.
pub removed-sorted : (es fs : List Item) (h less : Heap) → ((c : Cell) → IsRouted es c h → IsRouted fs c less)
    → ((i : ℕ) → (item_at fs i).area ≡ (item_at es i).area) → ((i : ℕ) → 0 < occurs i (members less) → 0 < occurs i (members h))
    → IsSorted es h → IsSorted fs less
removed-sorted es fs h less routed areas were s i l =
    subst (λ (r : Rectangle). IsRouted fs (cell_of (box_sides (box_of r))) less) (sym (areas i))
    (routed (cell_of (item_sides (item_at es i))) (s i (were i l)))

-- The sizes of one list have one cell.
pub list-cells : (o : Options) (es : List Item) (k : ℕ) (h : Heap) (r : Rectangle) → IsSolid r → list_of o (box_sides (box_of r)) ≡ k
    → ((i : ℕ) → 0 < occurs i (members h) → IsSolid (item_at es i).area × (list_of o (item_sides (item_at es i)) ≡ k))
    → HasCell es (cell_of (box_sides (box_of r))) h
list-cells o es k h r solid own all i l =
    cell-same o (item_sides (item_at es i)) (box_sides (box_of r)) (omega (arith, (all i l).0)) (omega (arith, (all i l).0))
    (omega (arith, solid)) (omega (arith, solid)) ((all i l).1 ∙ sym own)
