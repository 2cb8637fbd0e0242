-- Lists as heaps: trees of entries, in which none comes before the one that it hangs below. No public clause cites this
-- module.
use Rattle.std.specs.Prelude.{ℕ, ◌+◌, ◌≡◌, ◌<◌, List, [], ◌∷◌, ◌++◌, length}
use Rattle.atlas_model.specs.Choice.{ComesFirst}
use Rattle.atlas_search.specs.Items.{Item, item_at, item_box}
use Rattle.atlas_search.specs.Numbers.{occurs, no_slot}

-- A tree of entries, by their numbers.
pub data Heap : Type 0 where
  None : Heap
  Top : (at : ℕ) (left right : Heap) → Heap

-- The entries of a heap.
abbrev pub members : Heap → List ℕ
members None = []
members (Top at left right) = at ∷ (members left ++ members right)

-- No entry of a heap comes before entry i.
abbrev pub IsAbove : List Item → ℕ → Heap → Type 0
IsAbove es i h = (j : ℕ) → 0 < occurs j (members h) → ComesFirst (item_box (item_at es i)) (item_box (item_at es j))

-- The heap h has this top, above which `up` stands.
abbrev pub IsHeap : List Item → (up top : ℕ) → Heap → Type 0
IsHeap es up top None = top ≡ no_slot
IsHeap es up top (Top i left right) =
    ((top ≡ i) × (i < length es) × ((item_at es i).up ≡ up)) × (IsAbove es i left × IsAbove es i right)
    × (IsHeap es i (item_at es i).left left × IsHeap es i (item_at es i).right right)

-- What stands above the top of list k: no entry, but a number that tells the list.
abbrev pub tag_of : ℕ → ℕ
tag_of k = 4261412864 + k
