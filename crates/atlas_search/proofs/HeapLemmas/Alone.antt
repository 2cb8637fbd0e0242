-- An entry alone.
use Rattle.std.proofs.Common.{◌≡◌, ℕ, ◌<◌, List, length, refl, ap, arith}
use Rattle.atlas_search.specs.Heaps.{Heap, IsHeap, members}
use Rattle.atlas_search.specs.Heaps.Heap.{None, Top}
use Rattle.atlas_search.specs.Items.{Item, item_at, linked}
use Rattle.atlas_search.specs.Numbers.{occurs, same, no_slot}
use Rattle.atlas_search.proofs.SearchLemmas.Heaps.{occurs-top}

abbrev pub alone : ℕ → Heap
alone at = Top at None None

pub alone-has : (k at : ℕ) → occurs k (members (alone at)) ≡ same k at
alone-has k at = omega (arith, occurs-top k at None None)

-- An entry with nothing below it is a heap.
pub alone-is : (es : List Item) (e : Item) (up at : ℕ) → at < length es → item_at es at ≡ linked e up no_slot no_slot
    → IsHeap es up at (alone at)
alone-is es e up at inside is = (
  (refl, inside, ap (λ (t : Item). t.up) is),
  (λ j l. absurd (omega (arith, l)), λ j l. absurd (omega (arith, l))),
  (ap (λ (t : Item). t.left) is, ap (λ (t : Item). t.right) is),
)
