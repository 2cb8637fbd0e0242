-- Lists of slots that are heaps.
use Rattle.std.proofs.Common.{ℕ, ◌<◌, ◌≤◌, ◌≡◌, ◌≢◌, List, [], length, refl, sym, ap, subst, ◌∙◌, arith}
use Rattle.atlas_model.specs.Boxes.{box_sides}
use Rattle.atlas_model.specs.Pixels.{box_of}
use Rattle.atlas_search.specs.declared.link.Link.{Link}
use Rattle.atlas_search.specs.Forks.{IsRouted, IsSorted, cell_of}
use Rattle.atlas_search.specs.Heaps.{Heap, IsHeap, members, tag_of}
use Rattle.atlas_search.specs.Heaps.Heap.{None, Top}
use Rattle.atlas_search.specs.Items.{Item, item_at, item_sides}
use Rattle.atlas_search.specs.Numbers.{no_slot, occurs}
use Rattle.atlas_store.specs.declared.slots.Node.{Node}
use Rattle.atlas_store.specs.declared.slots.Ring.{Ring}
use Rattle.atlas_store.specs.Slots.{node_at, ring_at}
use Rattle.atlas_store.specs.Slots.Lists.{IsLinked, entries}
use Rattle.atlas_search.proofs.Occurrences.{same-self}
use Rattle.atlas_search.proofs.HeapLemmas.Frames.{above-frame}
use Rattle.atlas_search.proofs.SearchLemmas.Heaps.{heap-inside, listed-some, occurs-top}
use Rattle.atlas_search.proofs.SearchLemmas.Routes.{KeepsRoutes, routed-frame}
use Rattle.atlas_store.proofs.SlotLemmas.Entries.{entries-length, entry-is}

-- An entry has the same rectangle and the same links, and is a fork if it was one.
record IsSameEntry (e f : Item) : Type 0 where
  pub area : f.area ≡ e.area
  pub is_fork : f.is_fork ≡ e.is_fork
  pub up : f.up ≡ e.up
  pub left : f.left ≡ e.left
  pub right : f.right ≡ e.right

-- A heap stands where its entries have the same rectangles and links, and no entry is gone.
heap-kept : (es fs : List Item) (up top : ℕ) (h : Heap) → length es ≤ length fs
    → ((k : ℕ) → 0 < occurs k (members h) → IsSameEntry (item_at es k) (item_at fs k)) → IsHeap es up top h → IsHeap fs up top h
heap-kept es fs up top None long kept h = h
heap-kept es fs up top (Top at left right) long kept h =
    let on_left = λ (k : ℕ) (l : 0 < occurs k (members left)). kept k (omega (arith, l, occurs-top k at left right)) in
    let on_right = λ (k : ℕ) (l : 0 < occurs k (members right)). kept k (omega (arith, l, occurs-top k at left right)) in
    let here = kept at (omega (arith, same-self at, occurs-top at at left right)) in (
      (h.0.0, omega (arith, h.0.1, long), here.up ∙ h.0.2),
      (
        above-frame es fs at left (ap box_of here.area) (λ k l. ap box_of (on_left k l).area) h.1.0,
        above-frame es fs at right (ap box_of here.area) (λ k l. ap box_of (on_right k l).area) h.1.1,
      ),
      (
        subst (λ n. IsHeap fs at n left) (sym here.left) (heap-kept es fs at (item_at es at).left left long on_left h.2.0),
        subst (λ n. IsHeap fs at n right) (sym here.right) (heap-kept es fs at (item_at es at).right right long on_right h.2.1),
      ),
    )

-- Its sizes are in the same cells.
sorted-kept : (es fs : List Item) (h : Heap) → KeepsRoutes es fs h → IsSorted es h → IsSorted fs h
sorted-kept es fs h kept s i l =
    subst (λ r. IsRouted fs (cell_of (box_sides (box_of r))) h) (sym (kept i l).0)
    (routed-frame es fs (cell_of (item_sides (item_at es i))) h kept (s i l))

-- A list stands where its slots keep their rings and their rectangles, and no slot is gone.
pub IsLinked-kept : (ns ms : List Node) (rs ts : List Ring) (k : ℕ) (first : Link) (xs : List ℕ) → length rs ≤ length ts
    → ((j : ℕ) → 0 < occurs j xs → ring_at ts j ≡ ring_at rs j)
    → ((j : ℕ) → 0 < occurs j xs → (node_at ms j).area ≡ (node_at ns j).area) → IsLinked ns rs k first xs
    → IsLinked ms ts k first xs
unfolding IsLinked
IsLinked-kept ns ms rs ts k first xs l same areas h = (
  h.0,
  heap-kept (entries ns rs) (entries ms ts) (tag_of k) first.number h.0
      (omega (arith, l, entries-length ns rs, entries-length ms ts)) entry h.1,
  h.2,
  sorted-kept (entries ns rs) (entries ms ts) h.0 (λ i on. ((entry i on).area, (entry i on).is_fork)) h.3,
)
  where
    entry : (i : ℕ) → 0 < occurs i (members h.0) → IsSameEntry (item_at (entries ns rs) i) (item_at (entries ms ts) i)
    entry i on =
        let inside : i < length rs = omega (arith, heap-inside (entries ns rs) (tag_of k) first.number h.0 h.1 i on, entries-length ns rs)
        in
        let listed : 0 < occurs i xs = omega (arith, on, h.2 i) in
        let now = entry-is ms ts i (omega (arith, inside, l)) in
        let was = entry-is ns rs i inside in
        record {
          area = ap (λ (e : Item). e.area) now ∙ areas i listed ∙ sym (ap (λ (e : Item). e.area) was);
          is_fork = ap (λ (e : Item). e.is_fork) now ∙ ap (λ (r : Ring). r.is_fork) (same i listed)
              ∙ sym (ap (λ (e : Item). e.is_fork) was);
          up = ap (λ (e : Item). e.up) now ∙ ap (λ (r : Ring). r.up.number) (same i listed) ∙ sym (ap (λ (e : Item). e.up) was);
          left = ap (λ (e : Item). e.left) now ∙ ap (λ (r : Ring). r.left.number) (same i listed) ∙ sym (ap (λ (e : Item). e.left) was);
          right = ap (λ (e : Item). e.right) now ∙ ap (λ (r : Ring). r.right.number) (same i listed) ∙ sym (ap (λ (e : Item). e.right) was);
        }

-- A list with a slot begins with one.
pub linked-some : (ns : List Node) (rs : List Ring) (k : ℕ) (first : Link) (xs : List ℕ) → length rs ≤ no_slot
    → IsLinked ns rs k first xs → (i : ℕ) → 0 < occurs i xs → first.number ≢ no_slot
unfolding IsLinked
linked-some ns rs k first xs short h i on =
    listed-some (entries ns rs) k first.number xs i (omega (arith, short, entries-length ns rs)) h on

-- An empty list.
pub linked-none : (ns : List Node) (rs : List Ring) (k : ℕ) (first : Link) → first.number ≡ no_slot → IsLinked ns rs k first []
unfolding IsLinked
linked-none ns rs k first none = (None, none, λ i. refl, λ i l. tt)
