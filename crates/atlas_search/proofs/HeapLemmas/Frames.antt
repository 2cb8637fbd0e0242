-- Heaps whose entries are all as before but for what their tops hang below.
use Rattle.std.proofs.Common.{◌≡◌, ◌≢◌, ℕ, ◌<◌, ◌≤◌, ◌⊎◌, List, length, refl, ap, sym, ◌∙◌, subst, inl, inr, arith}
use Rattle.std.proofs.lemmas.Bool.{cases_eq}
use Rattle.atlas_model.specs.Boxes.{Box}
use Rattle.atlas_model.specs.Choice.{ComesFirst}
use Rattle.atlas_search.specs.Heaps.{Heap, IsAbove, IsHeap, members}
use Rattle.atlas_search.specs.Heaps.Heap.{None, Top}
use Rattle.atlas_search.specs.Items.{Item, item_at, item_box, linked}
use Rattle.atlas_search.specs.Numbers.{occurs, same}
use Rattle.atlas_search.proofs.Occurrences.{same-self, same-ne}
use Rattle.atlas_search.proofs.SearchLemmas.Heaps.{occurs-top}

-- Which part an entry of a heap is in.
pub parts : (i at : ℕ) (left right : Heap) → 0 < occurs i (members (Top at left right)) → i ≢ at
    → (0 < occurs i (members left)) ⊎ (0 < occurs i (members right))
parts i at left right l ne = elim (cases_eq (occurs i (members left)) 0) [
  | inl z ↦ inr (omega (arith, l, occurs-top i at left right, same-ne i at ne, z))
  | inr more ↦ inl (omega (arith, more))
]

-- A heap whose entries are all as before is a heap.
pub above-frame : (es fs : List Item) (i : ℕ) (h : Heap) → item_box (item_at fs i) ≡ item_box (item_at es i)
    → ((k : ℕ) → 0 < occurs k (members h) → item_box (item_at fs k) ≡ item_box (item_at es k)) → IsAbove es i h → IsAbove fs i h
above-frame es fs i h here kept above j l =
    subst (λ (b : Box). ComesFirst b (item_box (item_at fs j))) (sym here)
    (subst (λ (b : Box). ComesFirst (item_box (item_at es i)) b) (sym (kept j l)) (above j l))

pub heap-longer : (es fs : List Item) (up top : ℕ) (h : Heap) → length es ≤ length fs
    → ((k : ℕ) → 0 < occurs k (members h) → item_at fs k ≡ item_at es k) → IsHeap es up top h → IsHeap fs up top h
heap-longer es fs up top None long kept h = h
heap-longer es fs up top (Top at left right) long kept h =
    let on_left = λ (k : ℕ) (l : 0 < occurs k (members left)). kept k (omega (arith, l, occurs-top k at left right)) in
    let on_right = λ (k : ℕ) (l : 0 < occurs k (members right)). kept k (omega (arith, l, occurs-top k at left right)) in
    let here : item_at fs at ≡ item_at es at = kept at (omega (arith, same-self at, occurs-top at at left right)) in (
      (h.0.0, omega (arith, h.0.1, long), ap (λ (e : Item). e.up) here ∙ h.0.2),
      (
        above-frame es fs at left (ap item_box here) (λ k l. ap item_box (on_left k l)) h.1.0,
        above-frame es fs at right (ap item_box here) (λ k l. ap item_box (on_right k l)) h.1.1,
      ),
      (
        subst (λ n. IsHeap fs at n left) (sym (ap (λ (e : Item). e.left) here))
            (heap-longer es fs at (item_at es at).left left long on_left h.2.0),
        subst (λ n. IsHeap fs at n right) (sym (ap (λ (e : Item). e.right) here))
            (heap-longer es fs at (item_at es at).right right long on_right h.2.1),
      ),
    )

pub heap-frame : (es fs : List Item) (up top : ℕ) (h : Heap) → length fs ≡ length es
    → ((k : ℕ) → 0 < occurs k (members h) → item_at fs k ≡ item_at es k) → IsHeap es up top h → IsHeap fs up top h
heap-frame es fs up top h long = heap-longer es fs up top h (omega (arith, long))

-- A heap hangs below another entry, or tag.
pub heap-moved : (es fs : List Item) (up up' at : ℕ) (left right : Heap) → length fs ≡ length es
    → IsHeap es up at (Top at left right) → ((k : ℕ) → occurs k (members (Top at left right)) ≤ 1)
    → item_at fs at ≡ linked (item_at es at) up' (item_at es at).left (item_at es at).right
    → ((k : ℕ) → 0 < occurs k (members (Top at left right)) → k ≢ at → item_at fs k ≡ item_at es k)
    → IsHeap fs up' at (Top at left right)
heap-moved es fs up up' at left right long h once here kept =
    let on_left = λ (k : ℕ) (l : 0 < occurs k (members left)).
    kept k (omega (arith, l, occurs-top k at left right))
    (λ e. omega (arith, l, occurs-top k at left right, once k, ap (same k) e, same-self k)) in
    let on_right = λ (k : ℕ) (l : 0 < occurs k (members right)).
    kept k (omega (arith, l, occurs-top k at left right))
    (λ e. omega (arith, l, occurs-top k at left right, once k, ap (same k) e, same-self k)) in (
      (refl, omega (arith, h.0.1, long), ap (λ (e : Item). e.up) here),
      (
        above-frame es fs at left (ap item_box here) (λ k l. ap item_box (on_left k l)) h.1.0,
        above-frame es fs at right (ap item_box here) (λ k l. ap item_box (on_right k l)) h.1.1,
      ),
      (
        subst (λ n. IsHeap fs at n left) (sym (ap (λ (e : Item). e.left) here))
            (heap-frame es fs at (item_at es at).left left long on_left h.2.0),
        subst (λ n. IsHeap fs at n right) (sym (ap (λ (e : Item). e.right) here))
            (heap-frame es fs at (item_at es at).right right long on_right h.2.1),
      ),
    )
