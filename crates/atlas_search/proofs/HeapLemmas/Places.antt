-- Where an entry stands in a heap, and what may hang below it in place of what does.
use Rattle.std.proofs.Common.{◌≡◌, ℕ, ◌+◌, ◌<◌, ◌≤◌, List, length, ap, sym, ◌∙◌, subst, inl, inr, arith}
use Rattle.std.proofs.lemmas.Bool.{cases_eq}
use Rattle.atlas_model.specs.Choice.{ComesFirst}
use Rattle.atlas_model.proofs.ChoiceLemmas.PickExistence.{first-then}
use Rattle.atlas_search.specs.Numbers.{occurs, same}
use Rattle.atlas_search.proofs.Occurrences.{same-self, same-ne}
use Rattle.atlas_search.specs.Forks.{Reroutes}
use Rattle.atlas_search.specs.Heaps.{Heap, IsAbove, IsHeap, members}
use Rattle.atlas_search.specs.Heaps.Heap.{None, Top}
use Rattle.atlas_search.specs.Items.{Item, item_at, item_box}
use Rattle.atlas_search.proofs.HeapLemmas.Frames.{above-frame, heap-frame, parts}
use Rattle.atlas_search.proofs.SearchLemmas.Heaps.{occurs-top}
use Rattle.atlas_search.proofs.SearchLemmas.Routes.{reroutes-same, reroutes-top}

-- Entry x hangs where it did, and these two heaps hang below it; entries that `others` counts keep all.
pub record IsRehung (es fs : List Item) (x : ℕ) (others : ℕ → ℕ) (left right : Heap) : Type 0 where
  pub long : length fs ≡ length es
  pub boxes : (k : ℕ) → item_box (item_at fs k) ≡ item_box (item_at es k)
  pub kept : (k : ℕ) → 0 < others k → item_at fs k ≡ item_at es k
  pub up : (item_at fs x).up ≡ (item_at es x).up
  pub above_left : IsAbove es x left
  pub above_right : IsAbove es x right
  pub low : IsHeap fs x (item_at fs x).left left
  pub high : IsHeap fs x (item_at fs x).right right

-- A heap with this top, with entry x, what hangs below that, and the others.
pub record IsWith (es : List Item) (up top x : ℕ) (others : ℕ → ℕ) (left right : Heap) : Type 0 where
  pub it : Heap
  pub heap : IsHeap es up top it
  pub counts : (k : ℕ) → occurs k (members it) ≡ same k x + (occurs k (members left) + occurs k (members right)) + others k

-- Entry x stands in a heap: what hangs below it, and how often others stand in it.
pub record IsPlaced (es : List Item) (up top : ℕ) (h : Heap) (x : ℕ) : Type 0 where
  pub left : Heap
  pub right : Heap
  pub others : ℕ → ℕ
  pub inside : x < length es
  pub above_left : IsAbove es x left
  pub above_right : IsAbove es x right
  pub low : IsHeap es x (item_at es x).left left
  pub high : IsHeap es x (item_at es x).right right
  pub counts : (k : ℕ) → occurs k (members h) ≡ same k x + (occurs k (members left) + occurs k (members right)) + others k
  pub put : (fs : List Item) (l r : Heap) → IsRehung es fs x others l r → IsWith fs up top x others l r
  pub routes : (fs : List Item) (l r : Heap) (new : IsRehung es fs x others l r) → Reroutes es fs (Top x left right) (Top x l r)
      → Reroutes es fs h (put fs l r new).it

-- The top stands in its heap.
pub at-top : (es : List Item) (up top at : ℕ) (left right : Heap) → IsHeap es up top (Top at left right)
    → IsPlaced es up top (Top at left right) at
at-top es up top at left right h = record {
  left = left;
  right = right;
  others = λ k. 0;
  inside = h.0.1;
  above_left = h.1.0;
  above_right = h.1.1;
  low = h.2.0;
  high = h.2.1;
  counts = λ k. omega (arith, occurs-top k at left right);
  put = λ fs l r new. record {
    it = Top at l r;
    heap = (
      (h.0.0, omega (arith, h.0.1, new.long), new.up ∙ h.0.2),
      (
        above-frame es fs at l (new.boxes at) (λ k m. new.boxes k) new.above_left,
        above-frame es fs at r (new.boxes at) (λ k m. new.boxes k) new.above_right,
      ),
      (new.low, new.high),
    );
    counts = λ k. omega (arith, occurs-top k at l r);
  };
  routes = λ fs l r new re. re;
}

-- Entries below x come after what x comes after.
pub above-with : (es : List Item) (i x : ℕ) (old left right new : Heap) (others : ℕ → ℕ) → IsAbove es i old
    → ((k : ℕ) → 0 < others k → 0 < occurs k (members old)) → 0 < occurs x (members old)
    → IsAbove es x left → IsAbove es x right
    → ((k : ℕ) → occurs k (members new) ≡ same k x + (occurs k (members left) + occurs k (members right)) + others k)
    → IsAbove es i new
above-with es i x old left right new others above among here on_left on_right counts j l =
    let past = λ (f : ComesFirst (item_box (item_at es x)) (item_box (item_at es j))).
    first-then (item_box (item_at es i)) (item_box (item_at es x)) (item_box (item_at es j)) (above x here) f in
    elim (cases_eq (others j) 0) [
      | inr more ↦ above j (among j (omega (arith, more)))
      | inl none ↦ elim (cases_eq j x) [
        | inl e ↦ subst (λ n. ComesFirst (item_box (item_at es i)) (item_box (item_at es n))) (sym e) (above x here)
        | inr ne ↦ elim (cases_eq (occurs j (members left)) 0) [
          | inl z ↦ past (on_right j (omega (arith, l, counts j, none, z, same-ne j x ne)))
          | inr some ↦ past (on_left j (omega (arith, some)))
        ]
      ]
    ]

-- What is known of a heap is known of one below.
rehung-less : (es fs : List Item) (x : ℕ) (others more : ℕ → ℕ) (l r : Heap) → ((k : ℕ) → more k ≤ others k)
    → IsRehung es fs x others l r → IsRehung es fs x more l r
rehung-less es fs x others more l r less new = record {
  long = new.long;
  boxes = new.boxes;
  kept = λ k m. new.kept k (omega (arith, m, less k));
  up = new.up;
  above_left = new.above_left;
  above_right = new.above_right;
  low = new.low;
  high = new.high;
}

pub in-left : (es : List Item) (up top at : ℕ) (left right : Heap) → IsHeap es up top (Top at left right)
    → (x : ℕ) → IsPlaced es at (item_at es at).left left x → IsPlaced es up top (Top at left right) x
in-left es up top at left right h x p = record {
  left = p.left;
  right = p.right;
  others = λ k. same k at + occurs k (members right) + p.others k;
  inside = p.inside;
  above_left = p.above_left;
  above_right = p.above_right;
  low = p.low;
  high = p.high;
  counts = λ k. omega (arith, occurs-top k at left right, p.counts k);
  put = λ fs l r new.
      let w = p.put fs l r (rehung-less es fs x (λ k. same k at + occurs k (members right) + p.others k) p.others l r (λ k. omega arith)
      new) in
      let here : item_at fs at ≡ item_at es at = new.kept at (omega (arith, same-self at)) in
      record {
        it = Top at w.it right;
        heap = (
          (h.0.0, omega (arith, h.0.1, new.long), ap (λ (e : Item). e.up) here ∙ h.0.2),
          (
            above-frame es fs at w.it (new.boxes at) (λ k m. new.boxes k)
                (above-with es at x left l r w.it p.others h.1.0 (λ k m. omega (arith, m, p.counts k))
                (omega (arith, p.counts x, same-self x)) new.above_left new.above_right w.counts),
            above-frame es fs at right (new.boxes at) (λ k m. new.boxes k) h.1.1,
          ),
          (
            subst (λ n. IsHeap fs at n w.it) (sym (ap (λ (e : Item). e.left) here)) w.heap,
            subst (λ n. IsHeap fs at n right) (sym (ap (λ (e : Item). e.right) here))
                (heap-frame es fs at (item_at es at).right right new.long (λ k m. new.kept k (omega (arith, m))) h.2.1),
          ),
        );
        counts = λ k. omega (arith, occurs-top k at w.it right, w.counts k);
      };
  routes = λ fs l r new re.
      let here : item_at fs at ≡ item_at es at = new.kept at (omega (arith, same-self at)) in
      reroutes-top es fs at left right (p.put fs l r (rehung-less es fs x (λ k. same k at + occurs k (members right) + p.others k) p.others
      l r (λ k. omega arith) new)).it
      right (ap (λ (e : Item). e.area) here) (ap (λ (e : Item). e.is_fork) here)
      (p.routes fs l r (rehung-less es fs x (λ k. same k at + occurs k (members right) + p.others k) p.others l r (λ k. omega arith) new)
      re)
      (reroutes-same es fs right (λ k m. new.kept k (omega (arith, m))));
}

pub in-right : (es : List Item) (up top at : ℕ) (left right : Heap) → IsHeap es up top (Top at left right)
    → (x : ℕ) → IsPlaced es at (item_at es at).right right x → IsPlaced es up top (Top at left right) x
in-right es up top at left right h x p = record {
  left = p.left;
  right = p.right;
  others = λ k. same k at + occurs k (members left) + p.others k;
  inside = p.inside;
  above_left = p.above_left;
  above_right = p.above_right;
  low = p.low;
  high = p.high;
  counts = λ k. omega (arith, occurs-top k at left right, p.counts k);
  put = λ fs l r new.
      let w = p.put fs l r (rehung-less es fs x (λ k. same k at + occurs k (members left) + p.others k) p.others l r (λ k. omega arith) new)
      in
      let here : item_at fs at ≡ item_at es at = new.kept at (omega (arith, same-self at)) in
      record {
        it = Top at left w.it;
        heap = (
          (h.0.0, omega (arith, h.0.1, new.long), ap (λ (e : Item). e.up) here ∙ h.0.2),
          (
            above-frame es fs at left (new.boxes at) (λ k m. new.boxes k) h.1.0,
            above-frame es fs at w.it (new.boxes at) (λ k m. new.boxes k)
                (above-with es at x right l r w.it p.others h.1.1 (λ k m. omega (arith, m, p.counts k))
                (omega (arith, p.counts x, same-self x)) new.above_left new.above_right w.counts),
          ),
          (
            subst (λ n. IsHeap fs at n left) (sym (ap (λ (e : Item). e.left) here))
                (heap-frame es fs at (item_at es at).left left new.long (λ k m. new.kept k (omega (arith, m))) h.2.0),
            subst (λ n. IsHeap fs at n w.it) (sym (ap (λ (e : Item). e.right) here)) w.heap,
          ),
        );
        counts = λ k. omega (arith, occurs-top k at left w.it, w.counts k);
      };
  routes = λ fs l r new re.
      let here : item_at fs at ≡ item_at es at = new.kept at (omega (arith, same-self at)) in
      reroutes-top es fs at left right left
      (p.put fs l r (rehung-less es fs x (λ k. same k at + occurs k (members left) + p.others k) p.others l r (λ k. omega arith) new)).it
      (ap (λ (e : Item). e.area) here) (ap (λ (e : Item). e.is_fork) here)
      (reroutes-same es fs left (λ k m. new.kept k (omega (arith, m))))
      (p.routes fs l r (rehung-less es fs x (λ k. same k at + occurs k (members left) + p.others k) p.others l r (λ k. omega arith) new)
      re);
}

-- Each entry of a heap stands somewhere in it.
pub place-of : (es : List Item) (up top : ℕ) (h : Heap) → IsHeap es up top h → (x : ℕ) → 0 < occurs x (members h)
    → IsPlaced es up top h x
place-of es up top None h x l = absurd (omega (arith, l))
place-of es up top (Top at left right) h x l = elim (cases_eq x at) [
  | inl e ↦ subst (λ n. IsPlaced es up top (Top at left right) n) (sym e) (at-top es up top at left right h)
  | inr ne ↦ elim (parts x at left right l ne) [
    | inl a ↦ in-left es up top at left right h x (place-of es at (item_at es at).left left h.2.0 x a)
    | inr b ↦ in-right es up top at left right h x (place-of es at (item_at es at).right right h.2.1 x b)
  ]
]
