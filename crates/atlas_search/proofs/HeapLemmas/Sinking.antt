-- An entry takes the place of a fork that doesn't come before it, and that one goes on below it.
use Rattle.std.proofs.Common.{◌≡◌, ◌≢◌, ℕ, ◌+◌, ◌<◌, ◌≤◌, true, List, length, refl, ap, sym, ◌∙◌, subst, inr, arith}
use Rattle.std.proofs.lemmas.Bool.{true≢false}
use Rattle.atlas_search.specs.declared.cells.Cell.{Cell}
use Rattle.atlas_model.specs.Boxes.{Box, Sides}
use Rattle.atlas_model.specs.Choice.{ComesFirst}
use Rattle.atlas_search.specs.Forks.{IsIn, high, low}
use Rattle.atlas_search.specs.HeapCalls.{CanSort, HasSorted, IsPut, KeepsAreas, KeepsKinds}
use Rattle.atlas_search.specs.Heaps.{Heap, IsHeap, members}
use Rattle.atlas_search.specs.Heaps.Heap.{Top}
use Rattle.atlas_search.specs.Items.{Item, forked, item_at, item_box, item_sides, linked}
use Rattle.atlas_search.specs.Numbers.{occurs, same, no_slot}
use Rattle.atlas_search.specs.Rectangles.{IsSolid}
use Rattle.atlas_search.proofs.Occurrences.{same-self}
use Rattle.atlas_search.proofs.HeapLemmas.Frames.{above-frame, heap-frame}
use Rattle.atlas_search.proofs.HeapLemmas.Hanging.{plain-areas, plain-boxes, plain-then, top-in}
use Rattle.atlas_search.proofs.HeapLemmas.Joining.{put-areas}
use Rattle.atlas_search.proofs.HeapLemmas.Sorting.{after, sort-high, sort-low}
use Rattle.atlas_search.proofs.SearchLemmas.Heaps.{occurs-top, top-first}
use Rattle.atlas_search.proofs.SearchLemmas.Routes.{KeepsRoutes, keeps-same, routed-frame, sides-same}

-- What can be sorted into a heap can be where all of it is as before.
pub sort-frame : (es fs : List Item) (c : Cell) (top at : ℕ) (h : Heap) → KeepsAreas es fs
    → ((k : ℕ) → 0 < same k at + occurs k (members h) → item_at fs k ≡ item_at es k) → CanSort es c top at h → CanSort fs c top at h
sort-frame es fs c top at h keeps kept can =
    let of_h : (k : ℕ) → 0 < occurs k (members h) → item_at fs k ≡ item_at es k = λ k l. kept k (omega (arith, l)) in
    record {
      short = omega (arith, can.short, keeps.long);
      cell = can.cell;
      under = can.under;
      heap = heap-frame es fs can.under top h keeps.long of_h can.heap;
      once = can.once;
      inside = omega (arith, can.inside, keeps.long);
      exact = λ k l. subst IsSolid (sym (keeps.areas k)) (can.exact k l);
      routed = routed-frame es fs c h (keeps-same es fs h of_h) can.routed;
      within = subst (λ (s : Sides). IsIn s c) (sym (sides-same (item_at es at) (item_at fs at) (keeps.areas at))) can.within;
    }

-- Which of two entries comes first stays where their rectangles do.
pub order-kept : (es fs : List Item) → KeepsAreas es fs → (i j : ℕ) → ComesFirst (item_box (item_at es i)) (item_box (item_at es j))
    → ComesFirst (item_box (item_at fs i)) (item_box (item_at fs j))
order-kept es fs keeps i j order =
    subst (λ (b : Box). ComesFirst b (item_box (item_at fs j))) (sym (plain-boxes es fs keeps i))
    (subst (λ (b : Box). ComesFirst (item_box (item_at es i)) b) (sym (plain-boxes es fs keeps j)) order)

-- Sorted into a cell that is a half, it is sorted into that.
pub at-low : (es fs : List Item) (c d : Cell) → d ≡ low c → (up at : ℕ) (h : Heap) → HasSorted es fs d up at at h
    → HasSorted es fs (low c) up at at h
at-low es fs c d half up at h = subst (λ (k : Cell). HasSorted es fs k up at at h) half

pub at-high : (es fs : List Item) (c d : Cell) → d ≡ high c → (up at : ℕ) (h : Heap) → HasSorted es fs d up at at h
    → HasSorted es fs (high c) up at at h
at-high es fs c d half up at h = subst (λ (k : Cell). HasSorted es fs k up at at h) half

-- Entry `at` has links a and b now, and heap q, whose top is y, hangs below it; then `below` went on into heap p.
module _ (es ps gs : List Item) (at below up a b y : ℕ) (p q : Heap)
    (once : (k : ℕ) → same k at + same k below + (occurs k (members p) + occurs k (members q)) ≤ 1) (hq : IsHeap es below y q)
    (is : IsPut es ps at up a b true)
    (moves : (v : ℕ) (h : Heap) → IsHeap ps v y h → ((k : ℕ) → occurs k (members h) ≤ 1) → IsHeap gs at y h)
    (others : (k : ℕ) → (y ≢ no_slot → k ≢ y) → item_at gs k ≡ item_at ps k) (kinds : KeepsKinds ps gs) where
  not-at : (k : ℕ) → 0 < same k below + (occurs k (members p) + occurs k (members q)) → k ≢ at
  not-at k l e = omega (arith, l, once k, ap (λ n. same n at) e, same-self at)

  not-y : (k : ℕ) → occurs k (members q) ≡ 0 → y ≢ no_slot → k ≢ y
  not-y k none some e = omega (arith, none, top-in es below y q hq some, ap (λ n. occurs n (members q)) e)

  pub sunk-kept : (k : ℕ) → 0 < same k below + occurs k (members p) → item_at gs k ≡ item_at es k
  sunk-kept k l = others k (not-y k (omega (arith, l, once k))) ∙ is.others k (not-at k (omega (arith, l)))

  pub sunk-areas : KeepsAreas es gs
  sunk-areas = plain-then es ps gs (put-areas es ps at up a b true is) (plain-areas ps gs kinds)

  q-hangs : IsHeap gs at y q
  q-hangs = moves below q (heap-frame es ps below y q is.long (λ k l. is.others k (not-at k (omega (arith, l)))) hq)
      (λ k. omega (arith, once k))

  module _ (fs : List Item) (long : length fs ≡ length gs)
      (stays : (k : ℕ) → k ≢ below → occurs k (members p) ≡ 0 → item_at fs k ≡ item_at gs k) where
    not-below : (k : ℕ) → 0 < same k at + occurs k (members q) → k ≢ below
    not-below k l e = omega (arith, l, once k, ap (λ n. same n below) e, same-self below)

    q-stays : (k : ℕ) → 0 < occurs k (members q) → item_at fs k ≡ item_at gs k
    q-stays k l = stays k (not-below k (omega (arith, l))) (omega (arith, l, once k))

    pub sunk-at : item_at fs at ≡ forked (linked (item_at es at) up a b) true
    sunk-at =
        stays at (not-below at (omega (arith, same-self at))) (omega (arith, once at, same-self at))
        ∙ others at (not-y at (omega (arith, once at, same-self at)))
        ∙ is.here

    pub sunk-q : IsHeap fs at y q
    sunk-q = heap-frame gs fs at y q long q-stays q-hangs

    pub sunk-others : (k : ℕ) → k ≢ at → k ≢ below → occurs k (members p) ≡ 0 → occurs k (members q) ≡ 0 → item_at fs k ≡ item_at es k
    sunk-others k ne far none z = stays k far none ∙ others k (not-y k z) ∙ is.others k ne

    pub sunk-routes : KeepsRoutes es fs q
    sunk-routes k l =
        let ne = is.others k (not-at k (omega (arith, l))) in (
          ap (λ (e : Item). e.area) (q-stays k l) ∙ kinds.areas k ∙ ap (λ (e : Item). e.area) ne,
          ap (λ (e : Item). e.is_fork) (q-stays k l) ∙ kinds.forks k ∙ ap (λ (e : Item). e.is_fork) ne,
        )

module _ (es : List Item) (c : Cell) (below at : ℕ) (l r : Heap) (can : CanSort es c below at (Top below l r))
    (fork : (item_at es below).is_fork ≡ true) (order : ComesFirst (item_box (item_at es at)) (item_box (item_at es below))) where
  all-once : (k : ℕ) → same k at + same k below + (occurs k (members l) + occurs k (members r)) ≤ 1
  all-once k = omega (arith, can.once k, occurs-top k below l r)

  once-more : (k : ℕ) → same k at + same k below + (occurs k (members r) + occurs k (members l)) ≤ 1
  once-more k = omega (arith, all-once k)

  after-at : (j : ℕ) → 0 < same j below + (occurs j (members l) + occurs j (members r))
      → ComesFirst (item_box (item_at es at)) (item_box (item_at es j))
  after-at = after es c below at l r can fork at below (inr (refl, refl)) order

  pub sink-low : (d : Cell) → d ≡ low c → (x : ℕ) → x ≡ (item_at es below).left → IsIn (item_sides (item_at es below)) d
      → CanSort es d x below l
  sink-low = sort-low es c below at l r can fork at below (inr (refl, refl)) order

  pub sink-high : (d : Cell) → d ≡ high c → (x : ℕ) → x ≡ (item_at es below).right → IsIn (item_sides (item_at es below)) d
      → CanSort es d x below r
  sink-high = sort-high es c below at l r can fork at below (inr (refl, refl)) order

  pub sinks-left : (x : ℕ) → x ≡ (item_at es below).left → x ≢ no_slot → ComesFirst (item_box (item_at es below)) (item_box (item_at es x))
  sinks-left x link some =
      let there = top-in es below x l (subst (λ n. IsHeap es below n l) (sym link) can.heap.2.0) some in
      top-first es can.under below below l r can.heap x (omega (arith, there, occurs-top x below l r))

  pub sinks-right : (x : ℕ) → x ≡ (item_at es below).right → x ≢ no_slot
      → ComesFirst (item_box (item_at es below)) (item_box (item_at es x))
  sinks-right x link some =
      let there = top-in es below x r (subst (λ n. IsHeap es below n r) (sym link) can.heap.2.1) some in
      top-first es can.under below below l r can.heap x (omega (arith, there, occurs-top x below l r))

  module _ (ps gs : List Item) (up y : ℕ) (is_y : y ≡ (item_at es below).right) (is : IsPut es ps at up below y true)
      (moves : (v : ℕ) (h : Heap) → IsHeap ps v y h → ((k : ℕ) → occurs k (members h) ≤ 1) → IsHeap gs at y h)
      (others : (k : ℕ) → (y ≢ no_slot → k ≢ y) → item_at gs k ≡ item_at ps k) (kinds : KeepsKinds ps gs) where
    hr : IsHeap es below y r
    hr = subst (λ n. IsHeap es below n r) (sym is_y) can.heap.2.1

    pub low-areas : KeepsAreas es gs
    low-areas = sunk-areas es ps gs at below up below y y l r all-once hr is moves others kinds

    pub low-goes : (d : Cell) (x : ℕ) → CanSort es d x below l → CanSort gs d x below l
    low-goes d x was = sort-frame es gs d x below l low-areas
        (sunk-kept es ps gs at below up below y y l r all-once hr is moves others kinds) was

    pub sunk-low : (fs : List Item) → HasSorted gs fs (low c) at below below l → KeepsAreas gs fs
        → HasSorted es fs c up at at (Top below l r)
    sunk-low fs d keeps =
        let here = sunk-at es ps gs at below up below y y l r all-once hr is moves others kinds fs keeps.long d.others in
        let kept = plain-then es gs fs low-areas keeps in
        let boxes = plain-boxes es fs kept in
        record {
          both = Top at d.both r;
          heap = (
            (refl, omega (arith, can.inside, kept.long), ap (λ (t : Item). t.up) here),
            (
              above-frame es fs at d.both (boxes at) (λ k m. boxes k) (λ j m. after-at j (omega (arith, m, d.has j))),
              above-frame es fs at r (boxes at) (λ k m. boxes k) (λ j m. after-at j (omega (arith, m))),
            ),
            (
              subst (λ n. IsHeap fs at n d.both) (sym (ap (λ (t : Item). t.left) here)) d.heap,
              subst (λ n. IsHeap fs at n r) (sym (ap (λ (t : Item). t.right) here))
                  (sunk-q es ps gs at below up below y y l r all-once hr is moves others kinds fs keeps.long d.others),
            ),
          );
          has = λ k. omega (arith, occurs-top k at d.both r, d.has k, occurs-top k below l r);
          others = λ k ne z.
              sunk-others es ps gs at below up below y y l r all-once hr is moves others kinds fs keeps.long d.others k ne
              (λ e. omega (arith, z, occurs-top k below l r, ap (λ n. same n below) e, same-self below))
              (omega (arith, z, occurs-top k below l r)) (omega (arith, z, occurs-top k below l r));
          routed = (
            subst (λ (s : Sides). IsIn s c) (sym (sides-same (item_at es at) (item_at fs at) (kept.areas at))) can.within,
            λ isf. (
              (can.routed.1 fork).0,
              d.routed,
              routed-frame es fs (high c) r
                  (sunk-routes es ps gs at below up below y y l r all-once hr is moves others kinds fs keeps.long d.others)
                  (can.routed.1 fork).2,
            ),
            λ isn. absurd (true≢false (sym (ap (λ (t : Item). t.is_fork) here) ∙ isn)),
          );
        }

  module _ (ps gs : List Item) (up y : ℕ) (is_y : y ≡ (item_at es below).left) (is : IsPut es ps at up y below true)
      (moves : (v : ℕ) (h : Heap) → IsHeap ps v y h → ((k : ℕ) → occurs k (members h) ≤ 1) → IsHeap gs at y h)
      (others : (k : ℕ) → (y ≢ no_slot → k ≢ y) → item_at gs k ≡ item_at ps k) (kinds : KeepsKinds ps gs) where
    hl : IsHeap es below y l
    hl = subst (λ n. IsHeap es below n l) (sym is_y) can.heap.2.0

    pub high-areas : KeepsAreas es gs
    high-areas = sunk-areas es ps gs at below up y below y r l once-more hl is moves others kinds

    pub high-goes : (d : Cell) (x : ℕ) → CanSort es d x below r → CanSort gs d x below r
    high-goes d x was = sort-frame es gs d x below r high-areas
        (sunk-kept es ps gs at below up y below y r l once-more hl is moves others kinds) was

    pub sunk-high : (fs : List Item) → HasSorted gs fs (high c) at below below r → KeepsAreas gs fs
        → HasSorted es fs c up at at (Top below l r)
    sunk-high fs d keeps =
        let here = sunk-at es ps gs at below up y below y r l once-more hl is moves others kinds fs keeps.long d.others in
        let kept = plain-then es gs fs high-areas keeps in
        let boxes = plain-boxes es fs kept in
        record {
          both = Top at l d.both;
          heap = (
            (refl, omega (arith, can.inside, kept.long), ap (λ (t : Item). t.up) here),
            (
              above-frame es fs at l (boxes at) (λ k m. boxes k) (λ j m. after-at j (omega (arith, m))),
              above-frame es fs at d.both (boxes at) (λ k m. boxes k) (λ j m. after-at j (omega (arith, m, d.has j))),
            ),
            (
              subst (λ n. IsHeap fs at n l) (sym (ap (λ (t : Item). t.left) here))
                  (sunk-q es ps gs at below up y below y r l once-more hl is moves others kinds fs keeps.long d.others),
              subst (λ n. IsHeap fs at n d.both) (sym (ap (λ (t : Item). t.right) here)) d.heap,
            ),
          );
          has = λ k. omega (arith, occurs-top k at l d.both, d.has k, occurs-top k below l r);
          others = λ k ne z.
              sunk-others es ps gs at below up y below y r l once-more hl is moves others kinds fs keeps.long d.others k ne
              (λ e. omega (arith, z, occurs-top k below l r, ap (λ n. same n below) e, same-self below))
              (omega (arith, z, occurs-top k below l r)) (omega (arith, z, occurs-top k below l r));
          routed = (
            subst (λ (s : Sides). IsIn s c) (sym (sides-same (item_at es at) (item_at fs at) (kept.areas at))) can.within,
            λ isf. (
              (can.routed.1 fork).0,
              routed-frame es fs (low c) l
                  (sunk-routes es ps gs at below up y below y r l once-more hl is moves others kinds fs keeps.long d.others)
                  (can.routed.1 fork).1,
              d.routed,
            ),
            λ isn. absurd (true≢false (sym (ap (λ (t : Item). t.is_fork) here) ∙ isn)),
          );
        }
