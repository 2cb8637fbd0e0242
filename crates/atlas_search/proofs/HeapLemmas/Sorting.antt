-- An entry joins a heap by its size.
use Rattle.std.proofs.Common.{◌≡◌, ◌≢◌, ℕ, ◌+◌, ◌<◌, ◌≤◌, ◌⊎◌, true, false, List, length, refl, ap, sym, ◌∙◌, subst, inl, inr, arith}
use Rattle.std.proofs.lemmas.Bool.{cases_eq, true≢false}
use Rattle.atlas_search.specs.declared.cells.Cell.{Cell}
use Rattle.atlas_model.specs.Boxes.{Sides}
use Rattle.atlas_model.specs.Choice.{ComesFirst}
use Rattle.atlas_model.proofs.ChoiceLemmas.PickExistence.{first-then}
use Rattle.atlas_search.specs.Forks.{IsAlike, IsCell, IsIn, IsRouted, IsSplit, high, low}
use Rattle.atlas_search.specs.HeapCalls.{AreSeparate, CanSort, HasSorted, IsForked, IsMelded, IsPut, KeepsAreas, KeepsKinds}
use Rattle.atlas_search.specs.Heaps.{Heap, IsAbove, IsHeap, members}
use Rattle.atlas_search.specs.Heaps.Heap.{Top}
use Rattle.atlas_search.specs.Items.{Item, forked, item_at, item_box, item_sides, linked}
use Rattle.atlas_search.specs.Numbers.{occurs, same, no_slot}
use Rattle.atlas_search.specs.Rectangles.{IsSolid}
use Rattle.atlas_search.proofs.Occurrences.{same-self, same-ne}
use Rattle.atlas_search.proofs.HeapLemmas.Frames.{above-frame, heap-frame}
use Rattle.atlas_search.proofs.HeapLemmas.Hanging.{first-of, plain-boxes, top-in, top-up}
use Rattle.atlas_search.proofs.HeapLemmas.Joining.{joined-areas, joined-first, joined-others, joined-p, joined-q, put-areas, routes-p}
use Rattle.atlas_search.proofs.HeapLemmas.Joining.{routes-q}
use Rattle.atlas_search.proofs.HeapLemmas.Alone.{alone, alone-has, alone-is}
use Rattle.atlas_search.proofs.SearchLemmas.Cells.{high-cell, low-cell, two-sizes}
use Rattle.atlas_search.proofs.SearchLemmas.Heaps.{heap-inside, none-of, occurs-top, top-first, top-of}
use Rattle.atlas_search.proofs.SearchLemmas.Routes.{alike-routed, routed-alike, routed-frame, sides-same}

module _ (es fs : List Item) (c : Cell) (top at : ℕ) (h : Heap) (can : CanSort es c top at h) where
  out : (k : ℕ) → 0 < occurs k (members h) → k ≢ at
  out k l e = omega (arith, l, can.once k, ap (λ n. same n at) e, same-self at)

  sort-top : top ≢ no_slot → 0 < occurs top (members h)
  sort-top = top-in es can.under top h can.heap

  pub sort-inside : top ≢ no_slot → top < length es
  sort-inside some = heap-inside es can.under top h can.heap top (sort-top some)

  pub sort-solid : top ≢ no_slot → IsSolid (item_at es top).area
  sort-solid some = can.exact top (omega (arith, sort-top some))

  pub sort-splits : top ≢ no_slot
      → ((item_at es top).is_fork ≡ true) ⊎ (item_sides (item_at es top) ≢ item_sides (item_at es at)) → IsSplit c
  sort-splits some different =
      let t = top-of es can.under top h can.heap some in
      let r = subst (IsRouted es c) t.is can.routed in
      elim different [
        | inl fork ↦ (r.1 fork).0
        | inr other ↦ two-sizes c (item_sides (item_at es top)) (item_sides (item_at es at)) r.0 can.within other
      ]

  module _ (up : ℕ) (is : IsPut es fs at up no_slot no_slot false) where
    areas : KeepsAreas es fs
    areas = put-areas es fs at up no_slot no_slot false is

    sides : (k : ℕ) → item_sides (item_at fs k) ≡ item_sides (item_at es k)
    sides k = sides-same (item_at es k) (item_at fs k) (areas.areas k)

    here : IsHeap fs up at (alone at)
    here = alone-is fs (forked (item_at es at) false) up at (omega (arith, can.inside, is.long)) is.here

    stands : item_sides (item_at fs at) ≡ item_sides (item_at es at)
    stands = sides at

    -- It is alone.
    pub sorted-alone : top ≡ no_slot → HasSorted es fs c up at at h
    sorted-alone empty = record {
      both = alone at;
      heap = here;
      has = λ k. omega (
        arith,
        alone-has k at,
        ap (λ (q : Heap). occurs k (members q))
            (none-of es can.under top h can.short can.heap empty),
      );
      others = λ k ne z. is.others k ne;
      routed = alike-routed fs c (item_sides (item_at es at)) (alone at) can.within (λ j l. elim (cases_eq j at) [
        | inl e ↦ (
          ap (λ n. item_sides (item_at fs n)) e ∙ stands,
          ap (λ n. (item_at fs n).is_fork) e ∙
              ap (λ (t : Item). t.is_fork) is.here,
        )
        | inr ne ↦ absurd (omega (arith, l, alone-has j at, same-ne j at ne))
      ]);
    }

    -- It hangs elsewhere, and has the size of all of them.
    pub sorted-over : top ≢ no_slot → AreSeparate fs up at (alone at) can.under top h
    sorted-over some = record {
      short = omega (arith, can.short, is.long);
      heap = here;
      part = heap-frame es fs can.under top h is.long (λ k l. is.others k (out k l)) can.heap;
      some = λ e. omega (arith, e, can.inside, can.short);
      more = some;
      once = λ k. omega (arith, can.once k, alone-has k at);
      exact = λ k l. subst IsSolid (sym (areas.areas k)) (can.exact k (omega (arith, l, alone-has k at)));
    }

    pub sorted-above : top ≢ no_slot → ComesFirst (item_box (item_at es at)) (item_box (item_at es top)) → IsAbove fs at h
    sorted-above some order =
        let boxes = plain-boxes es fs areas in
        above-frame es fs at h (boxes at) (λ k l. boxes k)
        (λ j l. first-then (item_box (item_at es at)) (item_box (item_at es top)) (item_box (item_at es j)) order
        (first-of es can.under top h can.heap j l))

    pub sorted-apart : top ≢ no_slot → up ≡ (item_at es top).up → AreSeparate fs can.under top h can.under at (alone at)
    sorted-apart some link = record {
      short = omega (arith, can.short, is.long);
      heap = heap-frame es fs can.under top h is.long (λ k l. is.others k (out k l)) can.heap;
      part = subst (λ n. IsHeap fs n at (alone at)) (link ∙ top-up es can.under top h can.heap some) here;
      some = some;
      more = λ e. omega (arith, e, can.inside, can.short);
      once = λ k. omega (arith, can.once k, alone-has k at);
      exact = λ k l. subst IsSolid (sym (areas.areas k)) (can.exact k (omega (arith, l, alone-has k at)));
    }

    pub sorted-alike : (gs : List Item) (over first : ℕ) → top ≢ no_slot → (item_at es top).is_fork ≡ false
        → item_sides (item_at es top) ≡ item_sides (item_at es at) → IsMelded fs gs over first h (alone at) → KeepsKinds fs gs
        → HasSorted es gs c over first at h
    sorted-alike gs over first some plain alike m kept =
        let t = top-of es can.under top h can.heap some in
        let of_h : IsAlike es (item_sides (item_at es at)) h =
        subst (λ (s : Sides). IsAlike es s h) alike
        (subst (λ (g : Heap). IsAlike es (item_sides (item_at es top)) g) (sym t.is)
        (routed-alike es c top t.left t.right (subst (IsRouted es c) t.is can.routed) plain)) in
        record {
          both = m.both;
          heap = m.heap;
          has = λ k. omega (arith, m.has k, alone-has k at);
          others = λ k ne z. m.others k (omega (arith, z, alone-has k at, same-ne k at ne)) ∙ is.others k ne;
          routed = alike-routed gs c (item_sides (item_at es at)) m.both can.within (λ j l. elim (cases_eq j at) [
            | inl e ↦ (
              sides-same (item_at fs j) (item_at gs j) (kept.areas j) ∙ sides j ∙ ap (λ n. item_sides (item_at es n)) e,
              kept.forks j ∙ ap (λ n. (item_at fs n).is_fork) e ∙ ap (λ (t : Item). t.is_fork) is.here,
            )
            | inr ne ↦
                let q = of_h j (omega (arith, l, m.has j, alone-has j at, same-ne j at ne)) in (
                  sides-same (item_at fs j) (item_at gs j) (kept.areas j) ∙ sides j ∙ q.0,
                  kept.forks j ∙ ap (λ (e : Item). e.is_fork) (is.others j ne) ∙ q.1,
                )
          ]);
        }

-- What is sorted into a heap whose top became a fork is sorted into the heap.
pub forked-sorted : (es fs gs : List Item) (c : Cell) (up top first at : ℕ) (h : Heap) (f : IsForked es fs c top at h)
    → HasSorted fs gs c up first at (Top top f.left f.right) → HasSorted es gs c up first at h
forked-sorted es fs gs c up top first at h f s = record {
  both = s.both;
  heap = s.heap;
  has = λ k. omega (arith, s.has k, f.has k);
  others = λ k ne z. s.others k ne (omega (arith, z, f.has k)) ∙ f.others k z;
  routed = s.routed;
}

-- Of a fork's top and an entry, `first` takes the top's place, and `rest` goes on into a half.
module _ (es : List Item) (c : Cell) (top at : ℕ) (l r : Heap) (can : CanSort es c top at (Top top l r))
    (fork : (item_at es top).is_fork ≡ true) (first rest : ℕ)
    (two : ((first ≡ top) × (rest ≡ at)) ⊎ ((first ≡ at) × (rest ≡ top)))
    (order : ComesFirst (item_box (item_at es first)) (item_box (item_at es rest))) where
  counts : (k : ℕ) → same k first + same k rest ≡ same k top + same k at
  counts k = elim two [
    | inl a ↦ omega (arith, ap (same k) a.0, ap (same k) a.1)
    | inr a ↦ omega (arith, ap (same k) a.0, ap (same k) a.1)
  ]

  all : (k : ℕ) → same k first + same k rest + (occurs k (members l) + occurs k (members r)) ≤ 1
  all k = omega (arith, counts k, can.once k, occurs-top k top l r)

  split : IsSplit c
  split = (can.routed.1 fork).0

  pub first-inside : first < length es
  first-inside = elim two [
    | inl a ↦ subst (λ n. n < length es) (sym a.0) can.heap.0.1
    | inr a ↦ subst (λ n. n < length es) (sym a.0) can.inside
  ]

  pub rest-inside : rest < length es
  rest-inside = elim two [
    | inl a ↦ subst (λ n. n < length es) (sym a.1) can.inside
    | inr a ↦ subst (λ n. n < length es) (sym a.1) can.heap.0.1
  ]

  first-in : IsIn (item_sides (item_at es first)) c
  first-in = elim two [
    | inl a ↦ subst (λ n. IsIn (item_sides (item_at es n)) c) (sym a.0) can.routed.0
    | inr a ↦ subst (λ n. IsIn (item_sides (item_at es n)) c) (sym a.0) can.within
  ]

  rest-in : IsIn (item_sides (item_at es rest)) c
  rest-in = elim two [
    | inl a ↦ subst (λ n. IsIn (item_sides (item_at es n)) c) (sym a.1) can.within
    | inr a ↦ subst (λ n. IsIn (item_sides (item_at es n)) c) (sym a.1) can.routed.0
  ]

  -- All come after the first.
  pub after : (j : ℕ) → 0 < same j rest + (occurs j (members l) + occurs j (members r)) →
      ComesFirst (item_box (item_at es first)) (item_box (item_at es j))
  after j m = elim (cases_eq j rest) [
    | inl e ↦ subst (λ n. ComesFirst (item_box (item_at es first)) (item_box (item_at es n))) (sym e) order
    | inr ne ↦
        let below = top-first es can.under top top l r can.heap j (omega (arith, m, same-ne j rest ne, occurs-top j top l r)) in
        elim two [
          | inl a ↦ subst (λ n. ComesFirst (item_box (item_at es n)) (item_box (item_at es j))) (sym a.0) below
          | inr a ↦ first-then (item_box (item_at es first)) (item_box (item_at es top)) (item_box (item_at es j))
              (subst (λ n. ComesFirst (item_box (item_at es first)) (item_box (item_at es n))) a.1 order) below
        ]
  ]

  pub sort-low : (d : Cell) → d ≡ low c → (x : ℕ) → x ≡ (item_at es top).left → IsIn (item_sides (item_at es rest)) d
      → CanSort es d x rest l
  sort-low d half x link inside = record {
    short = can.short;
    cell = subst IsCell (sym half) (low-cell c can.cell split);
    under = top;
    heap = subst (λ n. IsHeap es top n l) (sym link) can.heap.2.0;
    once = λ k. omega (arith, all k);
    inside = rest-inside;
    exact = λ k m. can.exact k (omega (arith, m, counts k, occurs-top k top l r));
    routed = subst (λ (k : Cell). IsRouted es k l) (sym half) (can.routed.1 fork).1;
    within = inside;
  }

  pub sort-high : (d : Cell) → d ≡ high c → (x : ℕ) → x ≡ (item_at es top).right → IsIn (item_sides (item_at es rest)) d
      → CanSort es d x rest r
  sort-high d half x link inside = record {
    short = can.short;
    cell = subst IsCell (sym half) (high-cell c can.cell split);
    under = top;
    heap = subst (λ n. IsHeap es top n r) (sym link) can.heap.2.1;
    once = λ k. omega (arith, all k);
    inside = rest-inside;
    exact = λ k m. can.exact k (omega (arith, m, counts k, occurs-top k top l r));
    routed = subst (λ (k : Cell). IsRouted es k r) (sym half) (can.routed.1 fork).2;
    within = inside;
  }

  -- The rest went into the low half, and the other one hangs below the first too.
  module _ (fs gs hs : List Item) (up x y : ℕ) (is_y : y ≡ (item_at es top).right) (d : HasSorted es fs (low c) first x rest l)
      (keeps : KeepsAreas es fs)
      (moves : (v : ℕ) (h : Heap) → IsHeap fs v y h → ((k : ℕ) → occurs k (members h) ≤ 1) → IsHeap gs first y h)
      (others : (k : ℕ) → (y ≢ no_slot → k ≢ y) → item_at gs k ≡ item_at fs k) (kinds : KeepsKinds fs gs)
      (is : IsPut gs hs first up x y true) where
    ones : (k : ℕ) → same k first + ((same k rest + occurs k (members l)) + occurs k (members r)) ≤ 1
    ones k = omega (arith, all k)

    stays : (k : ℕ) → same k rest + occurs k (members l) ≡ 0 → item_at fs k ≡ item_at es k
    stays k z = d.others k (λ e. omega (arith, z, ap (λ n. same n rest) e, same-self rest)) (omega (arith, z))

    fq : IsHeap es top y r
    fq = subst (λ n. IsHeap es top n r) (sym is_y) can.heap.2.1

    at-first : item_at hs first ≡ forked (linked (item_at es first) up x y) true
    at-first = joined-first es fs gs hs first x y up x y top d.both r (λ k. same k rest + occurs k (members l)) can.short first-inside ones
        d.heap d.has stays keeps fq moves others kinds is

    kept : KeepsAreas es hs
    kept = joined-areas es fs gs hs first x y up x y top d.both r (λ k. same k rest + occurs k (members l)) can.short first-inside ones
        d.heap d.has stays keeps fq moves others kinds is

    boxes : (k : ℕ) → item_box (item_at hs k) ≡ item_box (item_at es k)
    boxes = plain-boxes es hs kept

    pub sorted-low : HasSorted es hs c up first at (Top top l r)
    sorted-low = record {
      both = Top first d.both r;
      heap = (
        (refl, omega (arith, first-inside, kept.long), ap (λ (t : Item). t.up) at-first),
        (
          above-frame es hs first d.both (boxes first) (λ k m. boxes k) (λ j m. after j (omega (arith, m, d.has j))),
          above-frame es hs first r (boxes first) (λ k m. boxes k) (λ j m. after j (omega (arith, m))),
        ),
        (
          subst (λ n. IsHeap hs first n d.both) (sym (ap (λ (t : Item). t.left) at-first))
              (joined-p es fs gs hs first x y up x y top d.both r (λ k. same k rest + occurs k (members l)) can.short first-inside ones
              d.heap d.has stays keeps fq moves others kinds is),
          subst (λ n. IsHeap hs first n r) (sym (ap (λ (t : Item). t.right) at-first))
              (joined-q es fs gs hs first x y up x y top d.both r (λ k. same k rest + occurs k (members l)) can.short first-inside ones
              d.heap d.has stays keeps fq moves others kinds is),
        ),
      );
      has = λ k. omega (arith, occurs-top k first d.both r, d.has k, counts k, occurs-top k top l r);
      others = λ k ne z.
          joined-others es fs gs hs first x y up x y top d.both r (λ k. same k rest + occurs k (members l)) can.short first-inside ones
          d.heap d.has stays keeps fq moves others kinds is k
          (λ e. omega (arith, z, occurs-top k top l r, counts k, same-ne k at ne, ap (λ n. same n first) e, same-self first))
          (omega (arith, z, occurs-top k top l r, counts k, same-ne k at ne)) (omega (arith, z, occurs-top k top l r));
      routed = (
        subst (λ (s : Sides). IsIn s c) (sym (sides-same (item_at es first) (item_at hs first) (kept.areas first))) first-in,
        λ isf. (
          split,
          routed-frame fs hs (low c) d.both
              (routes-p es fs gs hs first x y up x y top d.both r (λ k. same k rest + occurs k (members l)) can.short first-inside ones
              d.heap d.has stays keeps fq moves others kinds is) d.routed,
          routed-frame es hs (high c) r
              (routes-q es fs gs hs first x y up x y top d.both r (λ k. same k rest + occurs k (members l)) can.short first-inside ones
              d.heap d.has stays keeps fq moves others kinds is) (can.routed.1 fork).2,
        ),
        λ isn. absurd (true≢false (sym (ap (λ (t : Item). t.is_fork) at-first) ∙ isn)),
      );
    }

  -- The rest went into the high half, and the other one hangs below the first too.
  module _ (fs gs hs : List Item) (up x y : ℕ) (is_y : y ≡ (item_at es top).left) (d : HasSorted es fs (high c) first x rest r)
      (keeps : KeepsAreas es fs)
      (moves : (v : ℕ) (h : Heap) → IsHeap fs v y h → ((k : ℕ) → occurs k (members h) ≤ 1) → IsHeap gs first y h)
      (others : (k : ℕ) → (y ≢ no_slot → k ≢ y) → item_at gs k ≡ item_at fs k) (kinds : KeepsKinds fs gs)
      (is : IsPut gs hs first up y x true) where
    ones_high : (k : ℕ) → same k first + ((same k rest + occurs k (members r)) + occurs k (members l)) ≤ 1
    ones_high k = omega (arith, all k)

    stays_high : (k : ℕ) → same k rest + occurs k (members r) ≡ 0 → item_at fs k ≡ item_at es k
    stays_high k z = d.others k (λ e. omega (arith, z, ap (λ n. same n rest) e, same-self rest)) (omega (arith, z))

    fq_high : IsHeap es top y l
    fq_high = subst (λ n. IsHeap es top n l) (sym is_y) can.heap.2.0

    at-first_high : item_at hs first ≡ forked (linked (item_at es first) up y x) true
    at-first_high = joined-first es fs gs hs first x y up y x top d.both l (λ k. same k rest + occurs k (members r)) can.short first-inside
        ones_high
        d.heap d.has stays_high keeps fq_high moves others kinds is

    kept_high : KeepsAreas es hs
    kept_high = joined-areas es fs gs hs first x y up y x top d.both l (λ k. same k rest + occurs k (members r)) can.short first-inside
        ones_high
        d.heap d.has stays_high keeps fq_high moves others kinds is

    boxes_high : (k : ℕ) → item_box (item_at hs k) ≡ item_box (item_at es k)
    boxes_high = plain-boxes es hs kept_high

    pub sorted-high : HasSorted es hs c up first at (Top top l r)
    sorted-high = record {
      both = Top first l d.both;
      heap = (
        (refl, omega (arith, first-inside, kept_high.long), ap (λ (t : Item). t.up) at-first_high),
        (
          above-frame es hs first l (boxes_high first) (λ k m. boxes_high k) (λ j m. after j (omega (arith, m))),
          above-frame es hs first d.both (boxes_high first) (λ k m. boxes_high k) (λ j m. after j (omega (arith, m, d.has j))),
        ),
        (
          subst (λ n. IsHeap hs first n l) (sym (ap (λ (t : Item). t.left) at-first_high))
              (joined-q es fs gs hs first x y up y x top d.both l (λ k. same k rest + occurs k (members r)) can.short first-inside ones_high
              d.heap d.has stays_high keeps fq_high moves others kinds is),
          subst (λ n. IsHeap hs first n d.both) (sym (ap (λ (t : Item). t.right) at-first_high))
              (joined-p es fs gs hs first x y up y x top d.both l (λ k. same k rest + occurs k (members r)) can.short first-inside ones_high
              d.heap d.has stays_high keeps fq_high moves others kinds is),
        ),
      );
      has = λ k. omega (arith, occurs-top k first l d.both, d.has k, counts k, occurs-top k top l r);
      others = λ k ne z.
          joined-others es fs gs hs first x y up y x top d.both l (λ k. same k rest + occurs k (members r)) can.short first-inside ones_high
          d.heap d.has stays_high keeps fq_high moves others kinds is k
          (λ e. omega (arith, z, occurs-top k top l r, counts k, same-ne k at ne, ap (λ n. same n first) e, same-self first))
          (omega (arith, z, occurs-top k top l r, counts k, same-ne k at ne)) (omega (arith, z, occurs-top k top l r));
      routed = (
        subst (λ (s : Sides). IsIn s c) (sym (sides-same (item_at es first) (item_at hs first) (kept_high.areas first))) first-in,
        λ isf. (
          split,
          routed-frame es hs (low c) l
              (routes-q es fs gs hs first x y up y x top d.both l (λ k. same k rest + occurs k (members r)) can.short first-inside ones_high
              d.heap d.has stays_high keeps fq_high moves others kinds is) (can.routed.1 fork).1,
          routed-frame fs hs (high c) d.both
              (routes-p es fs gs hs first x y up y x top d.both l (λ k. same k rest + occurs k (members r)) can.short first-inside ones_high
              d.heap d.has stays_high keeps fq_high moves others kinds is) d.routed,
        ),
        λ isn. absurd (true≢false (sym (ap (λ (t : Item). t.is_fork) at-first_high) ∙ isn)),
      );
    }
