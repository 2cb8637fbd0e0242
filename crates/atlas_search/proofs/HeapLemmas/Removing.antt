-- An entry leaves a heap.
use Rattle.std.proofs.Common.{◌≡◌, ◌≢◌, ℕ, ◌+◌, ◌<◌, ◌≤◌, ◌⊎◌, ◌==◌, List, length, refl, ap, sym, ◌∙◌, subst, inl, inr, arith}
use Rattle.std.proofs.lemmas.Bool.{cases_eq, eq-eqb, ne_eqb, cond-true, cond-false}
use Rattle.atlas_search.specs.Numbers.{occurs, same, no_slot}
use Rattle.atlas_search.proofs.Occurrences.{same-self}
use Rattle.atlas_search.specs.HeapCalls.{AreSeparate, ArePartsBelow, CanRemove, HasLeft, HasRemoved, IsRelinked, IsMelded, KeepsAreas}
use Rattle.atlas_search.specs.Heaps.{Heap, IsHeap, members}
use Rattle.atlas_search.specs.Heaps.Heap.{None, Top}
use Rattle.atlas_search.specs.Forks.{IsRouted, Reroutes}
use Rattle.atlas_search.specs.Items.{Item, item_at, linked}
use Rattle.atlas_search.proofs.HeapLemmas.Frames.{heap-frame, parts}
use Rattle.atlas_search.proofs.SearchLemmas.Heaps.{heap-inside, none-of, occurs-top}
use Rattle.atlas_search.proofs.HeapLemmas.Places.{IsPlaced, IsRehung, IsWith, at-top, in-left, in-right, place-of}
use Rattle.atlas_search.proofs.HeapLemmas.Hanging.{heap-reup, plain-areas, plain-boxes, plain-then, top-in}
use Rattle.atlas_search.proofs.HeapLemmas.Melding.{linked-areas}
use Rattle.atlas_search.proofs.SearchLemmas.Routes.{reroutes-same, reroutes-then, reroutes-top}

-- Entry x hangs below entry u of a heap.
pub record IsChild (es : List Item) (up top : ℕ) (h : Heap) (u x : ℕ) : Type 0 where
  pub is_up : (item_at es x).up ≡ u
  pub place : IsPlaced es up top h u
  pub side : ((item_at es u).left ≡ x) ⊎ ((item_at es u).right ≡ x)

-- Above the top stands what stands above its heap.
pub up-of : (es : List Item) (up top : ℕ) (h : Heap) (x : ℕ) → top ≡ x → 0 < occurs x (members h) → IsHeap es up top h →
    (item_at es x).up ≡ up
up-of es up top None x e l h = absurd (omega (arith, l))
up-of es up top (Top at left right) x e l h = ap (λ n. (item_at es n).up) (sym e ∙ h.0.0) ∙ h.0.2

-- Each entry of a heap but its top hangs below another one.
pub child-of : (es : List Item) (up top : ℕ) (h : Heap) → IsHeap es up top h → (x : ℕ) → 0 < occurs x (members h) → x ≢ top
    → (u : ℕ) × IsChild es up top h u x
child-of es up top None h x l ne = absurd (omega (arith, l))
child-of es up top (Top at left right) h x l ne = elim (parts x at left right l (λ e. ne (e ∙ sym h.0.0))) [
  | inl a ↦ elim (cases_eq x (item_at es at).left) [
    | inl e ↦ (
      at,
      record {
        is_up = up-of es at (item_at es at).left left x (sym e) a h.2.0;
        place = at-top es up top at left right h;
        side = inl (sym e);
      },
    )
    | inr far ↦
        let c = child-of es at (item_at es at).left left h.2.0 x a far in
        (c.0, record { is_up = c.1.is_up; place = in-left es up top at left right h c.0 c.1.place; side = c.1.side })
  ]
  | inr b ↦ elim (cases_eq x (item_at es at).right) [
    | inl e ↦ (
      at,
      record {
        is_up = up-of es at (item_at es at).right right x (sym e) b h.2.1;
        place = at-top es up top at left right h;
        side = inr (sym e);
      },
    )
    | inr far ↦
        let c = child-of es at (item_at es at).right right h.2.1 x b far in
        (c.0, record { is_up = c.1.is_up; place = in-right es up top at left right h c.0 c.1.place; side = c.1.side })
  ]
]

-- What hangs below the top of a heap.
pub record HasBelow (es : List Item) (up top : ℕ) (h : Heap) : Type 0 where
  pub left : Heap
  pub right : Heap
  pub is : h ≡ Top top left right
  pub inside : top < length es
  pub is_up : (item_at es top).up ≡ up
  pub low : IsHeap es top (item_at es top).left left
  pub high : IsHeap es top (item_at es top).right right

pub below-of : (es : List Item) (up top : ℕ) (h : Heap) → top ≢ no_slot → IsHeap es up top h → HasBelow es up top h
below-of es up top None some h = absurd (some h)
below-of es up top (Top at left right) some h =
    subst (λ n. HasBelow es up n (Top at left right)) (sym h.0.0)
    (record { left = left; right = right; is = refl; inside = h.0.1; is_up = h.0.2; low = h.2.0; high = h.2.1 })

-- The parts below an entry of a heap.
pub parts-below : (es : List Item) (tag top at : ℕ) (h : Heap) → CanRemove es tag top at h → (up : ℕ) (s : Heap)
    → ((k : ℕ) → occurs k (members s) ≤ occurs k (members h)) → (b : HasBelow es up at s) → ArePartsBelow es at b.left b.right
parts-below es tag top at h can up s less b =
    let counts = λ (k : ℕ). occurs-top k at b.left b.right in
    record {
      short = can.sound.short;
      inside = b.inside;
      low = b.low;
      high = b.high;
      once = λ k. omega (arith, counts k, less k, can.sound.once k, ap (λ (q : Heap). occurs k (members q)) b.is);
      exact = λ k l. can.sound.exact k (omega (arith, l, counts k, less k, ap (λ (q : Heap). occurs k (members q)) b.is));
    }

module _ (es fs : List Item) (at up : ℕ) (l r : Heap) (a : ArePartsBelow es at l r) where
  -- Nothing is on the left, and nothing on the right.
  below-none : (item_at es at).left ≡ no_slot → (item_at es at).right ≡ no_slot
      → IsMelded es es up (item_at es at).right l r
  below-none no_left no_right =
      let low = none-of es at (item_at es at).left l a.short a.low no_left in
      let high = none-of es at (item_at es at).right r a.short a.high no_right in
      record {
        both = None;
        heap = no_right;
        has = λ k. omega (arith, ap (λ (q : Heap). occurs k (members q)) low, ap (λ (q : Heap). occurs k (members q)) high);
        others = λ k none. refl;
      }

  -- Nothing is on the left.
  below-right : (item_at es at).left ≡ no_slot → (item_at es at).right ≢ no_slot
      → IsRelinked es fs (item_at es at).right up (item_at es (item_at es at).right).left (item_at es (item_at es at).right).right
      → IsMelded es fs up (item_at es at).right l r
  below-right no_left some is =
      let low = none-of es at (item_at es at).left l a.short a.low no_left in
      let there = top-in es at (item_at es at).right r a.high some in
      record {
        both = r;
        heap = heap-reup es fs at up (item_at es at).right r a.short is.long some a.high (λ k. omega (arith, a.once k)) is.here
            (λ k m ne. is.others k ne);
        has = λ k. omega (arith, ap (λ (q : Heap). occurs k (members q)) low);
        others = λ k none. is.others k (λ e. omega (arith, none, there, ap (λ n. occurs n (members r)) e));
      }

  -- Nothing is on the right.
  below-left : (item_at es at).right ≡ no_slot → (item_at es at).left ≢ no_slot
      → IsRelinked es fs (item_at es at).left up (item_at es (item_at es at).left).left (item_at es (item_at es at).left).right
      → IsMelded es fs up (item_at es at).left l r
  below-left no_right some is =
      let high = none-of es at (item_at es at).right r a.short a.high no_right in
      let there = top-in es at (item_at es at).left l a.low some in
      record {
        both = l;
        heap = heap-reup es fs at up (item_at es at).left l a.short is.long some a.low (λ k. omega (arith, a.once k)) is.here
            (λ k m ne. is.others k ne);
        has = λ k. omega (arith, ap (λ (q : Heap). occurs k (members q)) high);
        others = λ k none. is.others k (λ e. omega (arith, none, there, ap (λ n. occurs n (members l)) e));
      }

  below-both : (item_at es at).left ≢ no_slot → (item_at es at).right ≢ no_slot
      → AreSeparate es at (item_at es at).left l at (item_at es at).right r
  below-both some more = record {
    short = a.short;
    heap = a.low;
    part = a.high;
    some = some;
    more = more;
    once = λ k. omega (arith, a.once k);
    exact = λ k m. a.exact k m;
  }

  -- The same by the links that were read.
  module _ (on_left on_right : ℕ) (is_left : on_left ≡ (item_at es at).left)
      (is_right : on_right ≡ (item_at es at).right) where
    pub closes-none : on_left ≡ no_slot → on_right ≡ no_slot → IsMelded es es up on_right l r
    closes-none a b = subst (λ n. IsMelded es es up n l r) (sym is_right) (below-none (sym is_left ∙ a) (sym is_right ∙ b))

    pub closes-right : on_left ≡ no_slot → on_right ≢ no_slot
        → IsRelinked es fs on_right up (item_at es on_right).left (item_at es on_right).right
        → IsMelded es fs up on_right l r
    closes-right a = subst (λ n. n ≢ no_slot → IsRelinked es fs n up (item_at es n).left (item_at es n).right
        → IsMelded es fs up n l r) (sym is_right) (below-right (sym is_left ∙ a))

    pub closes-left : on_right ≡ no_slot → on_left ≢ no_slot
        → IsRelinked es fs on_left up (item_at es on_left).left (item_at es on_left).right
        → IsMelded es fs up on_left l r
    closes-left a = subst (λ n. n ≢ no_slot → IsRelinked es fs n up (item_at es n).left (item_at es n).right
        → IsMelded es fs up n l r) (sym is_left) (below-left (sym is_right ∙ a))

    pub closes-both : on_left ≢ no_slot → on_right ≢ no_slot → AreSeparate es at on_left l at on_right r
    closes-both = subst (λ n. n ≢ no_slot → on_right ≢ no_slot → AreSeparate es at n l at on_right r) (sym is_left)
        (subst (λ n. (item_at es at).left ≢ no_slot → n ≢ no_slot → AreSeparate es at (item_at es at).left l at n r) (sym is_right)
        below-both)

    pub closes-inside : on_left ≢ no_slot → on_left < length es
    closes-inside some = heap-inside es at on_left l (subst (λ n. IsHeap es at n l) (sym is_left) a.low) on_left
        (top-in es at on_left l (subst (λ n. IsHeap es at n l) (sym is_left) a.low) some)

    pub closes-within : on_right ≢ no_slot → on_right < length es
    closes-within some = heap-inside es at on_right r (subst (λ n. IsHeap es at n r) (sym is_right) a.high) on_right
        (top-in es at on_right r (subst (λ n. IsHeap es at n r) (sym is_right) a.high) some)

-- An entry that can leave has parts below it.
pub some-parts : (es : List Item) (tag top at : ℕ) (h : Heap) → CanRemove es tag top at h
    → (l : Heap) × (r : Heap) × ArePartsBelow es at l r
some-parts es tag top at h can =
    let p = place-of es tag top h can.sound.heap at can.member in (
      p.left,
      p.right,
      record {
        short = can.sound.short;
        inside = p.inside;
        low = p.low;
        high = p.high;
        once = λ k. omega (arith, p.counts k, can.sound.once k);
        exact = λ k m. can.sound.exact k (omega (arith, m, p.counts k));
      },
    )

-- The top leaves: what was below it is the heap.
pub top-removed : (es fs : List Item) (tag top rest at : ℕ) (h : Heap) (can : CanRemove es tag top at h) → at ≡ top
    → ((l r : Heap) → ArePartsBelow es at l r → HasLeft es fs (item_at es at).up rest at l r) → HasRemoved es fs tag top rest at h
top-removed es fs tag top rest at h can is melds =
    let some : at ≢ no_slot = λ e. omega (arith, e, can.sound.short, heap-inside es tag top h can.sound.heap at can.member) in
    let b = below-of es tag at h some (subst (λ n. IsHeap es tag n h) (sym is) can.sound.heap) in
    let m = melds b.left b.right (parts-below es tag top at h can tag h (λ k. omega arith) b) in
    record {
      less = m.both;
      heap = subst (λ n. IsHeap fs tag n m.both) (sym (cond-true (at == top) rest top (eq-eqb at top is)))
          (subst (λ n. IsHeap fs n rest m.both) b.is_up m.heap);
      has = λ k. omega (arith, m.has k, occurs-top k at b.left b.right, ap (λ (q : Heap). occurs k (members q)) b.is);
      others = λ k none. m.others k (omega (arith, none, occurs-top k at b.left b.right, ap (λ (q : Heap). occurs k (members q)) b.is));
      routed = λ d was. m.routes.routed d (subst (IsRouted es d) b.is was);
    }

pub top-tagged : (es : List Item) (tag top at : ℕ) (h : Heap) → CanRemove es tag top at h → (item_at es at).up < length es → at ≢ top
top-tagged es tag top at h can inside e =
    omega (arith, inside, can.tagged, up-of es tag top h at (sym e) can.member can.sound.heap)

pub top-only : (es : List Item) (tag top at : ℕ) (h : Heap) → CanRemove es tag top at h → length es ≤ (item_at es at).up → at ≡ top
top-only es tag top at h can outside = elim (cases_eq at top) [
  | inl e ↦ e
  | inr ne ↦
      let c = child-of es tag top h can.sound.heap at can.member ne in
      absurd (omega (arith, outside, c.1.is_up, c.1.place.inside))
]

module _ (es fs gs : List Item) (tag top rest at : ℕ) (h : Heap) (can : CanRemove es tag top at h) (ne : at ≢ top)
    (melds : (l r : Heap) → ArePartsBelow es at l r → HasLeft es fs (item_at es at).up rest at l r) (kept : KeepsAreas es fs) where
  abbrev c : (u : ℕ) × IsChild es tag top h u at
  c = child-of es tag top h can.sound.heap at can.member ne

  p : IsPlaced es tag top h c.0
  p = c.1.place

  some : at ≢ no_slot
  some e = omega (arith, e, can.sound.short, heap-inside es tag top h can.sound.heap at can.member)

  module _ (is_left : (item_at es c.0).left ≡ at) where
    b : HasBelow es c.0 at p.left
    b = below-of es c.0 at p.left some (subst (λ n. IsHeap es c.0 n p.left) is_left p.low)

    m : HasLeft es fs (item_at es at).up rest at b.left b.right
    m = melds b.left b.right (parts-below es tag top at h can c.0 p.left (λ k. omega (arith, p.counts k)) b)

    counts : (k : ℕ) → occurs k (members p.left) ≡ same k at + (occurs k (members b.left) + occurs k (members b.right))
    counts k = ap (λ (q : Heap). occurs k (members q)) b.is ∙ occurs-top k at b.left b.right

    all : (k : ℕ) → same k c.0 + (same k at + (occurs k (members b.left) + occurs k (members b.right)) + occurs k (members p.right)) +
        p.others k ≤ 1
    all k = omega (arith, p.counts k, can.sound.once k, counts k)

    upper : item_at fs c.0 ≡ item_at es c.0
    upper = m.others c.0 (omega (arith, all c.0, same-self c.0))

    module _ (is : IsRelinked fs gs c.0 (item_at fs c.0).up rest (item_at fs c.0).right) where
      areas : KeepsAreas es gs
      areas = plain-then es fs gs kept (plain-areas fs gs (linked-areas fs gs c.0 (item_at fs c.0).up rest (item_at fs c.0).right is))

      stays : (k : ℕ) → k ≢ c.0 → occurs k (members b.left) + occurs k (members b.right) ≡ 0 → item_at gs k ≡ item_at es k
      stays k far none = is.others k far ∙ m.others k none

      rehung : IsRehung es gs c.0 p.others m.both p.right
      rehung = record {
        long = areas.long;
        boxes = plain-boxes es gs areas;
        kept = λ k l. stays k (λ e. omega (arith, l, all k, ap (λ n. same n c.0) e, same-self c.0)) (omega (arith, l, all k));
        up = ap (λ (t : Item). t.up) is.here ∙ ap (λ (t : Item). t.up) upper;
        above_left = λ j l. p.above_left j (omega (arith, l, m.has j, counts j));
        above_right = p.above_right;
        low = subst (λ n. IsHeap gs c.0 n m.both) (sym (ap (λ (t : Item). t.left) is.here))
            (heap-frame fs gs c.0 rest m.both is.long
            (λ k l. is.others k (λ e. omega (arith, l, m.has k, all k, ap (λ n. same n c.0) e, same-self c.0)))
            (subst (λ n. IsHeap fs n rest m.both) c.1.is_up m.heap));
        high = subst (λ n. IsHeap gs c.0 n p.right) (sym (ap (λ (t : Item). t.right) is.here ∙ ap (λ (t : Item). t.right) upper))
            (heap-frame es gs c.0 (item_at es c.0).right p.right areas.long
            (λ k l. stays k (λ e. omega (arith, l, all k, ap (λ n. same n c.0) e, same-self c.0)) (omega (arith, l, all k))) p.high);
      }

      w : IsWith gs tag top c.0 p.others m.both p.right
      w = p.put gs m.both p.right rehung

      up_is : item_at gs c.0 ≡ linked (item_at es c.0) (item_at fs c.0).up rest (item_at fs c.0).right
      up_is = is.here ∙ ap (λ (e : Item). linked e (item_at fs c.0).up rest (item_at fs c.0).right) upper

      lower : Reroutes es gs p.left m.both
      lower = reroutes-then es fs gs p.left m.both m.both (subst (λ (q : Heap). Reroutes es fs q m.both) (sym b.is) m.routes)
          (reroutes-same fs gs m.both (λ k l. is.others k (λ e. omega (arith, l, m.has k, all k, ap (λ n. same n c.0) e, same-self c.0))))

      aside : Reroutes es gs p.right p.right
      aside = reroutes-same es gs p.right
          (λ k l. stays k (λ e. omega (arith, l, all k, ap (λ n. same n c.0) e, same-self c.0)) (omega (arith, l, all k)))

      routes : Reroutes es gs h w.it
      unfolding w
      routes = p.routes gs m.both p.right rehung
          (reroutes-top es gs c.0 p.left p.right m.both p.right (ap (λ (e : Item). e.area) up_is) (ap (λ (e : Item). e.is_fork) up_is) lower
          aside)

      left-removed : HasRemoved es gs tag top rest at h
      left-removed = record {
        less = w.it;
        heap = subst (λ n. IsHeap gs tag n w.it) (sym (cond-false (at == top) rest top (ne_eqb at top ne))) w.heap;
        has = λ k. omega (arith, w.counts k, p.counts k, counts k, m.has k);
        others = λ k none.
            stays k (λ e. omega (arith, none, p.counts k, ap (λ n. same n c.0) e, same-self c.0))
            (omega (arith, none, p.counts k, counts k));
        routed = routes.routed;
      }

  module _ (is_right : (item_at es c.0).right ≡ at) where
    d : HasBelow es c.0 at p.right
    d = below-of es c.0 at p.right some (subst (λ n. IsHeap es c.0 n p.right) is_right p.high)

    n : HasLeft es fs (item_at es at).up rest at d.left d.right
    n = melds d.left d.right (parts-below es tag top at h can c.0 p.right (λ k. omega (arith, p.counts k)) d)

    counts_right : (k : ℕ) → occurs k (members p.right) ≡ same k at + (occurs k (members d.left) + occurs k (members d.right))
    counts_right k = ap (λ (q : Heap). occurs k (members q)) d.is ∙ occurs-top k at d.left d.right

    all_right : (k : ℕ) → same k c.0 + (occurs k (members p.left) + (same k at + (occurs k (members d.left) + occurs k (members d.right))))
        + p.others k ≤ 1
    all_right k = omega (arith, p.counts k, can.sound.once k, counts_right k)

    upper_right : item_at fs c.0 ≡ item_at es c.0
    upper_right = n.others c.0 (omega (arith, all_right c.0, same-self c.0))

    module _ (is : IsRelinked fs gs c.0 (item_at fs c.0).up (item_at fs c.0).left rest) where
      areas_right : KeepsAreas es gs
      areas_right = plain-then es fs gs kept (plain-areas fs gs (linked-areas fs gs c.0 (item_at fs c.0).up (item_at fs c.0).left rest is))

      stays_right : (k : ℕ) → k ≢ c.0 → occurs k (members d.left) + occurs k (members d.right) ≡ 0 → item_at gs k ≡ item_at es k
      stays_right k far none = is.others k far ∙ n.others k none

      rehung_right : IsRehung es gs c.0 p.others p.left n.both
      rehung_right = record {
        long = areas_right.long;
        boxes = plain-boxes es gs areas_right;
        kept = λ k l. stays_right k (λ e. omega (arith, l, all_right k, ap (λ n. same n c.0) e, same-self c.0))
            (omega (arith, l, all_right k));
        up = ap (λ (t : Item). t.up) is.here ∙ ap (λ (t : Item). t.up) upper_right;
        above_left = p.above_left;
        above_right = λ j l. p.above_right j (omega (arith, l, n.has j, counts_right j));
        low = subst (λ n. IsHeap gs c.0 n p.left) (sym (ap (λ (t : Item). t.left) is.here ∙ ap (λ (t : Item). t.left) upper_right))
            (heap-frame es gs c.0 (item_at es c.0).left p.left areas_right.long
            (λ k l. stays_right k (λ e. omega (arith, l, all_right k, ap (λ n. same n c.0) e, same-self c.0))
            (omega (arith, l, all_right k))) p.low);
        high = subst (λ q. IsHeap gs c.0 q n.both) (sym (ap (λ (t : Item). t.right) is.here))
            (heap-frame fs gs c.0 rest n.both is.long
            (λ k l. is.others k (λ e. omega (arith, l, n.has k, all_right k, ap (λ n. same n c.0) e, same-self c.0)))
            (subst (λ q. IsHeap fs q rest n.both) c.1.is_up n.heap));
      }

      v : IsWith gs tag top c.0 p.others p.left n.both
      v = p.put gs p.left n.both rehung_right

      up_is_right : item_at gs c.0 ≡ linked (item_at es c.0) (item_at fs c.0).up (item_at fs c.0).left rest
      up_is_right = is.here ∙ ap (λ (e : Item). linked e (item_at fs c.0).up (item_at fs c.0).left rest) upper_right

      lower_right : Reroutes es gs p.right n.both
      lower_right = reroutes-then es fs gs p.right n.both n.both (subst (λ (q : Heap). Reroutes es fs q n.both) (sym d.is) n.routes)
          (reroutes-same fs gs n.both (λ k l. is.others k (λ e. omega (
            arith,
            l,
            n.has k,
            all_right k,
            ap (λ n. same n c.0) e,
            same-self c.0,
          ))))

      aside_right : Reroutes es gs p.left p.left
      aside_right = reroutes-same es gs p.left
          (λ k l. stays_right k (λ e. omega (arith, l, all_right k, ap (λ n. same n c.0) e, same-self c.0)) (omega (arith, l, all_right k)))

      routes_right : Reroutes es gs h v.it
      unfolding v
      routes_right = p.routes gs p.left n.both rehung_right
          (reroutes-top es gs c.0 p.left p.right p.left n.both (ap (λ (e : Item). e.area) up_is_right)
          (ap (λ (e : Item). e.is_fork) up_is_right) aside_right lower_right)

      right-removed : HasRemoved es gs tag top rest at h
      right-removed = record {
        less = v.it;
        heap = subst (λ n. IsHeap gs tag n v.it) (sym (cond-false (at == top) rest top (ne_eqb at top ne))) v.heap;
        has = λ k. omega (arith, v.counts k, p.counts k, counts_right k, n.has k);
        others = λ k none.
            stays_right k (λ e. omega (arith, none, p.counts k, ap (λ n. same n c.0) e, same-self c.0))
            (omega (arith, none, p.counts k, counts_right k));
        routed = routes_right.routed;
      }

  above-stays : item_at fs c.0 ≡ item_at es c.0
  above-stays = elim c.1.side [ inl e ↦ upper e | inr e ↦ upper_right e ]

  -- The entry above has the rest on its left, or else on its right.
  pub entry-removed : (up : ℕ) → up ≡ (item_at es at).up
      → (((item_at fs up).left ≡ at) × IsRelinked fs gs up (item_at fs up).up rest (item_at fs up).right)
      ⊎ (((item_at fs up).left ≢ at) × IsRelinked fs gs up (item_at fs up).up (item_at fs up).left rest)
      → HasRemoved es gs tag top rest at h
  entry-removed up e = subst (λ n. (((item_at fs n).left ≡ at) × IsRelinked fs gs n (item_at fs n).up rest (item_at fs n).right)
      ⊎ (((item_at fs n).left ≢ at) × IsRelinked fs gs n (item_at fs n).up (item_at fs n).left rest)
      → HasRemoved es gs tag top rest at h) (sym (e ∙ c.1.is_up)) (λ w. elim w [
        | inl q ↦ left-removed (sym (ap (λ (t : Item). t.left) above-stays) ∙ q.0) q.1
        | inr q ↦ elim c.1.side [
          | inl is_left ↦ absurd (q.0 (ap (λ (t : Item). t.left) above-stays ∙ is_left))
          | inr is_right ↦ right-removed is_right q.1
        ]
      ])
