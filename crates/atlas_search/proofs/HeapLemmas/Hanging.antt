-- A part hangs below an entry that comes before it: one turn after another down the right.
use Rattle.std.proofs.Common.{◌≡◌, ◌≢◌, ℕ, ◌+◌, ◌<◌, ◌≤◌, List, length, refl, ap, sym, ◌∙◌, subst, inl, inr, arith}
use Rattle.std.proofs.lemmas.Bool.{cases_eq}
use Rattle.atlas_model.specs.Choice.{ComesFirst}
use Rattle.atlas_model.specs.Pixels.{box_of}
use Rattle.atlas_model.proofs.ChoiceLemmas.PickExistence.{first-then}
use Rattle.atlas_search.specs.Numbers.{occurs, same, no_slot}
use Rattle.atlas_search.specs.Rectangles.{IsSolid}
use Rattle.atlas_search.proofs.Occurrences.{same-self}
use Rattle.atlas_search.specs.HeapCalls.{AreSeparate, IsHungLeft, IsRelinked, IsMelded, KeepsAreas, KeepsKinds}
use Rattle.atlas_search.specs.Heaps.{Heap, IsAbove, IsHeap, members}
use Rattle.atlas_search.specs.Heaps.Heap.{None, Top}
use Rattle.atlas_search.specs.Items.{Item, item_at, item_box, linked}
use Rattle.atlas_search.proofs.HeapLemmas.Frames.{above-frame, heap-frame, heap-moved}
use Rattle.atlas_search.proofs.SearchLemmas.Heaps.{heap-inside, none-of, occurs-top, top-first}
use Rattle.atlas_search.proofs.HeapLemmas.Places.{IsPlaced, IsWith, place-of}

-- The same for a heap of which only the top is known.
pub heap-reup : (es fs : List Item) (up up' top : ℕ) (h : Heap) → length es ≤ no_slot → length fs ≡ length es → top ≢ no_slot
    → IsHeap es up top h → ((k : ℕ) → occurs k (members h) ≤ 1)
    → item_at fs top ≡ linked (item_at es top) up' (item_at es top).left (item_at es top).right
    → ((k : ℕ) → 0 < occurs k (members h) → k ≢ top → item_at fs k ≡ item_at es k) → IsHeap fs up' top h
heap-reup es fs up up' top None short long some h once here kept = absurd (some h)
heap-reup es fs up up' top (Top at left right) short long some h once here kept =
    let moved = heap-moved es fs up up' at left right long (subst (λ n. IsHeap es up n (Top at left right)) h.0.0 h) once
    (subst (λ n. item_at fs n ≡ linked (item_at es n) up' (item_at es n).left (item_at es n).right) h.0.0 here)
    (λ k l ne. kept k l (λ e. ne (e ∙ h.0.0))) in
    subst (λ n. IsHeap fs up' n (Top at left right)) (sym h.0.0) moved

pub top-in : (es : List Item) (up top : ℕ) (h : Heap) → IsHeap es up top h → top ≢ no_slot → 0 < occurs top (members h)
top-in es up top None h some = absurd (some h)
top-in es up top (Top at left right) h some = omega (arith, same-self at, ap (λ n. same n at) h.0.0, occurs-top top at left right)

pub top-up : (es : List Item) (up top : ℕ) (h : Heap) → IsHeap es up top h → top ≢ no_slot → (item_at es top).up ≡ up
top-up es up top None h some = absurd (some h)
top-up es up top (Top at left right) h some = ap (λ n. (item_at es n).up) h.0.0 ∙ h.0.2

pub first-of : (es : List Item) (up top : ℕ) (h : Heap) → IsHeap es up top h → (j : ℕ) → 0 < occurs j (members h)
    → ComesFirst (item_box (item_at es top)) (item_box (item_at es j))
first-of es up top None h j l = absurd (omega (arith, l))
first-of es up top (Top at left right) h j l =
    subst (λ n. ComesFirst (item_box (item_at es n)) (item_box (item_at es j))) (sym h.0.0) (top-first es up top at left right h j l)

-- What hung to the left areas.
pub hung-areas : (es fs : List Item) (above less : ℕ) → IsHungLeft es fs above less → KeepsKinds es fs
hung-areas es fs above less is = record {
  long = is.long;
  areas = λ k. elim (cases_eq k above) [
    | inl e ↦ ap (λ n. (item_at fs n).area) e ∙ ap (λ (t : Item). t.area) is.upper ∙ sym (ap (λ n. (item_at es n).area) e)
    | inr ne ↦ elim (cases_eq k less) [
      | inl e ↦ ap (λ n. (item_at fs n).area) e ∙ ap (λ (t : Item). t.area) is.lower ∙ sym (ap (λ n. (item_at es n).area) e)
      | inr far ↦ ap (λ (t : Item). t.area) (is.others k ne far)
    ]
  ];
  frees = λ k. elim (cases_eq k above) [
    | inl e ↦ ap (λ n. (item_at fs n).is_free) e ∙ ap (λ (t : Item). t.is_free) is.upper ∙ sym (ap (λ n. (item_at es n).is_free) e)
    | inr ne ↦ elim (cases_eq k less) [
      | inl e ↦ ap (λ n. (item_at fs n).is_free) e ∙ ap (λ (t : Item). t.is_free) is.lower ∙ sym (ap (λ n. (item_at es n).is_free) e)
      | inr far ↦ ap (λ (t : Item). t.is_free) (is.others k ne far)
    ]
  ];
  forks = λ k. elim (cases_eq k above) [
    | inl e ↦ ap (λ n. (item_at fs n).is_fork) e ∙ ap (λ (t : Item). t.is_fork) is.upper ∙ sym (ap (λ n. (item_at es n).is_fork) e)
    | inr ne ↦ elim (cases_eq k less) [
      | inl e ↦ ap (λ n. (item_at fs n).is_fork) e ∙ ap (λ (t : Item). t.is_fork) is.lower ∙ sym (ap (λ n. (item_at es n).is_fork) e)
      | inr far ↦ ap (λ (t : Item). t.is_fork) (is.others k ne far)
    ]
  ];
}

pub areas-then : (es fs gs : List Item) → KeepsKinds es fs → KeepsKinds fs gs → KeepsKinds es gs
areas-then es fs gs a b = record {
  long = b.long ∙ a.long;
  areas = λ k. b.areas k ∙ a.areas k;
  frees = λ k. b.frees k ∙ a.frees k;
  forks = λ k. b.forks k ∙ a.forks k;
}

pub areas-self : (es : List Item) → KeepsKinds es es
areas-self es = record { long = refl; areas = λ k. refl; frees = λ k. refl; forks = λ k. refl }

-- What stays without the forks.
pub plain-areas : (es fs : List Item) → KeepsKinds es fs → KeepsAreas es fs
plain-areas es fs a = record { long = a.long; areas = a.areas; frees = a.frees }

pub plain-then : (es fs gs : List Item) → KeepsAreas es fs → KeepsAreas fs gs → KeepsAreas es gs
plain-then es fs gs a b = record {
  long = b.long ∙ a.long;
  areas = λ k. b.areas k ∙ a.areas k;
  frees = λ k. b.frees k ∙ a.frees k;
}

pub plain-self : (es : List Item) → KeepsAreas es es
plain-self es = record { long = refl; areas = λ k. refl; frees = λ k. refl }

pub plain-boxes : (es fs : List Item) → KeepsAreas es fs → (k : ℕ) → item_box (item_at fs k) ≡ item_box (item_at es k)
plain-boxes es fs a k = ap box_of (a.areas k)

pub boxes-same : (es fs : List Item) → KeepsKinds es fs → (k : ℕ) → item_box (item_at fs k) ≡ item_box (item_at es k)
boxes-same es fs a k = ap box_of (a.areas k)

-- A heap hangs below an entry, to the left, and what was there goes right.
pub hang-in : (es fs : List Item) (up top : ℕ) (h : Heap) (above less under : ℕ) (l : Heap) → length es ≤ no_slot
    → (p : IsPlaced es up top h above) → IsHungLeft es fs above less → IsHeap es under less l → less ≢ no_slot
    → IsAbove es above l
    → ((k : ℕ) → same k above + (occurs k (members l) + occurs k (members p.left)) + p.others k ≤ 1)
    → IsWith fs up top above p.others l p.left
hang-in es fs up top h above less under l short p is part some first once =
    let here : 0 < occurs less (members l) = top-in es under less l part some in
    p.put fs l p.left (record {
      long = is.long;
      boxes = boxes-same es fs (hung-areas es fs above less is);
      kept = λ k m. is.others k
          (λ e. omega (arith, m, once k, ap (same k) e, same-self k))
          (λ e. omega (arith, m, once k, here, ap (λ n. occurs n (members l)) e));
      up = ap (λ (t : Item). t.up) is.upper;
      above_left = first;
      above_right = p.above_left;
      low = subst (λ n. IsHeap fs above n l) (sym (ap (λ (t : Item). t.left) is.upper))
          (heap-reup es fs under above less l short is.long some part (λ k. omega (arith, once k)) is.lower
          (λ k m ne. is.others k (λ e. omega (arith, m, once k, ap (same k) e, same-self k)) ne));
      high = subst (λ n. IsHeap fs above n p.left) (sym (ap (λ (t : Item). t.right) is.upper))
          (heap-frame es fs above (item_at es above).left p.left is.long
          (λ k m. is.others k
          (λ e. omega (arith, m, once k, ap (same k) e, same-self k))
          (λ e. omega (arith, m, once k, here, ap (λ n. occurs n (members l)) e))) p.low);
    })

-- On the way: a heap that has entry `above`, and the part with top `rest`, which comes after that; all of both are there.
pub record IsHanging (es fs : List Item) (up top : ℕ) (g h : Heap) (above rest : ℕ) : Type 0 where
  pub whole : Heap
  pub heap : IsHeap fs up top whole
  pub here : 0 < occurs above (members whole)
  pub under : ℕ
  pub left : Heap
  pub part : IsHeap fs under rest left
  pub some : rest ≢ no_slot
  pub first : IsAbove fs above left
  pub has : (k : ℕ) → occurs k (members whole) + occurs k (members left) ≡ occurs k (members g) + occurs k (members h)
  pub areas : KeepsKinds es fs
  pub others : (k : ℕ) → occurs k (members g) + occurs k (members h) ≡ 0 → item_at fs k ≡ item_at es k

pub hanging-begins : (es : List Item) (up top under rest : ℕ) (g h : Heap) → AreSeparate es up top g under rest h
    → IsAbove es top h → IsHanging es es up top g h top rest
hanging-begins es up top under rest g h a first = record {
  whole = g;
  heap = a.heap;
  here = top-in es up top g a.heap a.some;
  under = under;
  left = h;
  part = a.part;
  some = a.more;
  first = first;
  has = λ k. refl;
  areas = areas-self es;
  others = λ k none. refl;
}

module _ (es fs gs : List Item) (up top : ℕ) (g h : Heap) (above rest : ℕ) (short : length es ≤ no_slot)
    (once : (k : ℕ) → occurs k (members g) + occurs k (members h) ≤ 1)
    (s : IsHanging es fs up top g h above rest) where
  abbrev pub p : IsPlaced fs up top s.whole above
  p = place-of fs up top s.whole s.heap above s.here

  brief : length fs ≤ no_slot
  brief = omega (arith, short, s.areas.long)

  pub all : (k : ℕ) → same k above + (occurs k (members p.left) + occurs k (members p.right)) + p.others k + occurs k (members s.left) ≤ 1
  all k = omega (arith, p.counts k, s.has k, once k)

  rest-in : 0 < occurs rest (members s.left)
  rest-in = top-in fs s.under rest s.left s.part s.some

  -- The entries that hang.
  pub apart : above ≢ rest
  apart e = omega (arith, all above, same-self above, rest-in, ap (λ n. occurs n (members s.left)) e)

  stays : (k : ℕ) → (is : IsHungLeft fs gs above rest) → occurs k (members g) + occurs k (members h) ≡ 0 → item_at gs k ≡ item_at es k
  stays k is none =
      is.others k
      (λ e. omega (arith, none, s.has k, p.counts k, ap (same k) e, same-self k))
      (λ e. omega (arith, none, s.has k, rest-in, ap (λ n. occurs n (members s.left)) e))
      ∙ s.others k none

  -- The rest hangs below `above`.
  hung : IsHungLeft fs gs above rest → IsWith gs up top above p.others s.left p.left
  hung is = hang-in fs gs up top s.whole above rest s.under s.left brief p is s.part s.some s.first (λ k. omega (arith, all k))

  -- Nothing is on the right: all hangs.
  pub hanging-ends : (item_at fs above).right ≡ no_slot → IsHungLeft fs gs above rest → IsMelded es gs up top g h
  hanging-ends empty is =
      let w = hung is in
      let none : p.right ≡ None = none-of fs above (item_at fs above).right p.right brief p.high empty in
      record {
        both = w.it;
        heap = w.heap;
        has = λ k. omega (arith, w.counts k, p.counts k, s.has k, ap (λ (q : Heap). occurs k (members q)) none);
        others = λ k gone. stays k is gone;
      }

  pub taken-next : IsHungLeft fs gs above rest → IsHeap gs above (item_at fs above).right p.right
  taken-next is = heap-frame fs gs above (item_at fs above).right p.right is.long
      (λ k m. is.others k
      (λ e. omega (arith, m, all k, ap (same k) e, same-self k))
      (λ e. omega (arith, m, all k, rest-in, ap (λ n. occurs n (members s.left)) e))) p.high

  pub taken-rest : IsHungLeft fs gs above rest → IsHeap gs above rest s.left
  taken-rest is = heap-reup fs gs s.under above rest s.left brief is.long s.some s.part (λ k. omega (arith, all k)) is.lower
      (λ k m ne. is.others k (λ e. omega (arith, m, all k, ap (same k) e, same-self k)) ne)

  pub passed-rest : (item_at fs above).right ≢ no_slot → IsHungLeft fs gs above (item_at fs above).right → IsHeap gs s.under rest s.left
  passed-rest more is =
      let next-in : 0 < occurs (item_at fs above).right (members p.right) = top-in fs above (item_at fs above).right p.right p.high more in
      heap-frame fs gs s.under rest s.left is.long
      (λ k m. is.others k
      (λ e. omega (arith, m, all k, ap (same k) e, same-self k))
      (λ e. omega (arith, m, all k, next-in, ap (λ n. occurs n (members p.right)) e))) s.part

  pub passed-next : (item_at fs above).right ≢ no_slot → IsHungLeft fs gs above (item_at fs above).right
      → IsHeap gs above (item_at fs above).right p.right
  passed-next more is =
      heap-reup fs gs above above (item_at fs above).right p.right brief is.long more p.high (λ k. omega (arith, all k)) is.lower
      (λ k m ne. is.others k (λ e. omega (arith, m, all k, ap (same k) e, same-self k)) ne)

  -- The rest comes before what is on the right, which is the rest then.
  pub hanging-takes : (item_at fs above).right ≢ no_slot
      → ComesFirst (item_box (item_at fs rest)) (item_box (item_at fs (item_at fs above).right))
      → IsHungLeft fs gs above rest → IsHanging es gs up top g h rest (item_at fs above).right
  hanging-takes more first is =
      let w = hung is in
      let boxes = boxes-same fs gs (hung-areas fs gs above rest is) in
      let next = (item_at fs above).right in
      record {
        whole = w.it;
        heap = w.heap;
        here = omega (arith, w.counts rest, rest-in);
        under = above;
        left = p.right;
        part = taken-next is;
        some = more;
        first = above-frame fs gs rest p.right (boxes rest) (λ k m. boxes k)
            (λ j m. first-then (item_box (item_at fs rest)) (item_box (item_at fs next)) (item_box (item_at fs j)) first
            (first-of fs above next p.right p.high j m));
        has = λ k. omega (arith, w.counts k, p.counts k, s.has k);
        areas = areas-then es fs gs s.areas (hung-areas fs gs above rest is);
        others = λ k gone. stays k is gone;
      }

  -- What is on the right comes before the rest.
  pub hanging-passes : (item_at fs above).right ≢ no_slot
      → ComesFirst (item_box (item_at fs (item_at fs above).right)) (item_box (item_at fs rest))
      → IsHungLeft fs gs above (item_at fs above).right → IsHanging es gs up top g h (item_at fs above).right rest
  hanging-passes more first is =
      let next = (item_at fs above).right in
      let boxes = boxes-same fs gs (hung-areas fs gs above next is) in
      let next-in : 0 < occurs next (members p.right) = top-in fs above next p.right p.high more in
      let w = hang-in fs gs up top s.whole above next above p.right brief p is p.high more p.above_right (λ k. omega (arith, all k)) in
      record {
        whole = w.it;
        heap = w.heap;
        here = omega (arith, w.counts next, next-in);
        under = s.under;
        left = s.left;
        part = passed-rest more is;
        some = s.some;
        first = above-frame fs gs next s.left (boxes next) (λ k m. boxes k)
            (λ j m. first-then (item_box (item_at fs next)) (item_box (item_at fs rest)) (item_box (item_at fs j)) first
            (first-of fs s.under rest s.left s.part j m));
        has = λ k. omega (arith, w.counts k, p.counts k, s.has k);
        areas = areas-then es fs gs s.areas (hung-areas fs gs above next is);
        others = λ k gone.
            is.others k
            (λ e. omega (arith, gone, s.has k, p.counts k, ap (same k) e, same-self k))
            (λ e. omega (arith, gone, s.has k, p.counts k, next-in, ap (λ n. occurs n (members p.right)) e))
            ∙ s.others k gone;
      }

  -- What is right below an entry isn't that.
  pub next-apart : (item_at fs above).right ≢ no_slot → above ≢ (item_at fs above).right
  next-apart more e =
      omega (
        arith,
        all above,
        same-self above,
        top-in fs above (item_at fs above).right p.right p.high more,
        ap (λ n. occurs n (members p.right)) e,
      )

  -- What is on the right goes left: it hangs below the entry as before.
  pub swap-hangs : (item_at fs above).right ≢ no_slot
      → IsRelinked fs gs above (item_at fs above).up (item_at fs above).right (item_at fs above).left
      → IsHungLeft fs gs above (item_at fs above).right
  swap-hangs more is =
      let next = (item_at fs above).right in
      record {
        long = is.long;
        upper = is.here;
        lower =
            is.others next (λ e. next-apart more (sym e))
            ∙ ap (λ u. linked (item_at fs next) u (item_at fs next).left (item_at fs next).right)
            (top-up fs above next p.right p.high more);
        others = λ k ne far. is.others k ne;
      }

  pub above-inside : above < length fs
  above-inside = heap-inside fs up top s.whole s.heap above s.here

  pub rest-inside : rest < length fs
  rest-inside = heap-inside fs s.under rest s.left s.part rest rest-in

  pub next-inside : (item_at fs above).right ≢ no_slot → (item_at fs above).right < length fs
  next-inside more =
      heap-inside fs above (item_at fs above).right p.right p.high (item_at fs above).right
      (top-in fs above (item_at fs above).right p.right p.high more)

  pub next-solid : ((k : ℕ) → 0 < occurs k (members g) + occurs k (members h) → IsSolid (item_at es k).area)
      → (item_at fs above).right ≢ no_slot → IsSolid (item_at fs (item_at fs above).right).area
  next-solid exact more =
      let next = (item_at fs above).right in
      let there = top-in fs above next p.right p.high more in
      subst IsSolid (sym (s.areas.areas next)) (exact next (omega (arith, there, p.counts next, s.has next)))

pub other-in : (es : List Item) (up one under other : ℕ) (g h : Heap) → AreSeparate es up one g under other h → other < length es
other-in es up one under other g h a = heap-inside es under other h a.part other (top-in es under other h a.part a.more)

pub other-solid : (es : List Item) (up one under other : ℕ) (g h : Heap) → AreSeparate es up one g under other h →
    IsSolid (item_at es other).area
other-solid es up one under other g h a = a.exact other (omega (arith, top-in es under other h a.part a.more))

pub one-in : (es : List Item) (up one under other : ℕ) (g h : Heap) → AreSeparate es up one g under other h → one < length es
one-in es up one under other g h a = heap-inside es up one g a.heap one (top-in es up one g a.heap a.some)

pub one-solid : (es : List Item) (up one under other : ℕ) (g h : Heap) → AreSeparate es up one g under other h
    → IsSolid (item_at es one).area
one-solid es up one under other g h a = a.exact one (omega (arith, top-in es up one g a.heap a.some))
