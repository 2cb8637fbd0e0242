-- An entry goes on below a fork that stays where it is.
use Rattle.std.proofs.Common.{◌≡◌, ◌≢◌, ℕ, ◌<◌, ◌≤◌, Bool, true, false, List, length, refl, ap, sym, ◌∙◌, subst, inl, arith}
use Rattle.std.proofs.lemmas.Bool.{true≢false}
use Rattle.atlas_search.specs.declared.cells.Cell.{Cell}
use Rattle.atlas_model.specs.Choice.{ComesFirst}
use Rattle.atlas_search.specs.Forks.{IsIn, IsSplit, half, high, low}
use Rattle.atlas_search.specs.HeapCalls.{CanSort, HasSorted, IsRelinked, IsPut, KeepsAreas, KeepsKinds}
use Rattle.atlas_search.specs.Heaps.{Heap, IsHeap, members}
use Rattle.atlas_search.specs.Heaps.Heap.{None, Top}
use Rattle.atlas_search.specs.Items.{Item, forked, item_at, item_box, item_sides, linked}
use Rattle.atlas_search.specs.Numbers.{occurs, same, no_slot}
use Rattle.atlas_search.proofs.Occurrences.{same-self}
use Rattle.atlas_search.proofs.HeapLemmas.Forking.{sort-top}
use Rattle.atlas_search.proofs.HeapLemmas.Frames.{heap-frame}
use Rattle.atlas_search.proofs.HeapLemmas.Hanging.{top-up}
use Rattle.atlas_search.proofs.HeapLemmas.Sorting.{sort-high, sort-low, sorted-high, sorted-low}
use Rattle.atlas_search.proofs.SearchLemmas.Heaps.{occurs-top}

-- What hangs in a half below an entry.
abbrev pub link_in : Bool → Item → ℕ
link_in true e = e.left
link_in false e = e.right

pub left-in : (e : Item) (b : Bool) → b ≡ true → e.left ≡ link_in b e
left-in e b is = sym (ap (λ k. link_in k e) is)

pub right-in : (e : Item) (b : Bool) → b ≡ false → e.right ≡ link_in b e
right-in e b is = sym (ap (λ k. link_in k e) is)

-- A heap hangs below one entry alone.
pub hangs-below : (es : List Item) (above y : ℕ) (q : Heap) → length es ≤ no_slot → IsHeap es above y q → (v : ℕ) (h : Heap)
    → IsHeap es v y h → IsHeap es above y h
hangs-below es above y q short is v None e = e
hangs-below es above y q short is v (Top i l r) e = (
  (
    e.0.0,
    e.0.1,
    ap (λ n. (item_at es n).up) (sym e.0.0) ∙ top-up es above y q is (λ none. omega (arith, none, e.0.0, e.0.1, short)),
  ),
  e.1,
  e.2,
)

pub kinds-same : (es : List Item) → KeepsKinds es es
kinds-same es = record { long = refl; areas = λ k. refl; frees = λ k. refl; forks = λ k. refl }

-- A fork that has these links is as if they were written.
pub put-same : (es : List Item) (k up a b : ℕ) → up ≡ (item_at es k).up → a ≡ (item_at es k).left → b ≡ (item_at es k).right
    → (item_at es k).is_fork ≡ true → IsPut es es k up a b true
put-same es k up a b u l r fork = record {
  long = refl;
  here = ap (λ n. linked (item_at es k) n (item_at es k).left (item_at es k).right) (sym u)
      ∙ ap (λ n. linked (item_at es k) up n (item_at es k).right) (sym l)
      ∙ ap (λ n. linked (item_at es k) up a n) (sym r)
      ∙ ap (forked (linked (item_at es k) up a b)) fork;
  others = λ j ne. refl;
}

-- A fork whose links are written stays one.
pub put-linked : (es fs : List Item) (k up a b : ℕ) → IsRelinked es fs k up a b → (item_at es k).is_fork ≡ true → IsPut es fs k up a b true
put-linked es fs k up a b is fork = record {
  long = is.long;
  here = is.here ∙ ap (forked (linked (item_at es k) up a b)) fork;
  others = is.others;
}

module _ (es : List Item) (c : Cell) (above at : ℕ) (h : Heap) (some : above ≢ no_slot) (can : CanSort es c above at h)
    (fork : (item_at es above).is_fork ≡ true) (order : ComesFirst (item_box (item_at es above)) (item_box (item_at es at))) where
  pub parts : (left : Heap) × (right : Heap) × (h ≡ Top above left right) × CanSort es c above at (Top above left right)
  parts = sort-top es c above at h some can

  pub pass-inside : above < length es
  pass-inside = parts.3.heap.0.1

  pub pass-split : IsSplit c
  pass-split = (parts.3.routed.1 fork).0

  -- What hangs in a half below it.
  abbrev pub part : Bool → Heap
  part true = parts.0
  part false = parts.1

  pub pass-half : (b : Bool) (d : Cell) → d ≡ half b c → (x : ℕ) → x ≡ link_in b (item_at es above)
      → IsIn (item_sides (item_at es at)) d → CanSort es d x at (part b)
  pass-half true = sort-low es c above at parts.0 parts.1 parts.3 fork above at (inl (refl, refl)) order
  pass-half false = sort-high es c above at parts.0 parts.1 parts.3 fork above at (inl (refl, refl)) order

  -- What hangs below it has it above.
  pub half-up : (b : Bool) (x : ℕ) → x ≡ link_in b (item_at es above) → x ≢ no_slot → (item_at es x).up ≡ above
  half-up true x link = top-up es above x parts.0 (subst (λ n. IsHeap es above n parts.0) (sym link) parts.3.heap.2.0)
  half-up false x link = top-up es above x parts.1 (subst (λ n. IsHeap es above n parts.1) (sym link) parts.3.heap.2.1)

  -- Sorted into a half, it is sorted in below this entry.
  pub at-half : (b : Bool) (fs : List Item) (d : Cell) → d ≡ half b c → (x : ℕ) → HasSorted es fs d above x at (part b)
      → HasSorted es fs (half b c) above x at (part b)
  at-half b fs d is x = subst (λ (k : Cell). HasSorted es fs k above x at (part b)) is

  -- So it is where it went on below the half's top, which stays where it hangs.
  pub from-half : (b : Bool) (fs : List Item) (d : Cell) → d ≡ half b c → (x : ℕ) → x ≡ link_in b (item_at es above) → x ≢ no_slot
      → HasSorted es fs d (item_at es x).up x at (part b) → HasSorted es fs (half b c) above x at (part b)
  from-half b fs d is x link there was =
      at-half b fs d is x (subst (λ n. HasSorted es fs d n x at (part b)) (half-up b x link there) was)

  module _ (fs : List Item) (x : ℕ) (d : HasSorted es fs (low c) above x at parts.0) where
    kept_right : (k : ℕ) → 0 < occurs k (members parts.1) → item_at fs k ≡ item_at es k
    kept_right k l =
        d.others k (λ e. omega (arith, l, parts.3.once k, occurs-top k above parts.0 parts.1, ap (λ n. same n at) e, same-self at))
        (omega (arith, l, parts.3.once k, occurs-top k above parts.0 parts.1))

    low-kept : item_at fs above ≡ item_at es above
    low-kept =
        d.others above
        (λ e. omega (
          arith,
          parts.3.once above,
          occurs-top above above parts.0 parts.1,
          same-self above,
          ap (λ n. same n at) e,
          same-self at,
        ))
        (omega (arith, parts.3.once above, occurs-top above above parts.0 parts.1, same-self above))

    passed-low : (hs : List Item) → KeepsAreas es fs → IsPut fs hs above (item_at es above).up x (item_at es above).right true
        → HasSorted es hs c (item_at es above).up above at h
    passed-low hs keeps is =
        let y = (item_at es above).right in
        subst (λ (q : Heap). HasSorted es hs c (item_at es above).up above at q) (sym parts.2)
        (sorted-low es c above at parts.0 parts.1 parts.3 fork above at (inl (refl, refl)) order fs fs hs (item_at es above).up x y refl d
        keeps
        (λ v q is_heap once. hangs-below fs above y parts.1 (omega (arith, can.short, keeps.long))
        (heap-frame es fs above y parts.1 keeps.long kept_right parts.3.heap.2.1) v q is_heap)
        (λ k out. refl) (kinds-same fs) is)

    stayed-low : KeepsAreas es fs → x ≡ (item_at es above).left → HasSorted es fs c (item_at es above).up above at h
    stayed-low keeps link =
        passed-low fs keeps
        (put-same fs above (item_at es above).up x (item_at es above).right
        (ap (λ (t : Item). t.up) (sym low-kept)) (link ∙ ap (λ (t : Item). t.left) (sym low-kept))
        (ap (λ (t : Item). t.right) (sym low-kept))
        (ap (λ (t : Item). t.is_fork) low-kept ∙ fork))

    hung-low : (hs : List Item) → KeepsAreas es fs → IsRelinked fs hs above (item_at es above).up x (item_at es above).right
        → HasSorted es hs c (item_at es above).up above at h
    hung-low hs keeps is = passed-low hs keeps
        (put-linked fs hs above (item_at es above).up x (item_at es above).right is (ap (λ (t : Item). t.is_fork) low-kept ∙ fork))

  module _ (fs : List Item) (x : ℕ) (d : HasSorted es fs (high c) above x at parts.1) where
    kept_left : (k : ℕ) → 0 < occurs k (members parts.0) → item_at fs k ≡ item_at es k
    kept_left k l =
        d.others k (λ e. omega (arith, l, parts.3.once k, occurs-top k above parts.0 parts.1, ap (λ n. same n at) e, same-self at))
        (omega (arith, l, parts.3.once k, occurs-top k above parts.0 parts.1))

    high-kept : item_at fs above ≡ item_at es above
    high-kept =
        d.others above
        (λ e. omega (
          arith,
          parts.3.once above,
          occurs-top above above parts.0 parts.1,
          same-self above,
          ap (λ n. same n at) e,
          same-self at,
        ))
        (omega (arith, parts.3.once above, occurs-top above above parts.0 parts.1, same-self above))

    passed-high : (hs : List Item) → KeepsAreas es fs → IsPut fs hs above (item_at es above).up (item_at es above).left x true
        → HasSorted es hs c (item_at es above).up above at h
    passed-high hs keeps is =
        let y = (item_at es above).left in
        subst (λ (q : Heap). HasSorted es hs c (item_at es above).up above at q) (sym parts.2)
        (sorted-high es c above at parts.0 parts.1 parts.3 fork above at (inl (refl, refl)) order fs fs hs (item_at es above).up x y refl d
        keeps
        (λ v q is_heap once. hangs-below fs above y parts.0 (omega (arith, can.short, keeps.long))
        (heap-frame es fs above y parts.0 keeps.long kept_left parts.3.heap.2.0) v q is_heap)
        (λ k out. refl) (kinds-same fs) is)

    stayed-high : KeepsAreas es fs → x ≡ (item_at es above).right → HasSorted es fs c (item_at es above).up above at h
    stayed-high keeps link =
        passed-high fs keeps
        (put-same fs above (item_at es above).up (item_at es above).left x
        (ap (λ (t : Item). t.up) (sym high-kept)) (ap (λ (t : Item). t.left) (sym high-kept))
        (link ∙ ap (λ (t : Item). t.right) (sym high-kept))
        (ap (λ (t : Item). t.is_fork) high-kept ∙ fork))

    hung-high : (hs : List Item) → KeepsAreas es fs → IsRelinked fs hs above (item_at es above).up (item_at es above).left x
        → HasSorted es hs c (item_at es above).up above at h
    hung-high hs keeps is = passed-high hs keeps
        (put-linked fs hs above (item_at es above).up (item_at es above).left x is (ap (λ (t : Item). t.is_fork) high-kept ∙ fork))

  pub stayed-half : (b : Bool) (fs : List Item) (x : ℕ) → HasSorted es fs (half b c) above x at (part b) → KeepsAreas es fs
      → x ≡ link_in b (item_at es above) → HasSorted es fs c (item_at es above).up above at h
  stayed-half true = stayed-low
  stayed-half false = stayed-high

  pub hung-in-low : (b : Bool) → b ≡ true → (fs : List Item) (x : ℕ) → HasSorted es fs (half b c) above x at (part b)
      → (hs : List Item) → KeepsAreas es fs → IsRelinked fs hs above (item_at es above).up x (item_at es above).right
      → HasSorted es hs c (item_at es above).up above at h
  hung-in-low true is = hung-low
  hung-in-low false is = absurd (true≢false (sym is))

  pub hung-in-high : (b : Bool) → b ≡ false → (fs : List Item) (x : ℕ) → HasSorted es fs (half b c) above x at (part b)
      → (hs : List Item) → KeepsAreas es fs → IsRelinked fs hs above (item_at es above).up (item_at es above).left x
      → HasSorted es hs c (item_at es above).up above at h
  hung-in-high false is = hung-high
  hung-in-high true is = absurd (true≢false is)
