-- An entry takes a heap on each side.
use Rattle.std.proofs.Common.{◌≡◌, ◌≢◌, ℕ, ◌+◌, ◌<◌, ◌≤◌, Bool, true, List, length, set, ap, sym, ◌∙◌, inl, inr, arith}
use Rattle.std.proofs.lemmas.Bool.{cases_eq}
use Rattle.std.proofs.lemmas.List.{get_or-set_same, get_or-set_other, length-set}
use Rattle.atlas_search.specs.HeapCalls.{IsPut, KeepsAreas, KeepsKinds}
use Rattle.atlas_search.specs.Heaps.{Heap, IsHeap, members}
use Rattle.atlas_search.specs.Items.{Item, forked, item_at, linked, no_item}
use Rattle.atlas_search.specs.Numbers.{occurs, same, no_slot}
use Rattle.atlas_search.proofs.Occurrences.{same-self}
use Rattle.atlas_search.proofs.HeapLemmas.Frames.{heap-frame}
use Rattle.atlas_search.proofs.HeapLemmas.Hanging.{plain-areas, plain-then, top-in}
use Rattle.atlas_search.proofs.SearchLemmas.Routes.{KeepsRoutes, keeps-same}

pub put-by : (es fs : List Item) (at up left right : ℕ) (is_fork : Bool) → at < length es
    → fs ≡ set es at (forked (linked (item_at es at) up left right) is_fork) → IsPut es fs at up left right is_fork
put-by es fs at up left right is_fork inside e = record {
  long = ap length e ∙ length-set es at (forked (linked (item_at es at) up left right) is_fork);
  here = ap (λ (xs : List Item). item_at xs at) e
      ∙ get_or-set_same es at (forked (linked (item_at es at) up left right) is_fork) no_item inside;
  others = λ k ne. ap (λ (xs : List Item). item_at xs k) e
      ∙ get_or-set_other es at k (forked (linked (item_at es at) up left right) is_fork) no_item ne;
}

pub put-areas : (es fs : List Item) (at up left right : ℕ) (is_fork : Bool) → IsPut es fs at up left right is_fork → KeepsAreas es fs
put-areas es fs at up left right is_fork is = record {
  long = is.long;
  areas = λ k. elim (cases_eq k at) [
    | inl e ↦ ap (λ n. (item_at fs n).area) e ∙ ap (λ (t : Item). t.area) is.here ∙ sym (ap (λ n. (item_at es n).area) e)
    | inr ne ↦ ap (λ (t : Item). t.area) (is.others k ne)
  ];
  frees = λ k. elim (cases_eq k at) [
    | inl e ↦ ap (λ n. (item_at fs n).is_free) e ∙ ap (λ (t : Item). t.is_free) is.here ∙ sym (ap (λ n. (item_at es n).is_free) e)
    | inr ne ↦ ap (λ (t : Item). t.is_free) (is.others k ne)
  ];
}

-- The entry `first` has the heap p below it, which `cnt` counts, and takes the heap q too.
module _ (es fs gs hs : List Item) (first x y up a b under : ℕ) (p q : Heap) (cnt : ℕ → ℕ)
    (short : length es ≤ no_slot) (inside : first < length es)
    (once : (k : ℕ) → same k first + (cnt k + occurs k (members q)) ≤ 1)
    (fp : IsHeap fs first x p) (has : (k : ℕ) → occurs k (members p) ≡ cnt k)
    (stays : (k : ℕ) → cnt k ≡ 0 → item_at fs k ≡ item_at es k) (keeps : KeepsAreas es fs)
    (fq : IsHeap es under y q)
    (moves : (v : ℕ) (h : Heap) → IsHeap fs v y h → ((k : ℕ) → occurs k (members h) ≤ 1) → IsHeap gs first y h)
    (others : (k : ℕ) → (y ≢ no_slot → k ≢ y) → item_at gs k ≡ item_at fs k) (kinds : KeepsKinds fs gs)
    (is : IsPut gs hs first up a b true) where
  kept : (k : ℕ) → 0 < occurs k (members q) → item_at fs k ≡ item_at es k
  kept k l = stays k (omega (arith, l, once k))

  not-first : (k : ℕ) → 0 < cnt k + occurs k (members q) → k ≢ first
  not-first k l e = omega (arith, l, once k, ap (λ n. same n first) e, same-self first)

  not-y : (k : ℕ) → occurs k (members q) ≡ 0 → y ≢ no_slot → k ≢ y
  not-y k none some e = omega (arith, none, top-in es under y q fq some, ap (λ n. occurs n (members q)) e)

  pub joined-areas : KeepsAreas es hs
  joined-areas = plain-then es gs hs (plain-then es fs gs keeps (plain-areas fs gs kinds)) (put-areas gs hs first up a b true is)

  -- The heap q hangs there.
  pub joined-q : IsHeap hs first y q
  joined-q = heap-frame gs hs first y q is.long (λ k l. is.others k (not-first k (omega (arith, l))))
      (moves under q (heap-frame es fs under y q keeps.long kept fq) (λ k. omega (arith, once k)))

  same-p : (k : ℕ) → 0 < occurs k (members p) → item_at hs k ≡ item_at fs k
  same-p k l =
      is.others k (not-first k (omega (arith, l, has k)))
      ∙ others k (not-y k (omega (arith, l, has k, once k)))

  -- So does the heap p.
  pub joined-p : IsHeap hs first x p
  joined-p = heap-frame fs hs first x p (is.long ∙ kinds.long) same-p fp

  pub joined-first : item_at hs first ≡ forked (linked (item_at es first) up a b) true
  joined-first =
      is.here
      ∙ ap (λ (e : Item). forked (linked e up a b) true)
      (others first (not-y first (omega (arith, once first, same-self first)))
      ∙ stays first (omega (arith, once first, same-self first)))

  pub joined-others : (k : ℕ) → k ≢ first → cnt k ≡ 0 → occurs k (members q) ≡ 0 → item_at hs k ≡ item_at es k
  joined-others k ne z none = is.others k ne ∙ others k (not-y k none) ∙ stays k z

  pub routes-p : KeepsRoutes fs hs p
  routes-p = keeps-same fs hs p same-p

  pub routes-q : KeepsRoutes es hs q
  routes-q k l =
      let there = is.others k (not-first k (omega (arith, l))) in (
        ap (λ (e : Item). e.area) there ∙ kinds.areas k ∙ keeps.areas k,
        ap (λ (e : Item). e.is_fork) there ∙ kinds.forks k ∙ ap (λ (e : Item). e.is_fork) (kept k l),
      )
