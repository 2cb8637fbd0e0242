-- How many entries are on the way down the right of a heap.
use Rattle.std.proofs.Common.{◌≡◌, ◌≢◌, ℕ, zero, suc, ◌+◌, ◌<◌, ◌≤◌, ◌==◌, List, length, refl, ap, ◌∙◌, arith}
use Rattle.std.specs.Prelude.{if◌then◌else◌}
use Rattle.std.proofs.lemmas.Bool.{eq-eqb, ne_eqb, cond-true, cond-false}
use Rattle.std.proofs.lemmas.List.{length-append}
use Rattle.atlas_search.specs.Numbers.{occurs, same, no_slot}
use Rattle.atlas_search.proofs.Occurrences.{length-distinct}
use Rattle.atlas_search.specs.HeapCalls.{IsHungLeft}
use Rattle.atlas_search.specs.Heaps.{Heap, IsHeap, members}
use Rattle.atlas_search.specs.Heaps.Heap.{None, Top}
use Rattle.atlas_search.specs.Items.{Item, item_at}
use Rattle.atlas_search.proofs.SearchLemmas.Heaps.{heap-inside, occurs-top}
use Rattle.atlas_search.proofs.HeapLemmas.Places.{IsPlaced}
use Rattle.atlas_search.proofs.HeapLemmas.Hanging.{IsHanging, p, all, taken-rest, taken-next, passed-rest, passed-next}

-- How many entries are on the way down the right from one on, at most `bound`.
pub spine : List Item → (bound at : ℕ) → ℕ
spine es zero at = 0
spine es (suc bound) at = if at == no_slot then 0 else suc (spine es bound (item_at es at).right)

abbrev right_length : Heap → ℕ
right_length None = 0
right_length (Top at left right) = suc (right_length right)

right-most : (h : Heap) → right_length h ≤ length (members h)
right-most None = omega arith
right-most (Top at left right) = omega (arith, right-most right, length-append (members left) (members right))

spine-is : (es : List Item) (bound up top : ℕ) (h : Heap) → length es ≤ no_slot → IsHeap es up top h → right_length h ≤ bound
    → spine es bound top ≡ right_length h
unfolding spine
spine-is es zero up top None short h l = refl
spine-is es zero up top (Top at left right) short h l = absurd (omega (arith, l))
spine-is es (suc bound) up top None short h l = cond-true (top == no_slot) 0 _ (eq-eqb top no_slot h)
spine-is es (suc bound) up top (Top at left right) short h l =
    let ne : top ≢ no_slot = λ e. omega (arith, e, h.0.0, h.0.1, short) in
    cond-false (top == no_slot) 0 _ (ne_eqb top no_slot ne)
    ∙ ap suc (ap (λ n. spine es bound (item_at es n).right) h.0.0 ∙ spine-is es bound at (item_at es at).right right short h.2.1
    (omega (arith, l)))

-- A heap's spine is at most as long as there are entries.
spine-of : (es : List Item) (up top : ℕ) (h : Heap) → length es ≤ no_slot → IsHeap es up top h
    → ((k : ℕ) → occurs k (members h) ≤ 1) → spine es (length es) top ≡ right_length h
spine-of es up top h short is once =
    spine-is es (length es) up top h short is
    (omega (arith, right-most h, length-distinct (length es) (members h) once (λ k l. heap-inside es up top h is k l)))

module _ (es fs gs : List Item) (up top : ℕ) (g h : Heap) (above rest : ℕ) (short : length es ≤ no_slot)
    (once : (k : ℕ) → occurs k (members g) + occurs k (members h) ≤ 1)
    (s : IsHanging es fs up top g h above rest) where
  abbrev P : IsPlaced fs up top s.whole above
  P = p es fs gs up top g h above rest short once s

  brief : length fs ≤ no_slot
  brief = omega (arith, short, s.areas.long)

  counts : (k : ℕ) → same k above + (occurs k (members P.left) + occurs k (members P.right)) + P.others k + occurs k (members s.left) ≤ 1
  counts = all es fs gs up top g h above rest short once s

  here : spine fs (length fs) above ≡ suc (right_length P.right)
  here = spine-of fs (item_at fs above).up above (Top above P.left P.right) brief
      ((refl, P.inside, refl), (P.above_left, P.above_right), (P.low, P.high))
      (λ k. omega (arith, counts k, occurs-top k above P.left P.right))

  there : spine fs (length fs) rest ≡ right_length s.left
  there = spine-of fs s.under rest s.left brief s.part (λ k. omega (arith, counts k))

  pub falls-taking : (item_at fs above).right ≢ no_slot → IsHungLeft fs gs above rest
      → spine gs (length gs) rest + spine gs (length gs) (item_at fs above).right < spine fs (length fs) above + spine fs (length fs) rest
  falls-taking more is =
      let low = spine-of gs above rest s.left (omega (arith, brief, is.long))
      (taken-rest es fs gs up top g h above rest short once s is) (λ k. omega (arith, counts k)) in
      let high = spine-of gs above (item_at fs above).right P.right (omega (arith, brief, is.long))
      (taken-next es fs gs up top g h above rest short once s is) (λ k. omega (arith, counts k)) in
      omega (arith, here, there, low, high)

  pub falls-passing : (item_at fs above).right ≢ no_slot → IsHungLeft fs gs above (item_at fs above).right
      → spine gs (length gs) (item_at fs above).right + spine gs (length gs) rest < spine fs (length fs) above + spine fs (length fs) rest
  falls-passing more is =
      let low = spine-of gs s.under rest s.left (omega (arith, brief, is.long))
      (passed-rest es fs gs up top g h above rest short once s more is) (λ k. omega (arith, counts k)) in
      let high = spine-of gs above (item_at fs above).right P.right (omega (arith, brief, is.long))
      (passed-next es fs gs up top g h above rest short once s more is) (λ k. omega (arith, counts k)) in
      omega (arith, here, there, low, high)
