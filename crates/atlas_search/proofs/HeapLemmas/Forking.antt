-- The top of a heap becomes a fork.
use Rattle.std.proofs.Common.{◌≡◌, ◌≢◌, ℕ, ◌<◌, true, false, List, length, map, refl, ap, sym, ◌∙◌, subst, arith}
use Rattle.std.proofs.lemmas.Bool.{true≢false}
use Rattle.std.proofs.lemmas.List.{length-map}
use Rattle.atlas_search.specs.declared.cells.Cell.{Cell}
use Rattle.atlas_model.specs.Boxes.{Box, Sides, box_sides}
use Rattle.atlas_model.specs.Choice.{ComesFirst}
use Rattle.atlas_model.specs.Pixels.{box_of}
use Rattle.atlas_search.specs.Forks.{IsAlike, IsIn, IsSplit, high, low}
use Rattle.atlas_search.specs.HeapCalls.{ArePartsBelow, CanSort, IsForked, IsMelded, IsPut, KeepsAreas, KeepsKinds}
use Rattle.atlas_search.specs.Heaps.{Heap, IsAbove, IsHeap, members}
use Rattle.atlas_search.specs.Heaps.Heap.{None, Top}
use Rattle.atlas_search.specs.Items.{Item, forked, item_at, item_box, item_sides, linked}
use Rattle.atlas_search.specs.Numbers.{occurs, same, no_slot}
use Rattle.atlas_search.specs.Rectangles.{IsSolid}
use Rattle.atlas_search.proofs.Occurrences.{same-self}
use Rattle.atlas_search.proofs.HeapLemmas.Frames.{heap-frame}
use Rattle.atlas_search.proofs.HeapLemmas.Hanging.{plain-areas, plain-then}
use Rattle.atlas_search.proofs.HeapLemmas.Joining.{put-areas}
use Rattle.atlas_search.proofs.HeapLemmas.Removing.{below-of}
use Rattle.atlas_search.proofs.SearchLemmas.Heaps.{occurs-top, top-first}
use Rattle.atlas_search.proofs.SearchLemmas.Routes.{alike-routed, routed-alike}

-- What hangs below the top.
pub sort-parts : (es : List Item) (c : Cell) (top at : ℕ) (left right : Heap) → CanSort es c top at (Top top left right)
    → ArePartsBelow es top left right
sort-parts es c top at left right can = record {
  short = can.short;
  inside = can.heap.0.1;
  low = can.heap.2.0;
  high = can.heap.2.1;
  once = λ k. omega (arith, can.once k, occurs-top k top left right);
  exact = λ k l. can.exact k (omega (arith, l, occurs-top k top left right));
}

-- A heap with a top, by what hangs below it.
pub sort-top : (es : List Item) (c : Cell) (top at : ℕ) (h : Heap) → top ≢ no_slot → CanSort es c top at h
    → (left : Heap) × (right : Heap) × (h ≡ Top top left right) × CanSort es c top at (Top top left right)
sort-top es c top at h some can =
    let b = below-of es can.under top h some can.heap in
    (b.left, b.right, b.is, subst (CanSort es c top at) b.is can)

-- The top is one.
pub fork-is : (es : List Item) (c : Cell) (top at : ℕ) (h : Heap) → top ≢ no_slot → (item_at es top).is_fork ≡ true
    → CanSort es c top at h → IsForked es es c top at h
fork-is es c top at h some isf can =
    let t = sort-top es c top at h some can in
    record {
      left = t.0;
      right = t.1;
      fork = isf;
      up = refl;
      can = t.3;
      has = λ k. sym (ap (λ (q : Heap). occurs k (members q)) t.2);
      others = λ k none. refl;
    }

-- It is none: what hangs below it, melded, hangs in the half of its size.
module _ (es ms fs : List Item) (c : Cell) (top at rest : ℕ) (left right : Heap) (can : CanSort es c top at (Top top left right))
    (split : IsSplit c) (isn : (item_at es top).is_fork ≡ false) (melded : IsMelded es ms top rest left right)
    (kinds : KeepsKinds es ms) (up a b : ℕ) (is : IsPut ms fs top up a b true) (is_up : up ≡ (item_at es top).up) where
  not-top : (k : ℕ) → 0 < occurs k (members melded.both) → k ≢ top
  not-top k l e =
      omega (arith, l, melded.has k, can.once k, occurs-top k top left right, ap (λ n. same n top) e, same-self top)

  long : length fs ≡ length es
  long = is.long ∙ kinds.long

  areas : KeepsAreas es fs
  areas = plain-then es ms fs (plain-areas es ms kinds) (put-areas ms fs top up a b true is)

  sides : (k : ℕ) → item_sides (item_at fs k) ≡ item_sides (item_at es k)
  sides k = ap (λ r. box_sides (box_of r)) (areas.areas k)

  hangs : IsHeap fs top rest melded.both
  hangs = heap-frame ms fs top rest melded.both is.long (λ k l. is.others k (not-top k l)) melded.heap

  above : IsAbove fs top melded.both
  above j l =
      subst (λ (q : Box). ComesFirst q (item_box (item_at fs j))) (sym (ap box_of (areas.areas top)))
      (subst (λ (q : Box). ComesFirst (item_box (item_at es top)) q) (sym (ap box_of (areas.areas j)))
      (top-first es can.under top top left right can.heap j (omega (arith, l, melded.has j, occurs-top j top left right))))

  here : item_at fs top ≡ forked (linked (item_at es top) up a b) true
  here =
      is.here
      ∙ ap (λ (e : Item). forked (linked e up a b) true)
      (melded.others top (omega (arith, can.once top, occurs-top top top left right, same-self top)))

  fork : (item_at fs top).is_fork ≡ true
  fork = ap (λ (e : Item). e.is_fork) here

  below : IsAlike fs (item_sides (item_at es top)) melded.both
  below j l =
      let was = routed-alike es c top left right can.routed isn j (omega (arith, l, melded.has j, occurs-top j top left right)) in
      (sides j ∙ was.0, ap (λ (e : Item). e.is_fork) (is.others j (not-top j l)) ∙ kinds.forks j ∙ was.1)

  none-of-it : (k : ℕ) → occurs k (members (Top top left right)) ≡ 0 → item_at fs k ≡ item_at es k
  none-of-it k none =
      is.others k (λ e. omega (arith, none, occurs-top k top left right, ap (λ n. same n top) e, same-self top))
      ∙ melded.others k (omega (arith, none, occurs-top k top left right))

  pub fork-low : a ≡ rest → b ≡ no_slot → IsIn (item_sides (item_at es top)) (low c) → IsForked es fs c top at (Top top left right)
  fork-low ea eb half =
      let counts : (k : ℕ) → occurs k (members (Top top melded.both None)) ≡ occurs k (members (Top top left right)) =
      λ k. omega (arith, melded.has k, occurs-top k top left right, occurs-top k top melded.both None) in
      record {
        left = melded.both;
        right = None;
        fork = fork;
        up = ap (λ (e : Item). e.up) here ∙ is_up;
        can = record {
          short = omega (arith, can.short, long);
          cell = can.cell;
          under = can.under;
          heap = (
            (refl, omega (arith, can.heap.0.1, long), ap (λ (e : Item). e.up) here ∙ is_up ∙ can.heap.0.2),
            (above, λ j l. absurd (omega (arith, l))),
            (
              subst (λ n. IsHeap fs top n melded.both) (sym (ap (λ (e : Item). e.left) here ∙ ea)) hangs,
              ap (λ (e : Item). e.right) here ∙ eb,
            ),
          );
          once = λ k. omega (arith, can.once k, counts k);
          inside = omega (arith, can.inside, long);
          exact = λ k l. subst IsSolid (sym (areas.areas k)) (can.exact k (omega (arith, l, counts k)));
          routed = (
            subst (λ (s : Sides). IsIn s c) (sym (sides top)) can.routed.0,
            λ isf. (split, alike-routed fs (low c) (item_sides (item_at es top)) melded.both half below, tt),
            λ no_fork. absurd (true≢false (sym fork ∙ no_fork)),
          );
          within = subst (λ (s : Sides). IsIn s c) (sym (sides at)) can.within;
        };
        has = counts;
        others = none-of-it;
      }

  pub fork-high : a ≡ no_slot → b ≡ rest → IsIn (item_sides (item_at es top)) (high c) → IsForked es fs c top at (Top top left right)
  fork-high ea eb half =
      let counts : (k : ℕ) → occurs k (members (Top top None melded.both)) ≡ occurs k (members (Top top left right)) =
      λ k. omega (arith, melded.has k, occurs-top k top left right, occurs-top k top None melded.both) in
      record {
        left = None;
        right = melded.both;
        fork = fork;
        up = ap (λ (e : Item). e.up) here ∙ is_up;
        can = record {
          short = omega (arith, can.short, long);
          cell = can.cell;
          under = can.under;
          heap = (
            (refl, omega (arith, can.heap.0.1, long), ap (λ (e : Item). e.up) here ∙ is_up ∙ can.heap.0.2),
            (λ j l. absurd (omega (arith, l)), above),
            (
              ap (λ (e : Item). e.left) here ∙ ea,
              subst (λ n. IsHeap fs top n melded.both) (sym (ap (λ (e : Item). e.right) here ∙ eb)) hangs,
            ),
          );
          once = λ k. omega (arith, can.once k, counts k);
          inside = omega (arith, can.inside, long);
          exact = λ k l. subst IsSolid (sym (areas.areas k)) (can.exact k (omega (arith, l, counts k)));
          routed = (
            subst (λ (s : Sides). IsIn s c) (sym (sides top)) can.routed.0,
            λ isf. (split, tt, alike-routed fs (high c) (item_sides (item_at es top)) melded.both half below),
            λ no_fork. absurd (true≢false (sym fork ∙ no_fork)),
          );
          within = subst (λ (s : Sides). IsIn s c) (sym (sides at)) can.within;
        };
        has = counts;
        others = none-of-it;
      }

-- The same of any heap that isn't empty.
module _ (es : List Item) (c : Cell) (top at : ℕ) (h : Heap) (some : top ≢ no_slot) (can : CanSort es c top at h) where
  pub sort-solid : IsSolid (item_at es top).area
  sort-solid =
      let t = sort-top es c top at h some can in
      t.3.exact top (omega (arith, occurs-top top top t.0 t.1, same-self top))

  pub sort-within : IsIn (item_sides (item_at es top)) c
  sort-within =
      let t = sort-top es c top at h some can in
      t.3.routed.0

  module _ (ms fs : List Item) (rest up : ℕ) (split : IsSplit c) (isn : (item_at es top).is_fork ≡ false)
      (melds : (l r : Heap) → ArePartsBelow es top l r → IsMelded es ms top rest l r) (kinds : KeepsKinds es ms)
      (is_up : up ≡ (item_at es top).up) where
    pub forks-low : IsPut ms fs top up rest no_slot true → IsIn (item_sides (item_at es top)) (low c) → IsForked es fs c top at h
    forks-low is half =
        let t = sort-top es c top at h some can in
        subst (IsForked es fs c top at) (sym t.2)
        (fork-low es ms fs c top at rest t.0 t.1 t.3 split isn (melds t.0 t.1 (sort-parts es c top at t.0 t.1 t.3)) kinds
        up rest no_slot is is_up refl refl half)

    pub forks-high : IsPut ms fs top up no_slot rest true → IsIn (item_sides (item_at es top)) (high c) → IsForked es fs c top at h
    forks-high is half =
        let t = sort-top es c top at h some can in
        subst (IsForked es fs c top at) (sym t.2)
        (fork-high es ms fs c top at rest t.0 t.1 t.3 split isn (melds t.0 t.1 (sort-parts es c top at t.0 t.1 t.3)) kinds
        up no_slot rest is is_up refl refl half)

pub sort-inside : {E : Type 0} (item : E → Item) (xs : List E) (c : Cell) (top at : ℕ) (h : Heap) → top ≢ no_slot
    → CanSort (map item xs) c top at h → top < length xs
sort-inside item xs c top at h some can =
    let t = sort-top (map item xs) c top at h some can in
    omega (arith, t.3.heap.0.1, length-map xs item)
