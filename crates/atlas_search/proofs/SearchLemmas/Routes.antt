-- Heaps whose sizes are in a cell.
use Rattle.std.proofs.Common.{◌≡◌, ℕ, ◌<◌, false, List, ap, sym, ◌∙◌, subst, inl, inr, arith}
use Rattle.std.proofs.lemmas.Bool.{cases_Bool, cases_eq, true≢false}
use Rattle.atlas_search.specs.declared.cells.Cell.{Cell}
use Rattle.atlas_model.specs.Boxes.{Sides}
use Rattle.atlas_search.specs.Forks.{IsAlike, IsCell, IsIn, IsRouted, Reroutes, high, low}
use Rattle.atlas_search.specs.Heaps.{Heap, members}
use Rattle.atlas_search.specs.Heaps.Heap.{None, Top}
use Rattle.atlas_search.specs.Items.{Item, item_at, item_sides}
use Rattle.atlas_search.specs.Numbers.{occurs, same}
use Rattle.atlas_search.proofs.Occurrences.{same-self, same-ne}
use Rattle.atlas_search.proofs.SearchLemmas.Cells.{high-cell, high-within, low-cell, low-within}
use Rattle.atlas_search.proofs.SearchLemmas.Heaps.{occurs-top}

-- Each entry has a size of the cell.
pub routed-in : (es : List Item) (c : Cell) (h : Heap) → IsCell c → IsRouted es c h → (i : ℕ) → 0 < occurs i (members h)
    → IsIn (item_sides (item_at es i)) c
routed-in es c None is r i l = absurd (omega (arith, l))
routed-in es c (Top at left right) is r i l =
    elim (cases_eq i at) [
      | inl e ↦ subst (λ n. IsIn (item_sides (item_at es n)) c) (sym e) r.0
      | inr ne ↦ elim (cases_Bool (item_at es at).is_fork) [
        | inl isf ↦
            let f = r.1 isf in
            elim (cases_eq (occurs i (members left)) 0) [
              | inl z ↦ high-within c (item_sides (item_at es i))
                  (routed-in es (high c) right (high-cell c is f.0) f.2 i
                  (omega (arith, l, occurs-top i at left right, same-ne i at ne, z)))
              | inr more ↦ low-within c (item_sides (item_at es i)) is
                  (routed-in es (low c) left (low-cell c is f.0) f.1 i (omega (arith, more)))
            ]
        | inr isn ↦
            let a = r.2 isn in
            elim (cases_eq (occurs i (members left)) 0) [
              | inl z ↦ subst (λ (s : Sides). IsIn s c)
                  (sym (a.1 i (omega (arith, l, occurs-top i at left right, same-ne i at ne, z))).0) r.0
              | inr more ↦ subst (λ (s : Sides). IsIn s c) (sym (a.0 i (omega (arith, more))).0) r.0
            ]
      ]
    ]

-- The entries of a heap have the rectangles that they had, and are forks where they were.
abbrev pub KeepsRoutes : (es fs : List Item) → Heap → Type 0
KeepsRoutes es fs h = (k : ℕ) → 0 < occurs k (members h)
    → ((item_at fs k).area ≡ (item_at es k).area) × ((item_at fs k).is_fork ≡ (item_at es k).is_fork)

pub sides-same : (e f : Item) → f.area ≡ e.area → item_sides f ≡ item_sides e
sides-same e f a = ap (λ r. item_sides (record e { area = r })) a

pub alike-frame : (es fs : List Item) (s : Sides) (h : Heap) → KeepsRoutes es fs h → IsAlike es s h → IsAlike fs s h
alike-frame es fs s h kept a j l =
    (sides-same (item_at es j) (item_at fs j) (kept j l).0 ∙ (a j l).0, (kept j l).1 ∙ (a j l).1)

pub routed-frame : (es fs : List Item) (c : Cell) (h : Heap) → KeepsRoutes es fs h → IsRouted es c h → IsRouted fs c h
routed-frame es fs c None kept r = r
routed-frame es fs c (Top at left right) kept r =
    let here = kept at (omega (arith, same-self at, occurs-top at at left right)) in
    let on_left = λ (k : ℕ) (l : 0 < occurs k (members left)). kept k (omega (arith, l, occurs-top k at left right)) in
    let on_right = λ (k : ℕ) (l : 0 < occurs k (members right)). kept k (omega (arith, l, occurs-top k at left right)) in
    let sides = sides-same (item_at es at) (item_at fs at) here.0 in (
      subst (λ (s : Sides). IsIn s c) (sym sides) r.0,
      λ isf.
          let f = r.1 (sym here.1 ∙ isf) in
          (f.0, routed-frame es fs (low c) left on_left f.1, routed-frame es fs (high c) right on_right f.2),
      λ isn.
          let a = r.2 (sym here.1 ∙ isn) in (
            subst (λ (s : Sides). IsAlike fs s left) (sym sides) (alike-frame es fs (item_sides (item_at es at)) left on_left a.0),
            subst (λ (s : Sides). IsAlike fs s right) (sym sides) (alike-frame es fs (item_sides (item_at es at)) right on_right a.1),
          ),
    )

-- Entries of one size of a cell are routed there, in whatever heap.
pub alike-routed : (es : List Item) (c : Cell) (s : Sides) (h : Heap) → IsIn s c → IsAlike es s h → IsRouted es c h
alike-routed es c s None within a = tt
alike-routed es c s (Top at left right) within a =
    let here = a at (omega (arith, same-self at, occurs-top at at left right)) in (
      subst (λ (t : Sides). IsIn t c) (sym here.0) within,
      λ isf. absurd (true≢false (sym isf ∙ here.1)),
      λ isn. (
        λ j l. let b = a j (omega (arith, l, occurs-top j at left right)) in (b.0 ∙ sym here.0, b.1),
        λ j l. let b = a j (omega (arith, l, occurs-top j at left right)) in (b.0 ∙ sym here.0, b.1),
      ),
    )

-- A heap whose top is no fork has entries of one size.
pub routed-alike : (es : List Item) (c : Cell) (at : ℕ) (left right : Heap) → IsRouted es c (Top at left right)
    → (item_at es at).is_fork ≡ false → IsAlike es (item_sides (item_at es at)) (Top at left right)
routed-alike es c at left right r isn j l =
    elim (cases_eq j at) [
      | inl e ↦ (ap (λ n. item_sides (item_at es n)) e, ap (λ n. (item_at es n).is_fork) e ∙ isn)
      | inr ne ↦ elim (cases_eq (occurs j (members left)) 0) [
        | inl z ↦ (r.2 isn).1 j (omega (arith, l, occurs-top j at left right, same-ne j at ne, z))
        | inr more ↦ (r.2 isn).0 j (omega (arith, more))
      ]
    ]

pub keeps-same : (es fs : List Item) (h : Heap) → ((k : ℕ) → 0 < occurs k (members h) → item_at fs k ≡ item_at es k) → KeepsRoutes es fs h
keeps-same es fs h same k l = (ap (λ (e : Item). e.area) (same k l), ap (λ (e : Item). e.is_fork) (same k l))

pub reroutes-kept : (es fs : List Item) (h : Heap) → KeepsRoutes es fs h → Reroutes es fs h h
reroutes-kept es fs h kept = record {
  routed = λ c r. routed-frame es fs c h kept r;
  alike = λ s a. alike-frame es fs s h kept a;
}

pub reroutes-same : (es fs : List Item) (h : Heap) → ((k : ℕ) → 0 < occurs k (members h) → item_at fs k ≡ item_at es k)
    → Reroutes es fs h h
reroutes-same es fs h same = reroutes-kept es fs h (keeps-same es fs h same)

pub reroutes-then : (es fs gs : List Item) (f g h : Heap) → Reroutes es fs f g → Reroutes fs gs g h → Reroutes es gs f h
reroutes-then es fs gs f g h a b = record { routed = λ c r. b.routed c (a.routed c r); alike = λ s q. b.alike s (a.alike s q) }

-- The same top, with other heaps below it.
pub reroutes-top : (es fs : List Item) (at : ℕ) (left right l r : Heap) → (item_at fs at).area ≡ (item_at es at).area
    → (item_at fs at).is_fork ≡ (item_at es at).is_fork → Reroutes es fs left l → Reroutes es fs right r
    → Reroutes es fs (Top at left right) (Top at l r)
reroutes-top es fs at left right l r area fork a b =
    let sides = sides-same (item_at es at) (item_at fs at) area in
    record {
      routed = λ c was. (
        subst (λ (s : Sides). IsIn s c) (sym sides) was.0,
        λ isf. let f = was.1 (sym fork ∙ isf) in (f.0, a.routed (low c) f.1, b.routed (high c) f.2),
        λ isn.
            let q = was.2 (sym fork ∙ isn) in (
              subst (λ (s : Sides). IsAlike fs s l) (sym sides) (a.alike (item_sides (item_at es at)) q.0),
              subst (λ (s : Sides). IsAlike fs s r) (sym sides) (b.alike (item_sides (item_at es at)) q.1),
            ),
      );
      alike = λ s was j m. elim (cases_eq j at) [
        | inl e ↦
            let here = was at (omega (arith, same-self at, occurs-top at at left right)) in (
              ap (λ n. item_sides (item_at fs n)) e ∙ sides ∙ here.0,
              ap (λ n. (item_at fs n).is_fork) e ∙ fork ∙ here.1,
            )
        | inr ne ↦ elim (cases_eq (occurs j (members l)) 0) [
          | inl z ↦ b.alike s (λ k n. was k (omega (arith, n, occurs-top k at left right))) j
              (omega (arith, m, occurs-top j at l r, same-ne j at ne, z))
          | inr more ↦ a.alike s (λ k n. was k (omega (arith, n, occurs-top k at left right))) j (omega (arith, more))
        ]
      ];
    }
