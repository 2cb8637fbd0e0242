-- Lists as heaps: the order of their entries, and what is read of them.
use Rattle.std.proofs.Common.{◌≡◌, ◌≢◌, ℕ, ◌+◌, ◌<◌, ◌≤◌, List, [], ◌∷◌, ◌++◌, length, map, get_or, refl, ap, sym, ◌∙◌, subst, inl, inr}
use Rattle.std.proofs.Common.{arith}
use Rattle.std.proofs.lemmas.Bool.{cases_eq}
use Rattle.std.proofs.lemmas.List.{get_or-map}
use Rattle.atlas_model.specs.Boxes.{Box}
use Rattle.atlas_model.specs.Choice.{ComesFirst}
use Rattle.atlas_search.specs.Forks.{IsListed}
use Rattle.atlas_search.specs.Heaps.{Heap, IsHeap, members, tag_of}
use Rattle.atlas_search.specs.Heaps.Heap.{None, Top}
use Rattle.atlas_search.specs.Items.{Item, item_at, item_box, no_item}
use Rattle.atlas_search.specs.Numbers.{occurs, same, no_slot}
use Rattle.atlas_search.specs.Ranks.{corner_of}
use Rattle.atlas_search.proofs.Occurrences.{same-ne}

pub occurs-append : (i : ℕ) (xs ys : List ℕ) → occurs i (xs ++ ys) ≡ occurs i xs + occurs i ys
occurs-append i [] ys = omega arith
occurs-append i (x ∷ xs) ys = omega (arith, occurs-append i xs ys)

pub occurs-top : (i at : ℕ) (left right : Heap)
    → occurs i (members (Top at left right)) ≡ same i at + (occurs i (members left) + occurs i (members right))
occurs-top i at left right = ap (λ n. same i at + n) (occurs-append i (members left) (members right))

pub first-self : (b : Box) → ComesFirst b b
first-self b = inr (refl, omega arith)

-- What begins with the lesser corner comes first.
pub corner-first : (a b : Box) → a.min.x < 4294967296 → b.min.x < 4294967296 → corner_of a ≤ corner_of b → ComesFirst a b
corner-first a b na nb l = elim (cases_eq a.min.y b.min.y) [
  | inl e ↦ inr (e, omega (arith, e, na, nb, l))
  | inr ne ↦ inl
      (omega (arith, ne, na, nb, l))
]

-- What is read of an entry.
pub item-read : {E : Type 0} (item : E → Item) (xs : List E) (i : ℕ) (x : E) → i < length xs → x ≡ get_or xs i x
    → item x ≡ item_at (map item xs) i
item-read item xs i x h e = ap item e ∙ sym (get_or-map item xs i x no_item h)

pub heap-inside : (es : List Item) (up top : ℕ) (h : Heap) → IsHeap es up top h → (i : ℕ) → 0 < occurs i (members h)
    → i < length es
heap-inside es up top None h i l = absurd (omega (arith, l))
heap-inside es up top (Top at left right) h i l =
    elim (cases_eq i at) [
      | inl e ↦ subst (λ n. n < length es) (sym e) h.0.1
      | inr ne ↦ elim (cases_eq (occurs i (members left)) 0) [
        | inl z ↦ heap-inside es at _ right h.2.1 i (omega (arith, l, occurs-top i at left right, same-ne i at ne, z))
        | inr more ↦ heap-inside es at _ left h.2.0 i (omega (arith, more))
      ]
    ]

-- The top comes first.
pub top-first : (es : List Item) (up top at : ℕ) (left right : Heap) → IsHeap es up top (Top at left right) → (j : ℕ)
    → 0 < occurs j (members (Top at left right)) → ComesFirst (item_box (item_at es at)) (item_box (item_at es j))
top-first es up top at left right h j l =
    elim (cases_eq j at) [
      | inl e ↦ subst (λ n. ComesFirst (item_box (item_at es at)) (item_box (item_at es n))) (sym e) (first-self (item_box (item_at es at)))
      | inr ne ↦ elim (cases_eq (occurs j (members left)) 0) [
        | inl z ↦ h.1.1 j (omega (arith, l, occurs-top j at left right, same-ne j at ne, z))
        | inr more ↦ h.1.0 j (omega (arith, more))
      ]
    ]

-- A heap that begins with none has no entry.
pub none-of : (es : List Item) (up top : ℕ) (h : Heap) → length es ≤ no_slot → IsHeap es up top h → top ≡ no_slot → h ≡ None
none-of es up top None short h none = refl
none-of es up top (Top at left right) short h none = absurd (omega (arith, short, none, h.0.0, h.0.1))

-- The top of a heap, by its number.
pub record HasTop (es : List Item) (up top : ℕ) (h : Heap) : Type 0 where
  pub left : Heap
  pub right : Heap
  pub is : h ≡ Top top left right
  pub inside : top < length es

-- A heap that begins with an entry has it on top.
pub top-of : (es : List Item) (up top : ℕ) (h : Heap) → IsHeap es up top h → top ≢ no_slot → HasTop es up top h
top-of es up top None h some = absurd (some h)
top-of es up top (Top at left right) h some = record {
  left = left;
  right = right;
  is = ap (λ n. Top n left right) (sym h.0.0);
  inside = omega (arith, h.0.0, h.0.1);
}

pub listed-inside : (es : List Item) (k head : ℕ) (xs : List ℕ) → IsListed es k head xs → (i : ℕ) → 0 < occurs i xs
    → i < length es
listed-inside es k head xs h i l = heap-inside es (tag_of k) head h.0 h.1 i (omega (arith, l, h.2 i))

-- A list with an entry begins with one.
pub listed-some : (es : List Item) (k head : ℕ) (xs : List ℕ) (i : ℕ) → length es ≤ no_slot → IsListed es k head xs
    → 0 < occurs i xs → head ≢ no_slot
listed-some es k head xs i short h l none =
    let empty = none-of es (tag_of k) head h.0 short h.1 none in
    omega (arith, l, h.2 i, ap (λ (g : Heap). occurs i (members g)) empty)
