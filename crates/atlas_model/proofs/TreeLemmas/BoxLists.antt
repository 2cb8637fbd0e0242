-- The lists of live grants and of free boxes, as parts of the leaves.
use Rattle.std.proofs.Common.{rules, ◌≡◌, ℕ, ◌+◌, ◌*◌, ◌≤◌, ◌<◌, ◌==◌, ◌%◌, ◌^◌, Bool, true, false, cond, Option, Some}
use Rattle.std.proofs.Common.{None, List, [], ◌∷◌, ◌++◌, map, refl, ap, sym, ◌∙◌, arith, All}
use Rattle.std.proofs.lemmas.Bool.{eqb-true, eq-eqb}
use Rattle.std.proofs.lemmas.List.Elements.{All-nil, All-cons, All-append, All-head, All-tail}
use Rattle.std.proofs.lemmas.List.Sums.{sum_by-cons, sum_by-append}
use Rattle.std.specs.List.{count_by, sum_by}
use Rattle.atlas_model.specs.Boxes.{Sides, Box, area, covers, same_box, IsNonempty, IsWithin}
use Rattle.atlas_model.specs.Trees.{Tree, Leaf, Grant, tree_leaves, granted, ungranted, live, free_boxes, ids}
use Rattle.atlas_model.specs.Trees.{slot_count, IsWellFormed}
use Rattle.atlas_model.proofs.ListLemmas.ListCounts.{count_by-weaker, count_by-cons}
use Rattle.atlas_model.proofs.TreeLemmas.TreeTiles.{areas_add_up, squares_once, boxes_within}
use Rattle.atlas_model.proofs.TreeLemmas.TreeIds.{ids-live}

-- The boxes of grants, and free boxes.
abbrev pub all_boxes : Sides → Tree → List Box
all_boxes size t = map (λ g. g.box) (live size t) ++ free_boxes size t

abbrev boxes_of : List Leaf → List Box
boxes_of ls = map (λ g. g.box) (granted ls) ++ ungranted ls

-- What is added up over the leaves' boxes is added up over those lists.
sums_of_leaves : (f : Box → ℕ) (ls : List Leaf) → sum_by f (boxes_of ls) ≡ sum_by (λ (l : Leaf). f l.box) ls
sums_of_leaves f [] = refl
sums_of_leaves f (l ∷ ls) = by_owner l.owner l.box (sums_of_leaves f ls) ∙ sym (sum_by-cons (λ (k : Leaf). f k.box) l ls)
  where
    n : ℕ
    n = sum_by (λ (k : Leaf). f k.box) ls

    by_owner : (w : Option ℕ) (b : Box) → sum_by f (boxes_of ls) ≡ n
        → sum_by f (boxes_of (record { owner = w; box = b } ∷ ls)) ≡ f b + n
    by_owner (Some id) b h = sum_by-cons f b (boxes_of ls) ∙ ap (λ k. f b + k) h
    by_owner None b h = grind (arith, sum_by-append, sum_by-cons, n)

pub squares_in_one : (size : Sides) (t : Tree) → IsWellFormed size t → (x y : ℕ) → x < size.width → y < size.height
    → count_by (covers x y) (all_boxes size t) ≡ 1
squares_in_one size t well x y in_x in_y =
    sums_of_leaves (λ b. cond (covers x y b) 1 0) (tree_leaves size t) ∙ squares_once size t well x y in_x in_y

pub areas_of_boxes : (size : Sides) (t : Tree) → IsWellFormed size t
    → sum_by area (all_boxes size t) ≡ size.width * size.height
areas_of_boxes size t well = sums_of_leaves area (tree_leaves size t) ∙ areas_add_up size t well

-- What holds of each leaf's box holds of those lists.
granted_all : (P : Box → Type 0) (ls : List Leaf) → All (λ (l : Leaf). P l.box) ls
    → All (λ (g : Grant). P g.box) (granted ls)
granted_all P [] h = All-nil (λ (g : Grant). P g.box)
granted_all P (l ∷ ls) h =
    grind (arith, All-head, granted_all P ls (All-tail (λ (k : Leaf). P k.box) l ls h), All-tail, All-cons)

ungranted_all : (P : Box → Type 0) (ls : List Leaf) → All (λ (l : Leaf). P l.box) ls → All P (ungranted ls)
ungranted_all P [] h = All-nil P
ungranted_all P (l ∷ ls) h =
    grind (arith, All-head, ungranted_all P ls (All-tail (λ (k : Leaf). P k.box) l ls h), All-tail, All-cons)

mapped_all : (P : Box → Type 0) (gs : List Grant) → All (λ (g : Grant). P g.box) gs
    → All P (map (λ (g : Grant). g.box) gs)
mapped_all P [] h = All-nil P
mapped_all P (g ∷ gs) h = All-cons P _ _ (All-head (λ (k : Grant). P k.box) g gs h)
    (mapped_all P gs (All-tail (λ (k : Grant). P k.box) g gs h))

pub live_in_place : (size : Sides) (t : Tree) → IsWellFormed size t
    → All (λ g. IsNonempty g.box × IsWithin size g.box) (live size t)
live_in_place size t well = granted_all (λ b. IsNonempty b × IsWithin size b) (tree_leaves size t) (boxes_within size t well)

pub free_in_place : (size : Sides) (t : Tree) → IsWellFormed size t
    → All (λ b. IsNonempty b × IsWithin size b) (free_boxes size t)
free_in_place size t well = ungranted_all (λ b. IsNonempty b × IsWithin size b) (tree_leaves size t) (boxes_within size t well)

pub boxes_in_place : (size : Sides) (t : Tree) → IsWellFormed size t
    → All (λ b. IsNonempty b × IsWithin size b) (all_boxes size t)
boxes_in_place size t well = search (rules, All-append, mapped_all, live_in_place, free_in_place)

-- No unit square is in two free boxes.
pub free_once : (size : Sides) (t : Tree) → IsWellFormed size t → (x y : ℕ) → x < size.width → y < size.height
    → count_by (covers x y) (free_boxes size t) ≤ 1
free_once size t well x y in_x in_y =
    let all : count_by (covers x y) (all_boxes size t) ≡ 1 = squares_in_one size t well x y in_x in_y in
    let parts : count_by (covers x y) (all_boxes size t) ≡ count_by (covers x y)
    (map (λ (g : Grant). g.box) (live size t)) + count_by (covers x y) (free_boxes size t)
    = sum_by-append (λ b. cond (covers x y b) 1 0) (map (λ (g : Grant). g.box) (live size t)) (free_boxes size t) in
    omega arith

count_mapped : (p : ℕ → Bool) (gs : List Grant)
    → count_by (λ (g : Grant). p g.id) gs ≡ count_by p (map (λ (g : Grant). g.id) gs)
count_mapped p [] = refl
count_mapped p (g ∷ gs) = count_by-cons (λ (k : Grant). p k.id) g gs ∙ ap (λ k. cond (p g.id) 1 0 + k) (count_mapped p gs)
    ∙ sym (count_by-cons p g.id (map (λ (k : Grant). k.id) gs))

-- How often a live id passes a test.
pub count_live : (p : ℕ → Bool) (size : Sides) (t : Tree)
    → count_by (λ g. p g.id) (live size t) ≡ count_by p (ids t.members)
count_live p size t = count_mapped p (live size t) ∙ ap (count_by p) (ids-live size t)

same_slot : (id k : ℕ) → (k == id) ≡ true → (k % 2 ^ 24 == id % 2 ^ 24) ≡ true
same_slot id k h = eq-eqb _ _ (ap (λ j. j % 2 ^ 24) (eqb-true k id h))

-- An id is live at most as often as its slot is used.
pub live_few : (id : ℕ) (size : Sides) (t : Tree) → count_by (λ g. g.id == id) (live size t) ≤ slot_count id (ids t.members)
live_few id size t = grind (arith, count_by-weaker, same_slot, count_live)

-- Grants can be told apart.
abbrev pub same_grant : Grant → Grant → Bool
same_grant g h = cond (g.id == h.id) (same_box g.box h.box) false

pub same_grant-itself : (g : Grant) → same_grant g g ≡ true
same_grant-itself g = grind arith

pub same_grant-true : (g h : Grant) → same_grant g h ≡ true → g ≡ h
same_grant-true g h is = grind arith
