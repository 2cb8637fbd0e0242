-- What a packer stores, before and after a box is placed.
use Rattle.std.proofs.Common.{◌≡◌, ◌+◌, ◌≤◌, ℕ, Bool, true, false, List, [], ◌∷◌, ◌++◌, map, All, Contains, Option, Some, None, refl, sym}
use Rattle.std.proofs.Common.{subst, ap, ◌∙◌, arith}
use Rattle.std.specs.List.{count_by}
use Rattle.std.proofs.lemmas.List.{map-append}
use Rattle.std.proofs.lemmas.List.Elements.{All-contains, All-contains_itself, All-head, All-map, All-push, All-tail, All-weaker}
use Rattle.std.proofs.lemmas.List.Elements.{Contains-append_left, Contains-push}
use Rattle.atlas_model.specs.declared.geometry.Rectangle.{Rectangle}
use Rattle.atlas_model.specs.Boxes.{AreDisjoint, Box, IsInside, IsNonempty, IsPositive, IsWithin, Position, Sides, box_at, covers}
use Rattle.atlas_model.specs.Pixels.{box_of}
use Rattle.atlas_model.specs.Replies.{IsExact}
use Rattle.atlas_model.proofs.ListLemmas.ListCounts.{count_by-append, count_by-cons}
use Rattle.atlas_model.proofs.TreeLemmas.TreeBasics.{one_if}
use Rattle.atlas_maxrects.specs.declared.free.FreeBox.{FreeBox}
use Rattle.atlas_maxrects.specs.declared.corners.Corner.{Corner}
use Rattle.atlas_maxrects.specs.Free.{AreLeftOver, IsBestCorner, IsLeftOver, IsStored, LiesInOne, corner_position, free_box, placing}
use Rattle.atlas_maxrects.specs.Placing.{HasNoPlace, IsFree, IsTopmost, LieApart, PlacesTopmost, Placing}

-- Boxes that lie apart have no common unit square.
covers_one : (x y : ℕ) (b c : Box) → LieApart b c → covers x y b ≡ true → covers x y c ≡ false
covers_one x y b c apart has = grind arith

none_covers : (x y : ℕ) (t : Box) (bs : List Box) → All (LieApart t) bs → covers x y t ≡ true
    → count_by (covers x y) bs ≡ 0
none_covers x y t [] all has = refl
none_covers x y t (b ∷ bs) all has =
    let first : covers x y b ≡ false = covers_one x y t b (All-head (LieApart t) b bs all) has in
    count_by-cons (covers x y) b bs
    ∙ ap (λ k. one_if k + count_by (covers x y) bs) first
    ∙ (let rest = none_covers x y t bs (All-tail (LieApart t) b bs all) has in omega (arith, rest))

last_count : (x y : ℕ) (t : Box) (bs : List Box)
    → count_by (covers x y) (bs ++ t ∷ []) ≡ count_by (covers x y) bs + one_if (covers x y t)
last_count x y t bs =
    count_by-append (covers x y) bs (t ∷ [])
    ∙ ap (λ k. count_by (covers x y) bs + k) (count_by-cons (covers x y) t [] ∙ omega arith)

push_counts : (bs : List Box) (t : Box) (x y : ℕ) (p : Bool) → covers x y t ≡ p → All (LieApart t) bs
    → count_by (covers x y) bs ≤ 1 → count_by (covers x y) bs + one_if p ≤ 1
push_counts bs t x y true has apart few = let none = none_covers x y t bs apart has in omega (arith, none)
push_counts bs t x y false has apart few = omega (arith, few)

pub disjoint_push : (bs : List Box) (t : Box) → AreDisjoint bs → All (LieApart t) bs → AreDisjoint (bs ++ t ∷ [])
disjoint_push bs t few apart x y =
    subst (λ k. k ≤ 1) (sym (last_count x y t bs)) (push_counts bs t x y (covers x y t) refl apart (few x y))

apart_inside : (b c d : Box) → IsInside b c → LieApart c d → LieApart b d
apart_inside b c d inside apart = grind arith

-- A box inside a free one is free.
free_inside : (s : Placing) (b c : Box) → IsInside b c → IsFree s c → IsFree s b
free_inside s b c inside free = (
  (omega (arith, free.0), omega (arith, free.0)),
  All-weaker (LieApart c) (LieApart b) (λ d. apart_inside b c d inside) s.placed free.1,
)

lies_free : (s : Placing) (free : List FreeBox) (b : Box) → All (λ f. IsFree s (free_box f)) free → LiesInOne free b
    → IsFree s b
lies_free s free b all (f, has, inside) =
    free_inside s b (free_box f) inside (All-contains (λ f. IsFree s (free_box f)) free f all has)

sides_some : (q : Position) (s : Sides) → IsPositive s → IsNonempty (box_at q s)
sides_some q s positive = (omega arith, omega arith)

pub best_topmost : (sheet : Sides) (free : List FreeBox) (placed : List Rectangle) (s : Sides) (c : Corner)
    → IsPositive s
    → IsStored sheet free placed → IsBestCorner free s (Some c) → IsTopmost (placing sheet placed) s (corner_position c)
best_topmost sheet free placed s c positive stored best = record {
  free = lies_free (placing sheet placed) free _ stored.every best.0;
  first = λ q is. best.1 q (stored.complete _ (sides_some q s positive) is);
}

pub none_topmost : (sheet : Sides) (free : List FreeBox) (placed : List Rectangle) (s : Sides) → IsPositive s
    → IsStored sheet free placed → IsBestCorner free s None → HasNoPlace (placing sheet placed) s
none_topmost sheet free placed s positive stored none q is = none q (stored.complete _ (sides_some q s positive) is)

-- One more box.

last_placed : (placed : List Rectangle) (r : Rectangle)
    → map box_of (placed ++ r ∷ []) ≡ map box_of placed ++ box_of r ∷ []
last_placed placed r = map-append box_of placed (r ∷ [])

free_more : (sheet : Sides) (placed : List Rectangle) (r : Rectangle) (b : Box) → IsFree (placing sheet placed) b
    → LieApart b (box_of r) → IsFree (placing sheet (placed ++ r ∷ [])) b
free_more sheet placed r b free apart = (
  free.0,
  subst (All (LieApart b)) (sym (last_placed placed r)) (All-push (LieApart b) (map box_of placed) (box_of r) free.1 apart),
)

all_before : (P : Box → Type 0) (bs : List Box) (t : Box) → All P (bs ++ t ∷ []) → All P bs
all_before P bs t all =
    All-weaker (Contains bs) P (λ b has. All-contains P (bs ++ t ∷ []) b all (Contains-append_left bs (t ∷ []) b has)) bs
    (All-contains_itself bs)

free_earlier : (sheet : Sides) (placed : List Rectangle) (r : Rectangle) (b : Box)
    → IsFree (placing sheet (placed ++ r ∷ [])) b → IsFree (placing sheet placed) b × LieApart b (box_of r)
free_earlier sheet placed r b free =
    let all = subst (All (LieApart b)) (last_placed placed r) free.1 in (
      (free.0, all_before (LieApart b) (map box_of placed) (box_of r) all),
      All-contains (LieApart b) (map box_of placed ++ box_of r ∷ []) (box_of r) all (Contains-push (map box_of placed) (box_of r)),
    )

left_free : (sheet : Sides) (free : List FreeBox) (placed : List Rectangle) (t f : FreeBox) (r : Rectangle)
    → box_of r ≡ free_box t → IsStored sheet free placed → IsLeftOver free t (free_box f)
    → IsFree (placing sheet (placed ++ r ∷ [])) (free_box f)
left_free sheet free placed t f r same stored (lies, apart) =
    free_more sheet placed r (free_box f) (lies_free (placing sheet placed) free (free_box f) stored.every lies)
    (subst (LieApart (free_box f)) (sym same) apart)

pub stored_more : (sheet : Sides) (free rest : List FreeBox) (placed : List Rectangle) (t : FreeBox) (r : Rectangle)
    → box_of r ≡ free_box t → IsExact r → IsStored sheet free placed → LiesInOne free (free_box t)
    → AreLeftOver free t rest
    → IsStored sheet rest (placed ++ r ∷ [])
stored_more sheet free rest placed t r same exact stored lies left =
    let here : IsFree (placing sheet placed) (box_of r) =
    subst (IsFree (placing sheet placed)) (sym same) (lies_free (placing sheet placed) free (free_box t) stored.every lies) in
    record {
      every = All-weaker (λ f. IsLeftOver free t (free_box f)) (λ f. IsFree (placing sheet (placed ++ r ∷ [])) (free_box f))
          (λ f is. left_free sheet free placed t f r same stored is) rest left.every;
      complete = λ b some is.
          let before = free_earlier sheet placed r b is in
          left.complete b some (stored.complete b some before.0, subst (LieApart b) same before.1);
      small = stored.small;
      within = All-push (λ r. IsWithin sheet (box_of r)) placed r stored.within here.0;
      apart = subst AreDisjoint (sym (last_placed placed r)) (disjoint_push (map box_of placed) (box_of r) stored.apart here.1);
      exact = All-push IsExact placed r stored.exact exact;
    }

pub within_boxes : (sheet : Sides) (free : List FreeBox) (placed : List Rectangle) → IsStored sheet free placed
    → All (IsWithin sheet) (map box_of placed)
within_boxes sheet free placed stored = All-map (IsWithin sheet) box_of placed stored.within

-- The call.

moved_best : (now free : List FreeBox) (s t : Sides) (best : Option Corner) → now ≡ free → s ≡ t
    → IsBestCorner now s best
    → IsBestCorner free t best
moved_best now free s t best same sides is =
    subst (λ u. IsBestCorner free u best) sides (subst (λ f. IsBestCorner f s best) same is)

view_more : (sheet : Sides) (placed items : List Rectangle) (r : Rectangle) (v : Placing) → placing sheet placed ≡ v
    → items ≡ placed ++ r ∷ [] → placing sheet items ≡ record { sheet = v.sheet; placed = v.placed ++ box_of r ∷ [] }
view_more sheet placed items r v view more =
    let P : Placing → Placing = λ u. record { sheet = u.sheet; placed = u.placed ++ box_of r ∷ [] } in
    let Q : List Box → Placing = λ bs. record { sheet = sheet; placed = bs } in
    ap (placing sheet) more ∙ ap Q (last_placed placed r) ∙ ap P view

pub places_none : (sheet : Sides) (now free : List FreeBox) (placed : List Rectangle) (v : Placing) (s t : Sides)
    → placing sheet placed ≡ v → IsStored sheet free placed → now ≡ free → s ≡ t → IsBestCorner now s None
    → PlacesTopmost v t None v
places_none sheet now free placed v s t view stored same sides best = (
  λ positive. subst (λ u. HasNoPlace u t) view
      (none_topmost sheet free placed t positive stored (moved_best now free s t None same sides best)),
  refl,
)

pub places_some : (sheet : Sides) (now free : List FreeBox) (placed items : List Rectangle) (v : Placing) (s t : Sides)
    (c : Corner) (r : Rectangle) → placing sheet placed ≡ v → IsStored sheet free placed → IsPositive t
    → now ≡ free → s ≡ t → IsBestCorner now s (Some c) → box_of r ≡ box_at (corner_position c) s → IsExact r
    → items ≡ placed ++ r ∷ [] → PlacesTopmost v t (Some r) (placing sheet items)
places_some sheet now free placed items v s t c r view stored positive same sides best at exact more =
    let is = moved_best now free s t (Some c) same sides best in
    let lies : box_of r ≡ box_at (corner_position c) t = at ∙ ap (box_at (corner_position c)) sides in
    let corner : (box_of r).min ≡ corner_position c = ap (λ b. b.min) lies in
    let T : Position → Type 0 = λ p. IsTopmost (placing sheet placed) t p in (
      positive,
      subst (λ u. IsTopmost u t (box_of r).min) view (subst T (sym corner) (best_topmost sheet free placed t c positive stored is)),
      lies ∙ sym (ap (λ p. box_at p t) corner),
      exact,
      view_more sheet placed items r v view more,
    )

pub stored_taken : (sheet : Sides) (now later free rest : List FreeBox) (placed : List Rectangle) (t : FreeBox)
    (b : Box)
    (r : Rectangle) → now ≡ free → later ≡ free → IsStored sheet free placed → LiesInOne now b → free_box t ≡ b
    → AreLeftOver later t rest → box_of r ≡ free_box t → IsExact r → IsStored sheet rest (placed ++ r ∷ [])
stored_taken sheet now later free rest placed t b r same again stored lies at left is exact =
    stored_more sheet free rest placed t r is exact stored
    (subst (LiesInOne free) (sym at) (subst (λ f. LiesInOne f b) same lies)) (subst (λ f. AreLeftOver f t rest) again left)
