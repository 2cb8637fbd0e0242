-- What lies inside one of some free boxes, and what is left where one is taken.
use Rattle.std.proofs.Common.{◌≡◌, ◌+◌, ◌<◌, ◌≤◌, ◌⊎◌, ℕ, min, max, List, [], ◌∷◌, ◌++◌, length, take, get_or, All, Contains, refl, sym}
use Rattle.std.proofs.Common.{subst, inl, inr, arith}
use Rattle.std.proofs.lemmas.List.{take_all, take_more}
use Rattle.std.proofs.lemmas.List.Elements.{All-append, All-contains, All-contains_itself, All-push, All-weaker, Contains-append_left}
use Rattle.std.proofs.lemmas.List.Elements.{Contains-append_right, Contains-get_or, Contains-push, Contains-push_cases}
use Rattle.atlas_model.specs.Boxes.{Box, IsInside, IsNonempty}
use Rattle.atlas_model.proofs.TreeLemmas.TreeRoom.{inside_trans}
use Rattle.atlas_maxrects.specs.declared.free.FreeBox.{FreeBox}
use Rattle.atlas_maxrects.specs.Free.{AddsParts, AreLeftOver, IsLeftOver, IsPart, LiesInOne, free_box}
use Rattle.atlas_maxrects.specs.Placing.{LieApart}

pub lies_left : (xs ys : List FreeBox) (b : Box) → LiesInOne xs b → LiesInOne (xs ++ ys) b
lies_left xs ys b (f, has, inside) = (f, Contains-append_left xs ys f has, inside)

pub lies_right : (xs ys : List FreeBox) (b : Box) → LiesInOne ys b → LiesInOne (xs ++ ys) b
lies_right xs ys b (f, has, inside) = (f, Contains-append_right xs ys f has, inside)

pub lies_last : (xs : List FreeBox) (f : FreeBox) (b : Box) → IsInside b (free_box f) → LiesInOne (xs ++ f ∷ []) b
lies_last xs f b inside = (f, Contains-push xs f, inside)

pub lies_cases : (xs : List FreeBox) (f : FreeBox) (b : Box) → LiesInOne (xs ++ f ∷ []) b
    → LiesInOne xs b ⊎ IsInside b (free_box f)
lies_cases xs f b (g, has, inside) =
    elim (Contains-push_cases xs f g has) [
      | inl there ↦ inl (g, there, inside)
      | inr same ↦ inr (subst (λ h. IsInside b (free_box h)) (sym same) inside)
    ]

-- What holds of all, and of one that is added.
every_more : (P : FreeBox → Type 0) (xs ys : List FreeBox) (part : FreeBox) → All P xs → P part
    → All (λ f. Contains xs f ⊎ (f ≡ part)) ys → All P ys
every_more P xs ys part all new added =
    All-weaker (λ f. Contains xs f ⊎ (f ≡ part)) P
    (λ f from. elim from [ inl there ↦ All-contains P xs f all there | inr same ↦ subst P (sym same) new ])
    ys added

pub all_old : (old xs : List FreeBox) (whole taken : FreeBox) → All (λ f. Contains old f) xs
    → All (λ f. Contains old f ⊎ IsPart whole taken f) xs
all_old old xs whole taken all = All-weaker (λ f. Contains old f) (λ f. Contains old f ⊎ IsPart whole taken f) (λ f has. inl has) xs all

-- Four parts are added one after another.
pub record IsAdded (xs : List FreeBox) (part : FreeBox) (ys : List FreeBox) : Type 0 where
  pub kept : (b : Box) → LiesInOne xs b → LiesInOne ys b
  pub added : (b : Box) → IsNonempty b → IsInside b (free_box part) → LiesInOne ys b
  pub every : All (λ f. Contains xs f ⊎ (f ≡ part)) ys

pub parts_added : (whole taken : FreeBox) (right left bottom top : ℕ) (a b c d e : List FreeBox)
    → right ≡ min whole.right taken.left → left ≡ max whole.left taken.right
    → bottom ≡ min whole.bottom taken.top → top ≡ max whole.top taken.bottom
    → IsAdded a (record { left = whole.left; top = whole.top; right = right; bottom = whole.bottom }) b
    → IsAdded b (record { left = left; top = whole.top; right = whole.right; bottom = whole.bottom }) c
    → IsAdded c (record { left = whole.left; top = whole.top; right = whole.right; bottom = bottom }) d
    → IsAdded d (record { left = whole.left; top = top; right = whole.right; bottom = whole.bottom }) e
    → AddsParts a whole taken e
parts_added whole taken right left bottom top a b c d e r l u v one two three four =
    let P : FreeBox → Type 0 = λ f. Contains a f ⊎ IsPart whole taken f in
    record {
      kept = λ x lies. four.kept x (three.kept x (two.kept x (one.kept x lies)));
      added = λ x some inside apart. elim apart [
        | inl before ↦ four.kept x (three.kept x (two.kept x (one.added x some (omega arith, omega arith, omega arith, omega arith))))
        | inr (inl after) ↦ four.kept x (three.kept x (two.added x some (omega arith, omega arith, omega arith, omega arith)))
        | inr (inr (inl above)) ↦ four.kept x (three.added x some (omega arith, omega arith, omega arith, omega arith))
        | inr (inr (inr below)) ↦ four.added x some (omega arith, omega arith, omega arith, omega arith)
      ];
      every =
          every_more P d e _
          (every_more P c d _
          (every_more P b c _
          (every_more P a b _ (all_old a a whole taken (All-contains_itself a)) (inr (grind arith)) one.every)
          (inr (grind arith)) two.every)
          (inr (grind arith)) three.every)
          (inr (grind arith)) four.every;
    }

-- Free boxes one after another: those before i gave way to some far from the taken box, and to parts of others.
pub record AreLeaving (free : List FreeBox) (taken : FreeBox) (i : ℕ) (xs ys : List FreeBox) : Type 0 where
  pub far : All (λ f. IsLeftOver free taken (free_box f)) xs
  pub near : All (λ f. IsLeftOver free taken (free_box f)) ys
  pub complete : (b : Box) → IsNonempty b → IsLeftOver (take i free) taken b → LiesInOne xs b ⊎ LiesInOne ys b

-- What lies in one of the first i + 1.
taken_cases : (free : List FreeBox) (i : ℕ) (d : FreeBox) (b : Box) → i < length free → LiesInOne (take (i + 1) free) b
    → LiesInOne (take i free) b ⊎ IsInside b (free_box (get_or free i d))
taken_cases free i d b below lies =
    lies_cases (take i free) (get_or free i d) b (subst (λ xs. LiesInOne xs b) (take_more free i d below) lies)

pub leaving_far : (free : List FreeBox) (taken : FreeBox) (i : ℕ) (far near : List FreeBox) (d : FreeBox)
    → i < length free → LieApart (free_box (get_or free i d)) (free_box taken) → AreLeaving free taken i far near
    → AreLeaving free taken (i + 1) (far ++ get_or free i d ∷ []) near
leaving_far free taken i far near d below apart before =
    let f = get_or free i d in
    record {
      far = All-push (λ g. IsLeftOver free taken (free_box g)) far f before.far
          ((f, Contains-get_or free i d below, (omega arith, omega arith, omega arith, omega arith)), apart);
      near = before.near;
      complete = λ b some is. elim (taken_cases free i d b below is.0) [
        | inl old ↦ elim (before.complete b some (old, is.1)) [
          | inl there ↦ inl (lies_left far _ b there)
          | inr there ↦ inr there
        ]
        | inr inside ↦ inl (lies_last far f b inside)
      ];
    }

near_left : (free : List FreeBox) (taken f g : FreeBox) → Contains free f → IsPart f taken g
    → IsLeftOver free taken (free_box g)
near_left free taken f g has part = ((f, has, part.0), part.1)

pub leaving_near : (free : List FreeBox) (taken : FreeBox) (i : ℕ) (far near next : List FreeBox) (d : FreeBox)
    → i < length free → AddsParts near (get_or free i d) taken next → AreLeaving free taken i far near
    → AreLeaving free taken (i + 1) far next
leaving_near free taken i far near next d below parts before =
    let f = get_or free i d in
    let P : FreeBox → Type 0 = λ g. IsLeftOver free taken (free_box g) in
    record {
      far = before.far;
      near = All-weaker (λ g. Contains near g ⊎ IsPart f taken g) P
          (λ g from. elim from [
            | inl old ↦ All-contains P near g before.near old
            | inr part ↦ near_left free taken f g (Contains-get_or free i d below) part
          ])
          next parts.every;
      complete = λ b some is. elim (taken_cases free i d b below is.0) [
        | inl old ↦ elim (before.complete b some (old, is.1)) [
          | inl there ↦ inl there
          | inr there ↦ inr (parts.kept b there)
        ]
        | inr inside ↦ inr (parts.added b some inside is.1)
      ];
    }

pub all_left : (free : List FreeBox) (taken : FreeBox) (i : ℕ) (far near : List FreeBox) → length free ≤ i
    → AreLeaving free taken i far near → AreLeftOver free taken (far ++ near)
all_left free taken i far near end before =
    record {
      every = All-append (λ f. IsLeftOver free taken (free_box f)) far near before.far before.near;
      complete = λ b some is. elim (before.complete b some
          (subst (λ xs. LiesInOne xs b) (sym (take_all i free end)) is.0, is.1)) [
            | inl there ↦ lies_left far near b there
            | inr there ↦ lies_right far near b there
          ];
    }

-- Those that don't lie inside a part, one more at a time.

pub record AreWithout (boxes : List FreeBox) (part : FreeBox) (i : ℕ) (xs : List FreeBox) : Type 0 where
  pub kept : (b : Box) → LiesInOne (take i boxes) b → LiesInOne xs b ⊎ IsInside b (free_box part)
  pub every : All (Contains boxes) xs

pub without_kept : (boxes : List FreeBox) (part : FreeBox) (i : ℕ) (xs : List FreeBox) (d : FreeBox) → i < length boxes
    → AreWithout boxes part i xs → AreWithout boxes part (i + 1) (xs ++ get_or boxes i d ∷ [])
without_kept boxes part i xs d below before =
    let f = get_or boxes i d in
    record {
      kept = λ b lies. elim (taken_cases boxes i d b below lies) [
        | inl old ↦ elim (before.kept b old) [ inl there ↦ inl (lies_left xs (f ∷ []) b there) | inr inside ↦ inr inside ]
        | inr inside ↦ inl (lies_last xs f b inside)
      ];
      every = All-push (Contains boxes) xs f before.every (Contains-get_or boxes i d below);
    }

pub without_dropped : (boxes : List FreeBox) (part : FreeBox) (i : ℕ) (xs : List FreeBox) (d : FreeBox)
    → i < length boxes
    → IsInside (free_box (get_or boxes i d)) (free_box part) → AreWithout boxes part i xs
    → AreWithout boxes part (i + 1) xs
without_dropped boxes part i xs d below lies before = record {
  kept = λ b is. elim (taken_cases boxes i d b below is) [
    | inl old ↦ before.kept b old
    | inr inside ↦ inr (inside_trans b (free_box (get_or boxes i d)) (free_box part) inside lies)
  ];
  every = before.every;
}

pub added_last : (old kept : List FreeBox) (part : FreeBox)
    → ((b : Box) → LiesInOne old b → LiesInOne kept b ⊎ IsInside b (free_box part))
    → (b : Box) → LiesInOne old b → LiesInOne (kept ++ part ∷ []) b
added_last old kept part is b lies =
    elim (is b lies) [ inl there ↦ lies_left kept (part ∷ []) b there | inr inside ↦ lies_last kept part b inside ]

pub every_last : (old kept : List FreeBox) (part : FreeBox) → All (Contains old) kept
    → All (λ f. Contains old f ⊎ (f ≡ part)) (kept ++ part ∷ [])
every_last old kept part every =
    All-push (λ f. Contains old f ⊎ (f ≡ part)) kept part
    (All-weaker (Contains old) (λ f. Contains old f ⊎ (f ≡ part)) (λ f has. inl has) kept every) (inr refl)
