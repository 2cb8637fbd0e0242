-- The best corner of free boxes, one more at a time.
use Rattle.std.proofs.Common.{◌+◌, ◌≤◌, List, [], ◌∷◌, ◌++◌, Option, Some, None, sym, subst, inl, inr, arith}
use Rattle.atlas_model.specs.Boxes.{IsInside, Position, Sides, box_at}
use Rattle.atlas_maxrects.specs.declared.free.FreeBox.{FreeBox}
use Rattle.atlas_maxrects.specs.declared.corners.Corner.{Corner}
use Rattle.atlas_maxrects.specs.Free.{IsBestCorner, IsBetter, LiesInOne, corner_position, free_box}
use Rattle.atlas_maxrects.specs.Placing.{LiesBefore}
use Rattle.atlas_maxrects.proofs.LeftOvers.{lies_cases, lies_last, lies_left}

-- Whether these sides have room in a free box.
abbrev pub HaveRoom : FreeBox → Sides → Type 0
HaveRoom f s = (f.left + s.width ≤ f.right) × (f.top + s.height ≤ f.bottom)

abbrev pub first_corner : FreeBox → Corner
first_corner f = record { x = f.left; y = f.top }

no_room : (f : FreeBox) (s : Sides) (q : Position) → (HaveRoom f s → ⊥) → IsInside (box_at q s) (free_box f) → ⊥
no_room f s q none inside = none (omega arith, omega arith)

pub best_same : (xs : List FreeBox) (f : FreeBox) (s : Sides) (best : Option Corner) → (HaveRoom f s → ⊥)
    → IsBestCorner xs s best → IsBestCorner (xs ++ f ∷ []) s best
best_same xs f s None none empty =
    λ q lies. elim (lies_cases xs f _ lies) [ inl there ↦ empty q there | inr inside ↦ no_room f s q none inside ]
best_same xs f s (Some c) none is = (
  lies_left xs _ _ is.0,
  λ q lies. elim (lies_cases xs f _ lies) [ inl there ↦ is.1 q there | inr inside ↦ absurd (no_room f s q none inside) ],
)

here : (f : FreeBox) (s : Sides) → HaveRoom f s → IsInside (box_at (corner_position (first_corner f)) s) (free_box f)
here f s room = (omega arith, omega arith, room.0, room.1)

before : (f : FreeBox) (s : Sides) (q : Position) → IsInside (box_at q s) (free_box f)
    → LiesBefore (corner_position (first_corner f)) q
before f s q inside = grind arith

pub both_first : (p q r : Position) → LiesBefore p q → LiesBefore q r → LiesBefore p r
both_first p q r a b = grind arith

other_first : (p q : Position) → (LiesBefore p q → ⊥) → LiesBefore q p
other_first p q not = grind arith

new_best : (xs : List FreeBox) (f : FreeBox) (s : Sides) → HaveRoom f s
    → ((q : Position) → LiesInOne xs (box_at q s) → LiesBefore (corner_position (first_corner f)) q)
    → IsBestCorner (xs ++ f ∷ []) s (Some (first_corner f))
new_best xs f s room first = (
  lies_last xs f _ (here f s room),
  λ q lies. elim (lies_cases xs f _ lies) [ inl there ↦ first q there | inr inside ↦ before f s q inside ],
)

old_best : (xs : List FreeBox) (f : FreeBox) (s : Sides) (one : Corner)
    → LiesBefore (corner_position one) (corner_position (first_corner f)) → IsBestCorner xs s (Some one)
    → IsBestCorner (xs ++ f ∷ []) s (Some one)
old_best xs f s one first is = (
  lies_left xs _ _ is.0,
  λ q lies. elim (lies_cases xs f _ lies) [
    | inl there ↦ is.1 q there
    | inr inside ↦ both_first _ _ q first (before f s q inside)
  ],
)

pub best_more : (xs : List FreeBox) (f : FreeBox) (s : Sides) (best : Option Corner) (c : Corner) → HaveRoom f s
    → IsBetter best (first_corner f) c → IsBestCorner xs s best → IsBestCorner (xs ++ f ∷ []) s (Some c)
best_more xs f s None c room better empty =
    subst (λ d. IsBestCorner (xs ++ f ∷ []) s (Some d)) (sym better) (new_best xs f s room (λ q there. absurd (empty q there)))
best_more xs f s (Some one) c room (inl (same, first)) is =
    subst (λ d. IsBestCorner (xs ++ f ∷ []) s (Some d)) (sym same) (old_best xs f s one first is)
best_more xs f s (Some one) c room (inr (same, not)) is =
    subst (λ d. IsBestCorner (xs ++ f ∷ []) s (Some d)) (sym same)
    (new_best xs f s room (λ q there. both_first _ _ q (other_first _ _ not) (is.1 q there)))
