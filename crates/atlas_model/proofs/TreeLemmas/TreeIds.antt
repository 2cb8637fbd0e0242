-- Membership in lists, and the ids of what is live.
use Rattle.std.proofs.Common.{◌≡◌, ℕ, ◌<◌, ◌==◌, ◌⊎◌, List, [], ◌∷◌, ◌++◌, map, refl, ap, ap₂, ◌∙◌, arith}
use Rattle.std.proofs.lemmas.Bool.{eq-eqb}
use Rattle.std.proofs.lemmas.List.{map-append}
use Rattle.std.proofs.lemmas.List.Elements.{Contains-append_left, Contains-append_right, Contains-push}
use Rattle.std.proofs.lemmas.List.Sums.{get_or-le-sum_by}
use Rattle.std.specs.List.{count_by}
use Rattle.atlas_model.specs.Boxes.{Axis, Position, Sides, other, side, moved, origin}
use Rattle.atlas_model.specs.Trees.{Members, Tree, Grant, ids, live, slot_count}
use Rattle.atlas_model.specs.Trees.Members.{End, Free, Alloc, Seq}
use Rattle.std.specs.List.{Contains}
use Rattle.atlas_model.proofs.TreeLemmas.TreeBasics.{one_if, live_among, live_among-seq}

-- Membership at the head of a list and behind it.

pub Contains-first : {X : Type 0} (x : X) (xs : List X) → Contains (x ∷ xs) x
Contains-first x xs = Contains-append_left (x ∷ []) xs x (Contains-push [] x)

pub Contains-later : {X : Type 0} (x : X) (xs : List X) (y : X) → Contains xs y → Contains (x ∷ xs) y
Contains-later x xs y at = Contains-append_right (x ∷ []) xs y at

pub Contains-none : {X : Type 0} (y : X) → Contains [] y → ⊥
Contains-none y at = let few : at.0 < 0 = at.1 in omega arith

pub Contains-cons_cases : {X : Type 0} (x : X) (xs : List X) (y : X) → Contains (x ∷ xs) y → (x ≡ y) ⊎ Contains xs y
Contains-cons_cases {X} x xs y at = grind arith

-- An id that isn't in a list is counted nowhere in it.
pub count-absent : (id : ℕ) (xs : List ℕ) → (Contains xs id → ⊥) → count_by (λ k. k == id) xs ≡ 0
count-absent id [] absent = refl
count-absent id (x ∷ xs) absent = grind (arith, count-absent id xs (λ at. absent (Contains-later x xs id at)))

-- An id of an unused slot isn't in the list.
pub unused-absent : (id : ℕ) (xs : List ℕ) → slot_count id xs ≡ 0 → Contains xs id → ⊥
unused-absent id xs none at = grind (arith, one_if, get_or-le-sum_by, eq-eqb)

-- The ids of what is live are those of the allocated leaves.
pub ids-live_among : (axis : Axis) (o : Position) (across : ℕ) (m : Members)
    → map (λ (g : Grant). g.id) (live_among axis o across m) ≡ ids m
ids-live_among axis o across End = refl
ids-live_among axis o across (Free e rest) = ids-live_among axis (moved axis o e) across rest
ids-live_among axis o across (Alloc id e rest) = ap (λ (k : List ℕ). id ∷ k) (ids-live_among axis (moved axis o e) across rest)
ids-live_among axis o across (Seq e inner rest) =
    ap (map (λ (g : Grant). g.id)) (live_among-seq axis o across e inner rest)
    ∙ map-append (λ (g : Grant). g.id) (live_among (other axis) o e inner) (live_among axis (moved axis o e) across rest)
    ∙ ap₂ (λ (j k : List ℕ). j ++ k) (ids-live_among (other axis) o e inner) (ids-live_among axis (moved axis o e) across rest)

pub ids-live : (size : Sides) (t : Tree) → map (λ (g : Grant). g.id) (live size t) ≡ ids t.members
ids-live size t = ids-live_among t.axis origin (side (other t.axis) size) t.members
