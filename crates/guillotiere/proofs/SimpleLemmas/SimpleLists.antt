-- The boxes of a simple allocator that grows or begins anew.
use Rattle.std.proofs.Common.{◌≡◌, ℕ, ◌+◌, ◌<◌, cond, List, ◌∷◌, ◌++◌, map, drop, get_or, length, ap, ◌∙◌, subst, arith}
use Rattle.std.specs.List.{All, count_by}
use Rattle.std.proofs.lemmas.List.Elements.{All-head, All-tail}
use Rattle.std.proofs.lemmas.List.Sums.{sum_by-cons, sum_by-append}
use Rattle.atlas_model.specs.declared.geometry.Size.{Size}
use Rattle.atlas_model.specs.declared.geometry.Rectangle.{Rectangle}
use Rattle.atlas_search.specs.declared.cut.Rest.{Rest}
use Rattle.atlas_store.specs.declared.slots.Slot.{Slot}
use Rattle.atlas_store.specs.declared.slots.NodeKind.TheVariants as kind
use Rattle.atlas_model.specs.Boxes.{Box, Sides, whole_box, IsPositive, AreSameBoxes}
use Rattle.atlas_model.specs.Choice.{Options}
use Rattle.atlas_model.specs.Pixels.{box_of, rectangle_of, sides_of}
use Rattle.atlas_search.specs.Rectangles.{IsRestOf}
use Rattle.atlas_store.specs.Slots.{nodes, node_of}
use Rattle.atlas_store.specs.Visits.{free_areas}
use Rattle.atlas_model.specs.Simple.{kept_rest}
use Rattle.guillotiere.specs.FreeBoxes.FreeLists.{kept_of}
use Rattle.guillotiere.proofs.SimpleLemmas.CutBoxes.{count-kept}
use Rattle.atlas_store.proofs.WalkLemmas.WalkSteps.{free-next}
use Rattle.guillotiere.proofs.SimpleLemmas.StoredStates.{whole_rectangle, whole-box, whole-unsigned}

-- The free slots, one after another.

pub next-all : (P : Rectangle → Type 0) (xs : List Slot) (i : ℕ) (d : Slot) → i < length xs
    → (node_of (get_or xs i d)).kind ≡ kind.Free
    → All P (free_areas (nodes (drop i xs)))
    → P (node_of (get_or xs i d)).area × All P (free_areas (nodes (drop (i + 1) xs)))
next-all P xs i d low is all =
    let here = subst (All P) (free-next xs i d low is) all in (
      All-head P (node_of (get_or xs i d)).area (free_areas (nodes (drop (i + 1) xs))) here,
      All-tail P (node_of (get_or xs i d)).area (free_areas (nodes (drop (i + 1) xs))) here,
    )

pub next-boxes : (xs : List Slot) (i : ℕ) (d : Slot) (old new boxes : List Box) → i < length xs
    → (node_of (get_or xs i d)).kind ≡ kind.Free
    → AreSameBoxes (map box_of (free_areas (nodes (drop i xs))) ++ old) boxes
    → AreSameBoxes new (box_of (node_of (get_or xs i d)).area ∷ old)
    → AreSameBoxes (map box_of (free_areas (nodes (drop (i + 1) xs))) ++ new) boxes
next-boxes xs i d old new boxes low is before filed p =
    let g : Box → ℕ = λ b. cond (p b) 1 0 in
    let rest = map box_of (free_areas (nodes (drop (i + 1) xs))) in
    let area = box_of (node_of (get_or xs i d)).area in
    let e : count_by p (map box_of (free_areas (nodes (drop i xs))) ++ old) ≡ count_by p ((area ∷ rest) ++ old) =
    ap (λ l. count_by p (map box_of l ++ old)) (free-next xs i d low is) in
    omega (
      arith,
      before p,
      filed p,
      e,
      sum_by-append g rest new,
      sum_by-append g (area ∷ rest) old,
      sum_by-cons g area rest,
      sum_by-cons g area old,
    )

pub next-filed : (P : Rectangle → Type 0) (xs : List Slot) (i : ℕ) (d : Slot) (old roomy new boxes : List Box)
    → roomy ≡ old
    → i < length xs → (node_of (get_or xs i d)).kind ≡ kind.Free → All P (free_areas (nodes (drop i xs)))
    → AreSameBoxes (map box_of (free_areas (nodes (drop i xs))) ++ old) boxes
    → AreSameBoxes new (box_of (node_of (get_or xs i d)).area ∷ roomy)
    → All P (free_areas (nodes (drop (i + 1) xs)))
    × AreSameBoxes (map box_of (free_areas (nodes (drop (i + 1) xs))) ++ new) boxes
next-filed P xs i d old roomy new boxes same low is all before filed =
    grind (arith, next-all P xs i d low is all, next-boxes xs i d old new boxes low is before)

-- What a growth adds.

pub rest-boxes : (o : Options) (f : Box) (r : Sides) (rest : Rest) (old split all : List Box) → IsRestOf f r rest
    → AreSameBoxes split (kept_of o (box_of rest.split) ++ old)
    → AreSameBoxes all (kept_of o (box_of rest.leftover) ++ split)
    → AreSameBoxes all (kept_rest o f r ++ old)
rest-boxes o f r rest old split all is kept_split kept_leftover p = grind (arith, count-kept, sum_by-append)

-- The rectangle of a whole size, cut for a smaller one.

pub whole-exact : (size : Size) → IsPositive (sides_of size)
    → whole_rectangle size ≡ rectangle_of (whole_box (sides_of size))
whole-exact size positive = whole-unsigned size positive ∙ ap rectangle_of (whole-box size)
