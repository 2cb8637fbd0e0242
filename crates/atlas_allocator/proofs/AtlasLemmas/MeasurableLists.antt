-- The rectangles that lists show can be measured.
use Rattle.std.proofs.Common.{◌≡◌, ◌^◌, ◌≤◌, ◌<◌, Bool, true, List, [], ◌∷◌, map, subst, sym, arith, Contains, All}
use Rattle.std.proofs.Common.{Result, Ok, IfOk}
use Rattle.std.proofs.lemmas.List.Elements.{All-nil, All-cons, All-head, All-tail, All-contains, All-contains_itself}
use Rattle.std.proofs.lemmas.List.Elements.{All-weaker}
use Rattle.std.specs.List.{count_by}
use Rattle.atlas_model.specs.Boxes.{Axis, Sides, Box, side, other, IsNonempty, IsWithin, same_box}
use Rattle.atlas_model.specs.Boxes.Axis.{Horizontal, Vertical}
use Rattle.atlas_model.specs.Pixels.{box_of, sides_of, IsMeasurable}
use Rattle.atlas_model.specs.Replies.{IsExact, grant_of}
use Rattle.atlas_model.specs.States.{State, live_in, free_in, IsSound}
use Rattle.atlas_store.specs.Stored.{Stored, IsAtlas}
use Rattle.atlas_model.specs.Trees.{Grant}
use Rattle.atlas_store.specs.Visits.{AreGrants, AreFreeAreas}
use Rattle.atlas_model.specs.declared.allocation.Allocation.{Allocation}
use Rattle.atlas_model.specs.declared.geometry.Rectangle.{Rectangle}
use Rattle.std.proofs.Common.{Err}
use Rattle.atlas_model.proofs.TreeLemmas.TreeBasics.{same_box-true, same_box-itself}
use Rattle.atlas_store.proofs.WalkLemmas.StoredAtlas.{tree_of-IsAtlas}
use Rattle.atlas_model.proofs.ListLemmas.ListCounts.{count_some}
use Rattle.atlas_model.proofs.TreeLemmas.BoxLists.{live_in_place, free_in_place, same_grant, same_grant-itself, same_grant-true}
use Rattle.atlas_model.proofs.ListLemmas.CallerLemmas.{find-counted}

-- What holds of a list holds of one with the same counts.
module _ {X : Type 0} (same : X → X → Bool) (itself : (x : X) → same x x ≡ true) (told : (x y : X) → same x y ≡ true → x ≡ y) where
  pub All-same_counts : (P : X → Type 0) (xs ys : List X) → ((p : X → Bool) → count_by p xs ≡ count_by p ys) → All P ys
      → All P xs
  All-same_counts P xs ys counts all = All-weaker (Contains xs) P one xs (All-contains_itself xs)
    where
      one : (x : X) → Contains xs x → P x
      one x at =
          let found = find-counted (same x) ys (omega (arith, counts (same x), count_some (same x) xs x at (itself x))) in
          subst P (sym (told x found.0 found.3)) (All-contains P ys found.0 all found.2)

-- The sides of an atlas are those of an `i32`.
module _ (v : Stored) (a : IsAtlas v) where
  along_fits : side a.holding.sequence.axis (sides_of v.size) < 2 ^ 31
  along_fits = grind (arith, tree_of-IsAtlas)

  across_fits : side (other a.holding.sequence.axis) (sides_of v.size) < 2 ^ 31
  across_fits = omega (arith, a.holds.across, a.across)

  by_axis : (axis : Axis) → side axis (sides_of v.size) < 2 ^ 31 → side (other axis) (sides_of v.size) < 2 ^ 31
      → ((sides_of v.size).width ≤ 2147483647) × ((sides_of v.size).height ≤ 2147483647)
  by_axis Horizontal along across = (omega (arith, along), omega (arith, across))
  by_axis Vertical along across = (omega (arith, across), omega (arith, along))

  pub sides_fit : ((sides_of v.size).width ≤ 2147483647) × ((sides_of v.size).height ≤ 2147483647)
  sides_fit = by_axis a.holding.sequence.axis along_fits across_fits

-- An exact rectangle within sides that an `i32` holds can be measured.
exact-measurable : (s : Sides) (r : Rectangle) → s.width ≤ 2147483647 → s.height ≤ 2147483647 → IsExact r
    → IsNonempty (box_of r) → IsWithin s (box_of r) → IsMeasurable r
exact-measurable s r wide high exact some within = grind arith

module _ (s : State) (sound : IsSound s) (wide : s.size.width ≤ 2147483647) (high : s.size.height ≤ 2147483647) where
  abbrev InPlace : Box → Type 0
  InPlace b = IsNonempty b × IsWithin s.size b

  grants_measured : (grants : List Allocation) → All (λ (g : Grant). InPlace g.box) (map grant_of grants)
      → All (λ (a : Allocation). IsExact a.rectangle) grants
      → All (λ (a : Allocation). IsMeasurable a.rectangle) grants
  grants_measured [] places exact = All-nil (λ (a : Allocation). IsMeasurable a.rectangle)
  grants_measured (a ∷ grants) places exact =
      let place : InPlace (box_of a.rectangle) = All-head (λ (g : Grant). InPlace g.box) (grant_of a) (map grant_of grants) places in
      All-cons (λ (k : Allocation). IsMeasurable k.rectangle) a grants
      (exact-measurable s.size a.rectangle wide high (All-head (λ (k : Allocation). IsExact k.rectangle) a grants exact) place.0 place.1)
      (grants_measured grants (All-tail (λ (g : Grant). InPlace g.box) (grant_of a) (map grant_of grants) places)
      (All-tail (λ (k : Allocation). IsExact k.rectangle) a grants exact))

  areas_measured : (areas : List Rectangle) → All InPlace (map box_of areas) → All IsExact areas
      → All IsMeasurable areas
  areas_measured [] places exact = All-nil IsMeasurable
  areas_measured (r ∷ areas) places exact =
      let place : InPlace (box_of r) = All-head InPlace (box_of r) (map box_of areas) places in
      All-cons IsMeasurable r areas (exact-measurable s.size r wide high (All-head IsExact r areas exact) place.0 place.1)
      (areas_measured areas (All-tail InPlace (box_of r) (map box_of areas) places) (All-tail IsExact r areas exact))

  pub measurable_grants : {Z E : Type 0} (items : Z → List Allocation) (r : Result Z E)
      → IfOk r (λ found. AreGrants s (items found))
      → IfOk r (λ found. All (λ (a : Allocation). IsMeasurable a.rectangle) (items found))
  measurable_grants items (Ok found) are =
      grants_measured (items found)
      (All-same_counts same_grant same_grant-itself same_grant-true (λ (g : Grant). InPlace g.box) (map grant_of (items found)) (live_in s)
      are.list.live
      (live_in_place s.size s.tree sound.well_formed)) are.exact
  measurable_grants items (Err error) are = tt

  pub measurable_areas : {Z E : Type 0} (items : Z → List Rectangle) (r : Result Z E)
      → IfOk r (λ found. AreFreeAreas s (items found))
      → IfOk r (λ found. All IsMeasurable (items found))
  measurable_areas items (Ok found) are =
      areas_measured (items found)
      (All-same_counts same_box same_box-itself same_box-true InPlace (map box_of (items found)) (free_in s) are.list
      (free_in_place s.size s.tree sound.well_formed)) are.exact
  measurable_areas items (Err error) are = tt
