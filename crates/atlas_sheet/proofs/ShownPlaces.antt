-- What a sheet shows, in plain words: places inside it, apart, with the sides of their sprites.
use Rattle.std.proofs.Common.{◌≡◌, ◌+◌, ◌≤◌, ◌∙◌, ℕ, Bool, true, false, List, [], ◌∷◌, map, All, Option, Some, IfSome, ap, refl, arith}
use Rattle.std.specs.List.{AllZip, count_by}
use Rattle.std.proofs.lemmas.List.Elements.{All-nil, All-cons}
use Rattle.guillotiere.specs.declared.Size.{Size}
use Rattle.guillotiere.specs.Boxes.{Sides, AreDisjoint, IsWithin, box_sides, covers}
use Rattle.guillotiere.specs.Pixels.{box_of, sides_of}
use Rattle.guillotiere.proofs.TreeLemmas.TreeBasics.{one_if}
use Rattle.guillotiere.proofs.ListLemmas.ListCounts.{count_by-cons}
use Rattle.atlas_sheet.specs.declared.options.Spacing.{Spacing}
use Rattle.atlas_sheet.specs.declared.placed.Placed.{Placed}
use Rattle.atlas_sheet.specs.Lying.{IsPlacedFor, IsShown, areas_of, lie}
use Rattle.atlas_sheet.specs.Sheets.{covers_place, padded}
use Rattle.atlas_sheet.proofs.AskedPlace.{covers_inside}

module _ (sheet : Sides) (spacing : Spacing) (turn : Bool) where
  -- A sprite's place, where it has one.
  abbrev ShowsPlace : Size → Option Placed → Type 0
  ShowsPlace sprite p = IfSome p (IsPlacedFor sheet spacing turn sprite)

  pub inside_each : (sprites : List Size) (places : List Placed) → AllZip ShowsPlace sprites (map Some places)
      → All (λ p. IsWithin sheet (box_of p.area)) places
  inside_each [] [] each = All-nil (λ p. IsWithin sheet (box_of p.area))
  inside_each [] (p ∷ places) each = elim each [ ]
  inside_each (s ∷ sprites) [] each = elim each [ ]
  inside_each (s ∷ sprites) (p ∷ places) each =
      let right = each.0.place.right in
      let below = each.0.place.below in
      All-cons (λ p. IsWithin sheet (box_of p.area)) p places (omega (arith, right), omega (arith, below))
      (inside_each sprites places each.1)

  upright_one : (sprite : Size) (p : Placed) → turn ≡ false → IsPlacedFor sheet spacing turn sprite p
      → box_sides (box_of p.area) ≡ sides_of sprite
  upright_one sprite p off placed = by_turn p.turned refl
    where
      by_turn : (b : Bool) → p.turned ≡ b → box_sides (box_of p.area) ≡ sides_of sprite
      by_turn true is = let on : turn ≡ true = placed.allowed is in cc
      by_turn false is = placed.place.sides ∙ ap (λ b. sides_of (lie b sprite)) is

  pub upright_each : (sprites : List Size) (places : List Placed) → turn ≡ false
      → AllZip ShowsPlace sprites (map Some places)
      → AllZip (λ sprite p. box_sides (box_of p.area) ≡ sides_of sprite) sprites places
  upright_each [] [] off each = tt
  upright_each [] (p ∷ places) off each = elim each [ ]
  upright_each (s ∷ sprites) [] off each = elim each [ ]
  upright_each (s ∷ sprites) (p ∷ places) off each = (upright_one s p off each.0, upright_each sprites places off each.1)

-- No pixel lies in more places than in places with their padding.
pub counts : (spacing : Spacing) (x y : ℕ) (places : List Placed)
    → count_by (covers x y) (map (λ p. box_of p.area) places) ≤ count_by (covers_place spacing x y) (areas_of (map Some places))
counts spacing x y [] = omega arith
counts spacing x y (p ∷ places) =
    let a : count_by (covers x y) (map (λ p. box_of p.area) (p ∷ places))
    ≡ one_if (covers x y (box_of p.area)) + count_by (covers x y) (map (λ p. box_of p.area) places) =
    count_by-cons (covers x y) (box_of p.area) (map (λ p. box_of p.area) places) in
    let b : count_by (covers_place spacing x y) (areas_of (map Some (p ∷ places)))
    ≡ one_if (covers x y (padded spacing.padding p.area)) + count_by (covers_place spacing x y) (areas_of (map Some places)) =
    count_by-cons (covers_place spacing x y) (Some p.area) (areas_of (map Some places)) in
    let c : one_if (covers x y (box_of p.area)) ≤ one_if (covers x y (padded spacing.padding p.area)) =
    covers_inside (box_of p.area) (padded spacing.padding p.area) x y (omega arith, omega arith, omega arith, omega arith) in
    let d : count_by (covers x y) (map (λ p. box_of p.area) places) ≤ count_by (covers_place spacing x y) (areas_of (map Some places)) =
    counts spacing x y places in
    omega arith

module _ (sheet : Sides) (spacing : Spacing) (turn : Bool) (sprites : List Size) (order : List ℕ) (places : List Placed)
    (shown : IsShown sheet spacing turn sprites order (map Some places)) where
  pub shows_inside : All (λ p. IsWithin sheet (box_of p.area)) places
  shows_inside = inside_each sheet spacing turn sprites places shown.each

  pub shows_apart : AreDisjoint (map (λ p. box_of p.area) places)
  shows_apart x y =
      let few : count_by (covers_place spacing x y) (areas_of (map Some places)) ≤ 1 = shown.arranged.good.apart x y in
      omega (arith, few, counts spacing x y places)

  pub shows_upright : turn ≡ false → AllZip (λ sprite p. box_sides (box_of p.area) ≡ sides_of sprite) sprites places
  shows_upright off = upright_each sheet spacing turn sprites places off shown.each
