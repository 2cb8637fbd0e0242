-- Sprites that have room in an empty sheet: one of them finds it.
use Rattle.std.proofs.Common.{◌≡◌, ◌+◌, ◌*◌, ◌<◌, ◌≤◌, ℕ, zero, suc, List, [], ◌∷◌, length, get_or, All, Option}
use Rattle.std.proofs.Common.{Some, None, IsNone, IsTrue, refl, ap, sym, subst, arith}
use Rattle.std.specs.List.{enumerate_from}
use Rattle.std.proofs.lemmas.Bool.{leb-true, and_parts}
use Rattle.std.proofs.lemmas.List.Elements.{All-head, All-tail}
use Rattle.std.proofs.lemmas.List.Sums.{sum_by-cons}
use Rattle.std.proofs.lemmas.List.Sorted.{length_permutation}
use Rattle.std.proofs.lemmas.List.FromFn.{length-enumerate_from}
use Rattle.guillotiere.specs.declared.Size.{Size}
use Rattle.guillotiere.specs.declared.Rectangle.{Rectangle}
use Rattle.guillotiere.specs.Boxes.{Sides, Fits, whole_box}
use Rattle.guillotiere.specs.Pixels.{box_of, sides_of}
use Rattle.guillotiere.specs.Choice.{rounded, up}
use Rattle.guillotiere.specs.Simple.{SimpleState, simple_start}
use Rattle.atlas_model.proofs.SimpleLemmas.SimpleSteps.{whole-fits}
use Rattle.atlas_sheet.specs.declared.options.Spacing.{Spacing}
use Rattle.atlas_sheet.specs.declared.placed.Placed.{Placed}
use Rattle.atlas_sheet.specs.declared.ways.Choice.{Choice}
use Rattle.atlas_sheet.specs.declared.ways.Way.{Way}
use Rattle.atlas_sheet.specs.Lying.{areas_of}
use Rattle.atlas_sheet.specs.Orders.{choice_options}
use Rattle.atlas_sheet.specs.Sheets.{AreFoundBy, FindPlaces, FindsPlace, IsPackable, asked_sides, inner_sides, place_area, used_area}
use Rattle.atlas_sheet.specs.Sheets.{with_places}
use Rattle.atlas_sheet.specs.Turnings.{has_room}
use Rattle.atlas_sheet.proofs.NumberedSprites.{order_all}
use Rattle.atlas_sheet.proofs.WholeSheets.{choice_alignment}

-- Places of which none is there have no pixels.
pub none_area : (placed : List (Option Placed)) → All IsNone placed → used_area (areas_of placed) ≡ 0
none_area [] none = refl
none_area (None ∷ placed) none =
    let rest = none_area placed (All-tail IsNone None placed none) in
    let all : used_area (None ∷ areas_of placed) ≡ 0 + used_area (areas_of placed) = sum_by-cons place_area None (areas_of placed) in
    omega (arith, rest, all)
none_area (Some p ∷ placed) none = let off : IsNone (Some p) = All-head IsNone (Some p) placed none in cc

-- No place has more pixels than all together.
part_area : (places : List (Option Rectangle)) (k : ℕ) (p : Rectangle) → get_or places k None ≡ Some p
    → place_area (Some p) ≤ used_area places
part_area [] k p is = cc
part_area (q ∷ places) zero p is =
    let all : used_area (q ∷ places) ≡ place_area q + used_area places = sum_by-cons place_area q places in
    let here : place_area q ≡ place_area (Some p) = ap place_area is in
    omega (arith, all, here)
part_area (q ∷ places) (suc k) p is =
    let all : used_area (q ∷ places) ≡ place_area q + used_area places = sum_by-cons place_area q places in
    let later = part_area places k p is in
    omega (arith, all, later)

some_product : (a b : ℕ) → 0 < a → 0 < b → 0 < a * b
some_product (suc a) (suc b) c d = omega arith
some_product zero b c d = absurd (omega (arith, c))
some_product (suc a) zero c d = absurd (omega (arith, d))

module _ (sheet : Sides) (spacing : Spacing) (choice : Choice) where
  abbrev start : SimpleState
  start = simple_start (inner_sides spacing sheet) (choice_options spacing choice)

  has_box : (s : Size) → IsTrue (has_room sheet spacing s)
      → Fits (rounded (choice_options spacing choice) (asked_sides spacing.padding s)) (inner_sides spacing sheet)
  has_box s room =
      let parts = and_parts _ _ room in
      subst (λ (a : Sides). Fits (record {
        width = up (asked_sides spacing.padding s).width a.width;
        height = up (asked_sides spacing.padding s).height a.height;
      }) (inner_sides spacing sheet)) (sym (choice_alignment spacing choice))
      (leb-true _ _ parts.0, leb-true _ _ parts.1)

  finds_room : (s : Size) (others : List (Option Rectangle)) (k : ℕ) → IsPackable spacing s
      → IsTrue (has_room sheet spacing s) → (next : SimpleState)
      → FindsPlace spacing start s (get_or others k None) next → 0 < used_area others
  finds_room s others k packs room next found = by_place (get_or others k None) refl found
    where
      wide : 0 < (sides_of s).width
      wide = packs.positive.0

      high : 0 < (sides_of s).height
      high = packs.positive.1

      by_place : (place : Option Rectangle) → get_or others k None ≡ place → FindsPlace spacing start s place next
          → 0 < used_area others
      by_place None is step =
          absurd (step.0 (record {
            positive = (omega (arith, wide), omega (arith, high));
            box = whole_box (inner_sides spacing sheet);
            fitting = record { is_free = (0, omega arith, refl); fits = whole-fits _ _ (has_box s room) };
          }))
      by_place (Some p) is step =
          let left : (box_of p).max.x ≡ step.0.min.x + ((sides_of s).width + spacing.padding) = ap (λ b. b.max.x) step.2 in
          let low : (box_of p).max.y ≡ step.0.min.y + ((sides_of s).height + spacing.padding) = ap (λ b. b.max.y) step.2 in
          let x = ap (λ b. b.min.x) step.2 in
          let y = ap (λ b. b.min.y) step.2 in
          let area : 0 < place_area (Some p) = some_product _ _ (omega (arith, left, x, step.3, wide)) (omega (arith, low, y, step.4, high))
          in
          let part = part_area others k p is in
          omega (arith, area, part)

  first_asks : (others : List (Option Rectangle)) (order : List (ℕ × Size)) → 0 < length order
      → All (λ s. IsPackable spacing s.1) order → All (λ s. IsTrue (has_room sheet spacing s.1)) order
      → FindPlaces spacing start (with_places others order) → 0 < used_area others
  first_asks others [] some packs room found = absurd (omega (arith, some))
  first_asks others (s ∷ order) some packs room found =
      finds_room s.1 others s.0 (All-head (λ s. IsPackable spacing s.1) s order packs)
      (All-head (λ s. IsTrue (has_room sheet spacing s.1)) s order room) found.0 found.1

-- A way finds a place for one of some sprites that each have room.
pub room_found : (sheet : Sides) (spacing : Spacing) (sprites : List Size) (way : Way) (order : List (ℕ × Size))
    (others : List (Option Rectangle))
    → AreFoundBy sheet spacing sprites way order others → 0 < length sprites → All (IsPackable spacing) sprites
    → All (λ s. IsTrue (has_room sheet spacing s)) sprites → 0 < used_area others
room_found sheet spacing sprites way order others are some packs room =
    let listed : length order ≡ length (enumerate_from 0 sprites) = length_permutation (enumerate_from 0 sprites) order are.permuted in
    let numbers : length (enumerate_from 0 sprites) ≡ length sprites = length-enumerate_from 0 sprites in
    first_asks sheet spacing way.choice others order (omega (arith, listed, numbers, some))
    (order_all sprites order are.permuted (IsPackable spacing) packs)
    (order_all sprites order are.permuted (λ s. IsTrue (has_room sheet spacing s)) room) are.found
