-- Arrangements: how they come about, and what a sheet shows of them.
use Rattle.std.proofs.Common.{◌≡◌, ◌≢◌, ◌+◌, ◌<◌, ◌≤◌, ℕ, zero, suc, Bool, true, inl, inr, List, [], ◌∷◌, ◌++◌, length, map, take, get_or}
use Rattle.std.proofs.Common.{take_all, All, IsPermutation, Option, Some, None, IfSome, IsSome, refl, ap, sym, subst, ◌∙◌, arith}
use Rattle.std.specs.List.{AllZip, enumerate_from}
use Rattle.std.proofs.lemmas.List.{map_push, take_more}
use Rattle.std.proofs.lemmas.List.Elements.{All-nil, All-cons, All-head, All-tail}
use Rattle.std.proofs.lemmas.Slice.Zip.{AllZip-long, all_zipped_more}
use Rattle.guillotiere.specs.declared.Size.{Size}
use Rattle.guillotiere.specs.declared.Rectangle.{Rectangle}
use Rattle.guillotiere.specs.Boxes.{Sides, IsPositive}
use Rattle.guillotiere.specs.Pixels.{sides_of}
use Rattle.guillotiere.specs.Simple.{simple_start}
use Rattle.atlas_sheet.specs.declared.options.Spacing.{Spacing}
use Rattle.atlas_sheet.specs.declared.placed.Placed.{Placed}
use Rattle.atlas_sheet.specs.declared.ways.Choice.{Choice}
use Rattle.atlas_sheet.specs.declared.ways.Way.{Way}
use Rattle.atlas_sheet.specs.declared.allowed.Allowed.{Allowed}
use Rattle.atlas_sheet.specs.Allowances.{pixels}
use Rattle.atlas_sheet.specs.Lying.{IsArrangement, IsPlacedFor, MayLie, areas_of, lie, placed_area}
use Rattle.atlas_sheet.specs.Orders.{choice_options}
use Rattle.atlas_sheet.specs.Packings.{ArePacked, IsNoLarger, Packed}
use Rattle.atlas_sheet.specs.Sheets.{ArePackable, FindPlaces, IsPackable, IsPlaceFor, inner_sides, with_places}
use Rattle.atlas_sheet.proofs.TurnedSprites.{lie_as_given, lie_on, lie_packable}
use Rattle.atlas_sheet.proofs.WholeSheets.{found_places}

-- What sprites find as they lie is an arrangement.
pub arranged : (sheet : Sides) (spacing : Spacing) (turn : Bool) (sprites lying : List Size) (choice : Choice)
    (order : List (ℕ × Size))
    (places : List (Option Rectangle)) → IsPositive sheet → IsPositive (sides_of spacing.alignment) → All (IsPackable spacing) sprites
    → AllZip (MayLie turn) sprites lying → IsPermutation (enumerate_from 0 lying) order → length places ≡ length lying
    → FindPlaces spacing (simple_start (inner_sides spacing sheet) (choice_options spacing choice)) (with_places places order)
    → IsArrangement sheet spacing turn sprites choice lying order places
arranged sheet spacing turn sprites lying choice order places positive aligned packable lies permuted count found = record {
  lies = lies;
  good = found_places sheet spacing choice lying order places positive aligned (lie_packable spacing turn sprites lying lies packable)
      permuted count found;
  permuted = permuted;
  found = found;
}

-- The same, where the sprites lie as they are given.
pub arranged_as_given : (sheet : Sides) (spacing : Spacing) (turn : Bool) (sprites : List Size) (choice : Choice)
    (order : List (ℕ × Size))
    (places : List (Option Rectangle)) → IsPositive sheet → IsPositive (sides_of spacing.alignment) → All (IsPackable spacing) sprites
    → IsPermutation (enumerate_from 0 sprites) order → length places ≡ length sprites
    → FindPlaces spacing (simple_start (inner_sides spacing sheet) (choice_options spacing choice)) (with_places places order)
    → IsArrangement sheet spacing turn sprites choice sprites order places
arranged_as_given sheet spacing turn sprites choice order places positive aligned packable permuted count found =
    arranged sheet spacing turn sprites sprites choice order places positive aligned packable (lie_as_given turn sprites) permuted count
    found

module _ {sheet : Sides} {spacing : Spacing} {turn : Bool} {choice : Choice} {lying : List Size} {order : List (ℕ × Size)}
    {places : List (Option Rectangle)} where
  -- An arrangement of sprites as others may lie is one of the others.
  pub rebased : (sprites between : List Size) → AllZip (MayLie turn) sprites between
      → IsArrangement sheet spacing turn between choice lying order places
      → IsArrangement sheet spacing turn sprites choice lying order places
  rebased sprites between lies are = record {
    lies = lie_on turn sprites between lying lies are.lies;
    good = are.good;
    permuted = are.permuted;
    found = are.found;
  }

  -- An arrangement is one of the sprites as they lie.
  pub own : {sprites : List Size} → IsArrangement sheet spacing turn sprites choice lying order places
      → IsArrangement sheet spacing turn lying choice lying order places
  own are = record {
    lies = lie_as_given turn lying;
    good = are.good;
    permuted = are.permuted;
    found = are.found;
  }

  -- Packable sprites are packable as they lie.
  pub lying_packable : {sprites : List Size} → IsArrangement sheet spacing turn sprites choice lying order places
      → ArePackable spacing sprites → ArePackable spacing lying
  lying_packable {sprites} are can = record {
    aligned = can.aligned;
    packable = lie_packable spacing turn sprites lying are.lies can.packable;
  }

  -- A list is as long as the one beside it.
  pub as_long : {sprites : List Size} → IsArrangement sheet spacing turn sprites choice lying order places
      → (length lying ≡ length sprites) × (length places ≡ length lying)
  as_long {sprites} are = (
    AllZip-long (MayLie turn) sprites lying are.lies,
    AllZip-long (λ sprite place. IfSome place (IsPlaceFor sheet spacing sprite)) lying places are.good.each,
  )

-- What a way packs is an arrangement.
pub packed_arranged : {ways : List Way} {sheet : Sides} {spacing : Spacing} (turn : Bool) {sprites : List Size}
    {packed : Packed}
    → ArePacked ways sheet spacing sprites packed
    → IsArrangement sheet spacing turn sprites packed.way.choice sprites packed.order (map Some packed.places)
packed_arranged turn {sprites} are = record {
  lies = lie_as_given turn sprites;
  good = are.good;
  permuted = are.by.permuted;
  found = are.found;
}

-- What holds of the elements at one place of two lists.
pub zip_at : {A B : Type 0} (R : A → B → Type 0) (xs : List A) (ys : List B) (k : ℕ) (d : A) (e : B) → AllZip R xs ys
    → k < length xs
    → R (get_or xs k d) (get_or ys k e)
zip_at R [] ys k d e each inside = absurd (omega arith)
zip_at R (x ∷ xs) [] k d e each inside = elim each [ ]
zip_at R (x ∷ xs) (y ∷ ys) zero d e each inside = each.0
zip_at R (x ∷ xs) (y ∷ ys) (suc k) d e each inside = zip_at R xs ys k d e each.1 (omega arith)

-- What a sheet shows of a sprite.
placed_good : (sheet : Sides) (spacing : Spacing) (turn : Bool) (sprite lying : Size) (place : Option Rectangle)
    (p : Option Placed)
    → placed_area p ≡ place
    → IfSome p (λ q. (lie q.turned sprite ≡ lying) × (q.turned ≡ true → turn ≡ true) × (q.turned ≡ true → lying ≢ sprite))
    → IfSome place (IsPlaceFor sheet spacing lying) → IfSome p (IsPlacedFor sheet spacing turn sprite)
placed_good sheet spacing turn sprite lying place None is turned good = tt
placed_good sheet spacing turn sprite lying place (Some q) is turned good =
    let here : IfSome (Some q.area) (IsPlaceFor sheet spacing lying) = subst (λ o. IfSome o (IsPlaceFor sheet spacing lying)) (sym is) good
    in
    record {
      place = subst (λ s. IsPlaceFor sheet spacing s q.area) (sym turned.0) here;
      allowed = turned.1;
      needed = λ on same. turned.2 on (sym turned.0 ∙ ap (λ b. lie b sprite) on ∙ same);
    }

-- A sprite's place, with how it lies.
abbrev pub ShowsPlace : (sheet : Sides) (spacing : Spacing) (turn : Bool) → Size → Option Placed → Type 0
ShowsPlace sheet spacing turn sprite p = IfSome p (IsPlacedFor sheet spacing turn sprite)

-- What is shown of the first k sprites.
pub record IsShownTo (sheet : Sides) (spacing : Spacing) (turn : Bool) (sprites : List Size) (places : List (Option Rectangle)) (k : ℕ)
    (placed : List (Option Placed)) : Type 0 where
  pub areas : areas_of placed ≡ take k places
  pub each : AllZip (ShowsPlace sheet spacing turn) (take k sprites) placed

module _ {sheet : Sides} {spacing : Spacing} {turn : Bool} {sprites lying : List Size} {choice : Choice} {order : List (ℕ × Size)}
    {places : List (Option Rectangle)} (are : IsArrangement sheet spacing turn sprites choice lying order places) where
  pub shown_more : (k : ℕ) (placed more : List (Option Placed)) (sprite l : Size) (place : Option Rectangle)
      (p : Option Placed)
      → k < length sprites → sprite ≡ get_or sprites k sprite → l ≡ get_or lying k l → place ≡ get_or places k place
      → more ≡ placed ++ p ∷ [] → placed_area p ≡ place
      → (MayLie turn sprite l
      → IfSome p (λ q. (lie q.turned sprite ≡ l) × (q.turned ≡ true → turn ≡ true) × (q.turned ≡ true → l ≢ sprite)))
      → IsShownTo sheet spacing turn sprites places k placed → IsShownTo sheet spacing turn sprites places (k + 1) more
  shown_more k placed more sprite l place p inside s_is l_is place_is added area turned before =
      let long = as_long are in
      let in_lying : k < length lying = omega (arith, long.0, long.1) in
      let in_places : k < length places = omega (arith, long.0, long.1) in
      let lies : MayLie turn sprite l =
      subst (λ x. MayLie turn x l) (sym s_is) (subst (MayLie turn (get_or sprites k sprite)) (sym l_is)
      (zip_at (MayLie turn) sprites lying k sprite l are.lies inside)) in
      let R : Size → Option Rectangle → Type 0 = λ sprite place. IfSome place (IsPlaceFor sheet spacing sprite) in
      let good : R l place =
      subst (λ x. R x place) (sym l_is) (subst (R (get_or lying k l)) (sym place_is)
      (zip_at R lying places k l place are.good.each in_lying)) in
      let one : ShowsPlace sheet spacing turn sprite p = placed_good sheet spacing turn sprite l place p area (turned lies) good in
      let more_sprites : take (k + 1) sprites ≡ take k sprites ++ sprite ∷ [] =
      take_more sprites k sprite inside ∙ ap (λ x. take k sprites ++ x ∷ []) (sym s_is) in
      let more_places : take (k + 1) places ≡ take k places ++ place ∷ [] =
      take_more places k place in_places ∙ ap (λ x. take k places ++ x ∷ []) (sym place_is) in
      record {
        areas = ap areas_of added ∙ map_push placed_area placed p ∙ (λ i. before.areas i ++ area i ∷ []) ∙ sym more_places;
        each = subst (λ xs. AllZip (ShowsPlace sheet spacing turn) xs more) (sym more_sprites)
            (subst (AllZip (ShowsPlace sheet spacing turn) (take k sprites ++ sprite ∷ [])) (sym added)
            (all_zipped_more (ShowsPlace sheet spacing turn) (take k sprites) placed sprite p before.each one));
      }

  pub shown_all : (k : ℕ) (placed : List (Option Placed)) → length places ≤ k
      → IsShownTo sheet spacing turn sprites places k placed
      → (areas_of placed ≡ places) × AllZip (ShowsPlace sheet spacing turn) sprites placed
  shown_all k placed end shown =
      let long = as_long are in
      let past : length sprites ≤ k = omega (arith, long.0, long.1) in (
        shown.areas ∙ take_all k places end,
        subst (λ xs. AllZip (ShowsPlace sheet spacing turn) xs placed) (take_all k sprites past)
            shown.each,
      )

-- Where each place is there, each is shown.
pub shown_whole : (placed : List (Option Placed)) (places : List (Option Rectangle)) → areas_of placed ≡ places
    → All IsSome places → All IsSome placed
shown_whole placed places is each = each_shown placed (subst (All IsSome) (sym is) each)
  where
    one : (p : Option Placed) → IsSome (placed_area p) → IsSome p
    one None some = some
    one (Some q) some = refl

    each_shown : (placed : List (Option Placed)) → All IsSome (areas_of placed) → All IsSome placed
    each_shown [] all = All-nil IsSome
    each_shown (p ∷ placed) all =
        All-cons IsSome p placed (one p (All-head IsSome (placed_area p) (areas_of placed) all))
        (each_shown placed (All-tail IsSome (placed_area p) (areas_of placed) all))

-- Places that are there are there.
pub all_some : (places : List Rectangle) → All IsSome (map Some places)
all_some [] = All-nil IsSome
all_some (p ∷ places) = All-cons IsSome (Some p) (map Some places) refl (all_some places)

-- A sheet with no more pixels than one that is no larger than the first.
pub no_larger : (ways : List Way) (by : Allowed) (spacing : Spacing) (sprites : List Size) (sheet s : Sides)
    → pixels s ≤ pixels sheet
    → IsNoLarger ways by spacing sprites sheet → IsNoLarger ways by spacing sprites s
no_larger ways by spacing sprites sheet s le (inl none) = inl none
no_larger ways by spacing sprites sheet s le (inr first) =
    let few : pixels sheet ≤ pixels first.0 = first.3 in
    inr (first.0, first.1, first.2, omega (arith, le, few))
