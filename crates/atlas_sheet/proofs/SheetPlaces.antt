-- Places that sprites find one after another keep to the sheet and to each other.
use Rattle.std.proofs.Common.{◌≡◌, ◌+◌, ◌-◌, ◌<◌, ◌≤◌, max, ℕ, Bool, List, [], ◌∷◌, ◌++◌, map, length, drop, get_or, All, IsPermutation}
use Rattle.std.proofs.Common.{Option, Some, None, IfSome, refl, ap, sym, subst, ◌∙◌, inl, inr, add-one, arith}
use Rattle.std.specs.List.{enumerate_from, count_by, AllZip}
use Rattle.std.proofs.Math.ListN.{drop_of_length-le}
use Rattle.std.proofs.Math.Nat.{max-eq_left, max-eq_right}
use Rattle.std.proofs.Math.Seq.{drop-cons}
use Rattle.std.proofs.lemmas.Bool.{cases_lt}
use Rattle.std.proofs.lemmas.List.Elements.{All-nil, All-cons, All-head, All-tail, All-map}
use Rattle.std.proofs.lemmas.List.Sorted.{All-permutation, IsPermutation-map, IsPermutation-sym}
use Rattle.guillotiere.specs.declared.Size.{Size}
use Rattle.guillotiere.specs.declared.Rectangle.{Rectangle}
use Rattle.guillotiere.specs.Boxes.{Sides, Box, IsInside, IsPositive, IsWithin, covers}
use Rattle.guillotiere.specs.Pixels.{box_of, sides_of}
use Rattle.guillotiere.specs.Simple.{SimpleState, IsSimple, IsGuarded}
use Rattle.atlas_model.proofs.SimpleLemmas.SimpleGrants.{grant-simple, grant-guarded}
use Rattle.guillotiere.proofs.TreeLemmas.TreeBasics.{one_if}
use Rattle.guillotiere.proofs.ListLemmas.ListCounts.{count_by-cons, count_by-append}
use Rattle.guillotiere.proofs.ListLemmas.CallerLemmas.{count_by-permutation}
use Rattle.atlas_sheet.specs.declared.options.Spacing.{Spacing}
use Rattle.atlas_sheet.specs.Sheets.{FindsPlace, FindPlaces, IsPlaceFor, ArePlaces, IsOnGrid, asked_sides, covers_place, inner_sides}
use Rattle.atlas_sheet.specs.Sheets.{padded, place_of_sprite, with_places}
use Rattle.atlas_sheet.proofs.AskedPlace.{AreOnGrid, granted_on_grid, granted_room, left_on_grid, shrunk}
use Rattle.atlas_sheet.proofs.NumberedSprites.{order_all}

-- A side of a box that lies within what is left of a sheet.
pub fits_side : (whole padding sprite end : ℕ) → 0 < whole → 0 < sprite → sprite + padding ≤ end
    → end ≤ max (whole - padding) 1
    → end + padding ≤ whole
fits_side whole padding sprite end sheet positive long within = elim (cases_lt padding whole) [
  | inl less ↦ let e : max (whole - padding) 1 ≡ whole - padding = max-eq_left (omega arith) in omega arith
  | inr more ↦ let e : max (whole - padding) 1 ≡ 1 = max-eq_right (omega arith) in absurd (omega arith)
]

module _ (spacing : Spacing) (sheet : Sides) (wide : IsPositive sheet) where
  -- The place of a sprite.
  abbrev Good : Size × Option Rectangle → Type 0
  Good asked = IfSome asked.1 (IsPlaceFor sheet spacing asked.0)

  a_place : (old new : SimpleState) (sprite : Size) (place : Rectangle) → IsPositive (sides_of sprite)
      → IsWithin (inner_sides spacing sheet) (padded spacing.padding place)
      → (found : FindsPlace spacing old sprite (Some place) new)
      → IsOnGrid (sides_of spacing.alignment) found.0.min → IsPlaceFor sheet spacing sprite place
  a_place old new sprite place positive within found grid =
      let box = found.0 in
      let left : spacing.padding ≤ (box_of place).min.x = found.3 in
      let above : spacing.padding ≤ (box_of place).min.y = found.4 in
      let a : (box_of place).min.x - spacing.padding ≡ box.min.x = ap (λ b. b.min.x) found.2 in
      let b : (box_of place).max.x ≡ box.min.x + ((sides_of sprite).width + spacing.padding) = ap (λ b. b.max.x) found.2 in
      let c : (box_of place).min.y - spacing.padding ≡ box.min.y = ap (λ b. b.min.y) found.2 in
      let d : (box_of place).max.y ≡ box.min.y + ((sides_of sprite).height + spacing.padding) = ap (λ b. b.max.y) found.2 in
      let across : (box_of place).max.x - (box_of place).min.x ≡ (sides_of sprite).width = omega arith in
      let down : (box_of place).max.y - (box_of place).min.y ≡ (sides_of sprite).height = omega arith in
      record {
        sides = λ i. record { width = across i; height = down i };
        left = left;
        above = above;
        right = fits_side sheet.width spacing.padding (sides_of sprite).width (box_of place).max.x wide.0 positive.0 (omega arith) within.0;
        below = fits_side sheet.height spacing.padding (sides_of sprite).height (box_of place).max.y wide.1 positive.1 (omega arith)
            within.1;
        aligned = subst (IsOnGrid (sides_of spacing.alignment)) (sym (ap (λ b. b.min) found.2)) grid;
        exact = found.5;
      }

  -- The place with its padding joins the boxes that are held.
  joins : (s next : SimpleState) (held : List Box) (sprite : Size) (place : Rectangle) → IsSimple s → IsGuarded s held
      → FindsPlace spacing s sprite (Some place) next → IsGuarded next (padded spacing.padding place ∷ held)
  joins s next held sprite place simple guarded found =
      let box = found.0 in
      let room = granted_room s next (asked_sides spacing.padding sprite) box simple.valid.0 found.1 in
      let inside : IsInside (padded spacing.padding place) box =
      subst (λ b. IsInside b box) (sym found.2) (omega arith, omega arith, room.0, room.1) in
      shrunk next box (padded spacing.padding place) held inside (grant-guarded s next (asked_sides spacing.padding sprite) box held simple
      found.1 guarded)

  each_good : (s : SimpleState) (held : List Box) (pairs : List (Size × Option Rectangle)) → IsSimple s
      → s.options.alignment ≡ sides_of spacing.alignment → AreOnGrid s.options.alignment s.free
      → s.size ≡ inner_sides spacing sheet → IsGuarded s held → All (λ a. IsPositive (sides_of a.0)) pairs
      → FindPlaces spacing s pairs
      → All Good pairs
  each_good s held [] simple one grid size guarded positive found = All-nil Good
  each_good s held ((sprite, None) ∷ rest) simple one grid size guarded positive found =
      All-cons Good (sprite, None) rest tt
      (each_good s held rest simple one grid size guarded (All-tail (λ a. IsPositive (sides_of a.0)) (sprite, None) rest positive)
      (subst (λ n. FindPlaces spacing n rest) found.1.1 found.2))
  each_good s held ((sprite, Some place) ∷ rest) simple one grid size guarded positive found =
      let next = found.0 in
      let grants = found.1.1 in
      let asked = asked_sides spacing.padding sprite in
      let box = found.1.0 in
      let joined : IsGuarded next (padded spacing.padding place ∷ held) = joins s next held sprite place simple guarded found.1 in
      let same : next.size ≡ inner_sides spacing sheet = grants.size ∙ size in
      let within : IsWithin (inner_sides spacing sheet) (padded spacing.padding place) =
      subst (λ z. IsWithin z (padded spacing.padding place)) same (All-head (IsWithin next.size) (padded spacing.padding place) held
      joined.within) in
      let kept : next.options.alignment ≡ s.options.alignment = ap (λ o. o.alignment) grants.options in
      All-cons Good (sprite, Some place) rest
      (a_place s next sprite place (All-head (λ a. IsPositive (sides_of a.0)) (sprite, Some place) rest positive) within found.1
      (subst (λ a. IsOnGrid a box.min) one (granted_on_grid s next asked box grants grid)))
      (each_good next (padded spacing.padding place ∷ held) rest (grant-simple s next asked box simple grants) (kept ∙ one)
      (subst (λ a. AreOnGrid a next.free) (sym kept) (left_on_grid s next asked box grants grid)) same joined
      (All-tail (λ a. IsPositive (sides_of a.0)) (sprite, Some place) rest positive) found.2)

  abbrev found_of : List (Size × Option Rectangle) → List (Option Rectangle)
  found_of pairs = map (λ a. a.1) pairs

  good_apart : (s : SimpleState) (held : List Box) (pairs : List (Size × Option Rectangle)) → IsSimple s
      → IsGuarded s held → FindPlaces spacing s pairs
      → (x y : ℕ) → count_by (covers_place spacing x y) (found_of pairs) + count_by (covers x y) held ≤ 1
  good_apart s held [] simple guarded found x y =
      let all : count_by (covers x y) (held ++ s.free) ≤ 1 = guarded.disjoint x y in
      let parts : count_by (covers x y) (held ++ s.free) ≡ count_by (covers x y) held + count_by (covers x y) s.free =
      count_by-append (covers x y) held s.free in
      let none : count_by (covers_place spacing x y) (found_of []) ≡ 0 = refl in
      omega arith
  good_apart s held ((sprite, None) ∷ rest) simple guarded found x y =
      let later : count_by (covers_place spacing x y) (found_of rest) + count_by (covers x y) held ≤ 1 =
      good_apart s held rest simple guarded (subst (λ n. FindPlaces spacing n rest) found.1.1 found.2) x y in
      let count : count_by (covers_place spacing x y) (None ∷ found_of rest) ≡ 0 + count_by (covers_place spacing x y) (found_of rest) =
      count_by-cons (covers_place spacing x y) None (found_of rest) in
      omega arith
  good_apart s held ((sprite, Some place) ∷ rest) simple guarded found x y =
      let next = found.0 in
      let joined : IsGuarded next (padded spacing.padding place ∷ held) = joins s next held sprite place simple guarded found.1 in
      let later : count_by (covers_place spacing x y) (found_of rest) + count_by (covers x y) (padded spacing.padding place ∷ held) ≤ 1 =
      good_apart next (padded spacing.padding place ∷ held) rest (grant-simple s next (asked_sides spacing.padding sprite) found.1.0 simple
      found.1.1) joined found.2 x y in
      let count : count_by (covers_place spacing x y) (Some place ∷ found_of rest) ≡ one_if (covers x y (padded spacing.padding place)) +
      count_by (covers_place spacing x y) (found_of rest) =
      count_by-cons (covers_place spacing x y) (Some place) (found_of rest) in
      let here : count_by (covers x y) (padded spacing.padding place ∷ held) ≡ one_if (covers x y (padded spacing.padding place)) + count_by
      (covers x y) held =
      count_by-cons (covers x y) (padded spacing.padding place) held in
      omega arith

  -- Places in the order of the numbers.
  good_with : (places : List (Option Rectangle)) (order : List (ℕ × Size)) → All Good (with_places places order)
      → All (λ s. Good (s.1, place_of_sprite places s)) order
  good_with places [] each = All-nil (λ s. Good (s.1, place_of_sprite places s))
  good_with places (s ∷ order) each =
      All-cons (λ s. Good (s.1, place_of_sprite places s)) s order (All-head Good (s.1, place_of_sprite places s) (with_places places order)
      each)
      (good_with places order (All-tail Good (s.1, place_of_sprite places s) (with_places places order) each))

  found_with : (places : List (Option Rectangle)) (order : List (ℕ × Size))
      → found_of (with_places places order) ≡ map (place_of_sprite places) order
  found_with places [] = refl
  found_with places (s ∷ order) = ap (λ ps. place_of_sprite places s ∷ ps) (found_with places order)

  zipped : (places : List (Option Rectangle)) (n : ℕ) (xs : List Size) → n + length xs ≡ length places
      → All (λ s. Good (s.1, place_of_sprite places s)) (enumerate_from n xs)
      → AllZip (λ sprite place. IfSome place (IsPlaceFor sheet spacing sprite)) xs (drop n places)
  zipped places n [] long each =
      subst (AllZip (λ sprite place. IfSome place (IsPlaceFor sheet spacing sprite)) []) (sym (drop_of_length-le places (omega arith))) tt
  zipped places n (x ∷ xs) long each =
      let P : ℕ × Size → Type 0 = λ s. Good (s.1, place_of_sprite places s) in
      let R : Size → Option Rectangle → Type 0 = λ sprite place. IfSome place (IsPlaceFor sheet spacing sprite) in
      let later = zipped places (n + 1) xs (omega arith) (All-tail P (n, x) (enumerate_from (n + 1) xs) each) in
      subst (AllZip R (x ∷ xs)) (sym (drop-cons places n None (omega arith)))
      (All-head P (n, x) (enumerate_from (n + 1) xs) each, subst (λ k. AllZip R xs (drop k places)) (add-one n) later)

  listed : (places : List (Option Rectangle)) (n : ℕ) (xs : List Size) → n + length xs ≡ length places
      → map (place_of_sprite places) (enumerate_from n xs) ≡ drop n places
  listed places n [] long = sym (drop_of_length-le places (omega arith))
  listed places n (x ∷ xs) long =
      ap (λ ps. get_or places n None ∷ ps) (listed places (n + 1) xs (omega arith) ∙ ap (λ k. drop k places) (add-one n))
      ∙ sym (drop-cons places n None (omega arith))

  module _ (sprites : List Size) (order : List (ℕ × Size)) (moved : IsPermutation (enumerate_from 0 sprites) order)
      (places : List (Option Rectangle)) (long : length places ≡ length sprites) (positive : All (λ s. IsPositive (sides_of s)) sprites)
      (s : SimpleState) (simple : IsSimple s) (one : s.options.alignment ≡ sides_of spacing.alignment)
      (grid : AreOnGrid s.options.alignment s.free) (size : s.size ≡ inner_sides spacing sheet)
      (guarded : IsGuarded s []) (found : FindPlaces spacing s (with_places places order)) where
    -- What was found in any order are places in the order of the sprites.
    pub in_order : ArePlaces sheet spacing sprites places
    in_order = record {
      each = zipped places 0 sprites (omega arith)
          (All-permutation (λ s. Good (s.1, place_of_sprite places s)) order (enumerate_from 0 sprites)
          (IsPermutation-sym (enumerate_from 0 sprites) order moved)
          (good_with places order
          (each_good s [] (with_places places order) simple one grid size guarded
          (All-map (λ (a : Size × Option Rectangle). IsPositive (sides_of a.0)) (λ (s : ℕ × Size). (s.1, place_of_sprite places s)) order
          (order_all sprites order moved (λ s. IsPositive (sides_of s)) positive))
          found)));
      apart = λ x y.
          let q : Option Rectangle → Bool = covers_place spacing x y in
          let few : count_by q (found_of (with_places places order)) + 0 ≤ 1 = good_apart s [] (with_places places order) simple guarded
          found x y in
          let as_found : count_by q (found_of (with_places places order)) ≡ count_by q (map (place_of_sprite places) order) =
          ap (count_by q) (found_with places order) in
          let same : count_by q (map (place_of_sprite places) order) ≡ count_by q
          (map (place_of_sprite places) (enumerate_from 0 sprites)) =
          count_by-permutation q (map (place_of_sprite places) (enumerate_from 0 sprites)) (map (place_of_sprite places) order)
          (IsPermutation-map (place_of_sprite places) (enumerate_from 0 sprites) order moved) in
          let all : count_by q (map (place_of_sprite places) (enumerate_from 0 sprites)) ≡ count_by q places =
          ap (count_by q) (listed places 0 sprites (omega arith)) in
          omega arith;
    }
