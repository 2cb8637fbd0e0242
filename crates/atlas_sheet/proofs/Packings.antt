-- Sprites of which all find places, or one doesn't.
use Rattle.std.proofs.Common.{◌≡◌, ◌+◌, ◌++◌, ◌<◌, ℕ, suc, List, [], ◌∷◌, length, map, take, set, get_or, append-nil, All, Some, None, ap}
use Rattle.std.proofs.Common.{sym, subst, ◌∙◌}
use Rattle.std.specs.Prelude.{Contains}
use Rattle.std.proofs.Math.Seq.{take-suc}
use Rattle.std.proofs.lemmas.List.{length-map, map-append, map-set, map_more, map_push, take_more, get_or-set_same}
use Rattle.std.proofs.lemmas.List.Elements.{All-push, Contains-push}
use Rattle.guillotiere.specs.declared.Size.{Size}
use Rattle.guillotiere.specs.declared.Rectangle.{Rectangle}
use Rattle.guillotiere.specs.Boxes.{Sides, IsPositive}
use Rattle.guillotiere.specs.Pixels.{sides_of}
use Rattle.guillotiere.specs.Simple.{SimpleState, simple_start}
use Rattle.atlas_sheet.specs.declared.options.Spacing.{Spacing}
use Rattle.atlas_sheet.specs.declared.ways.Choice.{Choice}
use Rattle.atlas_sheet.specs.declared.ways.Way.{Way}
use Rattle.atlas_sheet.specs.Firsts.{StandsAfter}
use Rattle.atlas_sheet.specs.Packings.{AllFindPlaces, ArePacked, Packed, IsOrderBy, LeavesOne, LeavesSprite}
use Rattle.atlas_sheet.specs.Orders.{AreNumberedOnce, choice_options}
use Rattle.atlas_sheet.specs.Sheets.{FindPlaces, FindsPlace, IsPackable, inner_sides, place_of_sprite, with_places}
use Rattle.atlas_sheet.proofs.FirstOnes.{stands_in}
use Rattle.atlas_sheet.proofs.FoundPlaces.{HaveFound, more}
use Rattle.atlas_sheet.proofs.WholeSheets.{found_places}

module _ (spacing : Spacing) (start now next : SimpleState) (order : List (ℕ × Size)) (k : ℕ) (places : List Rectangle) (s d : ℕ × Size)
    (once : AreNumberedOnce order) (inside : k < length order) (is : s ≡ get_or order k d) (room : s.0 < length places)
    (before : HaveFound spacing start now (with_places (map Some places) (take k order))) where
  wide : s.0 < length (map Some places)
  wide = subst (λ n. s.0 < n) (sym (length-map places Some)) room

  -- The next one has a place.
  pub one_more : (found : Rectangle) → FindsPlace spacing now s.1 (Some found) next
      → HaveFound spacing start next (with_places (map Some (set places s.0 found)) (take (suc k) order))
  one_more found step =
      subst (λ ps. HaveFound spacing start next (with_places ps (take (suc k) order))) (sym (map-set Some places s.0 found))
      (more spacing start now next order k (map Some places) s d (Some found) once inside is wide step before)

  -- The next one has none.

  pub one_left : (sheet : Sides) (choice : Choice)
      → start ≡ simple_start (inner_sides spacing sheet) (choice_options spacing choice)
      → FindsPlace spacing now s.1 None next → LeavesOne sheet spacing choice order
  one_left sheet choice begun step =
      let after = set (map Some places) s.0 None in
      let all : HaveFound spacing start next (with_places after (take (suc k) order)) =
      more spacing start now next order k (map Some places) s d None once inside is wide step before in
      let longer : take (suc k) order ≡ take k order ++ s ∷ [] = take-suc order k d inside ∙ ap (λ t. take k order ++ t ∷ []) (sym is) in
      let absent : place_of_sprite after s ≡ None = get_or-set_same (map Some places) s.0 None _ wide in
      let listed : map (place_of_sprite after) (take (suc k) order) ≡ map (place_of_sprite after) (take k order) ++ None ∷ [] =
      ap (map (place_of_sprite after)) longer ∙ map-append (place_of_sprite after) (take k order) (s ∷ []) ∙
      ap (λ p. map (place_of_sprite after) (take k order) ++ p ∷ []) absent in
      record {
        many = suc k;
        places = after;
        found = subst (λ b. FindPlaces spacing b (with_places after (take (suc k) order))) begun
            (subst (FindPlaces spacing start) (append-nil (with_places after (take (suc k) order))) (all [] tt));
        left = subst (λ ps. Contains ps None) (sym listed) (Contains-push (map (place_of_sprite after) (take k order)) None);
      }

-- One of the ways packs all.
pub a_way_packs : (ways : List Way) (sheet : Sides) (spacing : Spacing) (sprites : List Size) (packed : Packed)
    → StandsAfter (LeavesSprite sheet spacing sprites) ways packed.way → IsPositive sheet → IsPositive (sides_of spacing.alignment)
    → All (IsPackable spacing) sprites
    → IsOrderBy packed.way sprites packed.order → length packed.places ≡ length sprites
    → AllFindPlaces sheet spacing packed.way.choice packed.order packed.places
    → ArePacked ways sheet spacing sprites packed
a_way_packs ways sheet spacing sprites packed first positive aligned packable by long found =
    let count : length (map Some packed.places) ≡ length sprites = length-map packed.places Some ∙ long in
    record {
      good = found_places sheet spacing packed.way.choice sprites packed.order (map Some packed.places) positive aligned packable
          by.permuted count found;
      tried = stands_in (LeavesSprite sheet spacing sprites) ways packed.way first;
      by = by;
      found = found;
      first = first;
    }

module _ {T : Type 0} (f : T → Way) (xs : List T) (k : ℕ) (x : T) (inside : k < length xs) (is : x ≡ get_or xs k x) where
  -- One way more of which something holds.
  pub way_more : (P : Way → Type 0) → All P (map f (take k xs)) → P (f x) → All P (map f (take (k + 1) xs))
  way_more P each here =
      subst (All P) (sym (map_more f xs k x inside ∙ ap (λ y. map f (take k xs) ++ f y ∷ []) (sym is)))
      (All-push P (map f (take k xs)) (f x) each here)

-- A trial of the next way was added.
module _ {T : Type 0} (f : T → Way) (xs ys : List T) (x : T) (added : ys ≡ xs ++ x ∷ []) where
  pub ways_added : (ways : List Way) (k : ℕ) (d : Way) → k < length ways → f x ≡ get_or ways k d
      → map f xs ≡ take k ways
      → map f ys ≡ take (k + 1) ways
  ways_added ways k d inside is before =
      ap (map f) added ∙ map_push f xs x ∙ (λ i. before i ++ is i ∷ []) ∙ sym (take_more ways k d inside)

  pub all_added : (P : T → Type 0) → All P xs → P x → All P ys
  all_added P each here = subst (All P) (sym added) (All-push P xs x each here)
