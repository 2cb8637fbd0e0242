-- Sprites that find topmost places one after another.
use Rattle.std.proofs.Common.{◌≡◌, ◌+◌, ◌-◌, ◌*◌, ◌/◌, ◌++◌, ◌<◌, ◌≤◌, ℕ, zero, suc, List, [], ◌∷◌, length, map, take, set, get_or}
use Rattle.std.proofs.Common.{take_all, append-nil, All, Option, Some, None, IsSome, refl, ap, sym, subst, ◌∙◌, arith}
use Rattle.std.specs.Prelude.{Contains}
use Rattle.std.proofs.Math.Seq.{take-suc}
use Rattle.std.proofs.lemmas.List.{append_assoc, length-map, map-append, map-set, get_or-set_same}
use Rattle.std.proofs.lemmas.List.Elements.{All-nil, All-cons, All-from_get_or, All-head, All-push, All-tail, Contains-push}
use Rattle.std.proofs.lemmas.Nat.{div_below, le-div}
use Rattle.guillotiere.specs.declared.Size.{Size}
use Rattle.guillotiere.specs.declared.Rectangle.{Rectangle}
use Rattle.guillotiere.specs.Boxes.{Sides, box_at}
use Rattle.guillotiere.specs.Pixels.{box_of, sides_of}
use Rattle.atlas_maxrects.specs.Placing.{HasNoPlace, PlacesTopmost, Placing}
use Rattle.atlas_sheet.specs.declared.options.Spacing.{Spacing}
use Rattle.atlas_sheet.specs.declared.placed.Placed.{Placed}
use Rattle.atlas_sheet.specs.Dense.{FindAllTopmost, FindsTopmost, LeavesTopmost, cell_sides, cells_over, empty_grid, sprite_cells}
use Rattle.atlas_sheet.specs.Lying.{areas_of, placed_area}
use Rattle.atlas_sheet.specs.Orders.{AreNumberedOnce, IsOrderOf}
use Rattle.atlas_sheet.specs.Sheets.{IsPackable, asked_sides, padded, place_of_sprite, with_places}
use Rattle.atlas_sheet.proofs.Arrangements.{shown_whole}
use Rattle.atlas_sheet.proofs.FoundPlaces.{no_sprite, written}
use Rattle.atlas_sheet.proofs.NumberedSprites.{order_at}

-- The fewest cells that are no shorter than a side, and the most that aren't longer.

pub over_is : (cells side cell : ℕ) → 0 < cell → side ≤ cells * cell → cells * cell < side + cell → cells ≡ cells_over side cell
over_is cells side cell positive enough least =
    let low : cells ≤ (side + (cell - 1)) / cell = le-div cells (side + (cell - 1)) cell positive (omega (arith, least, positive)) in
    let more : side + (cell - 1) < (cells + 1) * cell = omega (arith, enough, positive) in
    let high : (side + (cell - 1)) / cell < cells + 1 = div_below (side + (cell - 1)) cell (cells + 1) positive more in
    omega (arith, low, high)

pub whole_is : (cells side cell : ℕ) → 0 < cell → cells * cell ≤ side → side < cells * cell + cell → cells ≡ side / cell
whole_is cells side cell positive fit most =
    let low : cells ≤ side / cell = le-div cells side cell positive fit in
    let more : side < (cells + 1) * cell = omega (arith, most) in
    let high : side / cell < cells + 1 = div_below side cell (cells + 1) positive more in
    omega (arith, low, high)

some_cells : (cells cell side : ℕ) → 0 < side → side ≤ cells * cell → 0 < cells
some_cells zero cell side positive fit = absurd (omega (arith, positive, fit))
some_cells (suc n) cell side positive fit = omega arith

-- What one sprite finds.
module _ (spacing : Spacing) (old new : Placing) (sprite size wanted : Size) (same : sides_of wanted ≡ asked_sides spacing.padding sprite)
    (cells : sides_of size ≡ cell_sides (sides_of spacing.alignment) (sides_of wanted)) where
  taken : sides_of size ≡ sprite_cells spacing sprite
  taken = cells ∙ ap (cell_sides (sides_of spacing.alignment)) same

  pub topmost_found : (found area place : Rectangle) → PlacesTopmost old (sides_of size) (Some found) new
      → box_of area ≡ box_at (record {
        x = (box_of found).min.x * (sides_of spacing.alignment).width;
        y = (box_of found).min.y * (sides_of spacing.alignment).height;
      }) (sides_of wanted)
      → padded spacing.padding place ≡ box_at (box_of area).min (asked_sides spacing.padding sprite)
      → FindsTopmost spacing old sprite (Some place) new
  topmost_found found area place placed lies inset = (
    found,
    subst (λ s. PlacesTopmost old s (Some found) new) taken placed,
    inset ∙ ap (λ b. box_at b.min (asked_sides spacing.padding sprite)) lies,
  )

  pub topmost_none : PlacesTopmost old (sides_of size) None new → IsPackable spacing sprite
      → (sides_of wanted).width ≤ (sides_of size).width * (sides_of spacing.alignment).width
      → (sides_of wanted).height ≤ (sides_of size).height * (sides_of spacing.alignment).height
      → FindsTopmost spacing old sprite None new
  topmost_none placed packable wide high =
      let a : (sides_of wanted).width ≡ (asked_sides spacing.padding sprite).width = ap (λ s. s.width) same in
      let b : (sides_of wanted).height ≡ (asked_sides spacing.padding sprite).height = ap (λ s. s.height) same in
      let p = packable.positive in
      let w : 0 < (sides_of wanted).width = omega (arith, a, p.0) in
      let h : 0 < (sides_of wanted).height = omega (arith, b, p.1) in
      let nowhere : HasNoPlace old (sides_of size) =
      placed.0 (
        some_cells (sides_of size).width (sides_of spacing.alignment).width (sides_of wanted).width w wide,
        some_cells (sides_of size).height (sides_of spacing.alignment).height (sides_of wanted).height h high,
      ) in
      (subst (HasNoPlace old) taken nowhere, placed.1)

-- After the first sprites have looked for places, and found these, whatever further ones find is found from the start.
abbrev pub HaveTopmost : (spacing : Spacing) → (start now : Placing) → List (Size × Option Rectangle) → Type 0
HaveTopmost spacing start now found =
    (later : List (Size × Option Rectangle)) → FindAllTopmost spacing now later → FindAllTopmost spacing start (found ++ later)

-- The places of an order, so far as sprites have looked for them.
pub record IsPlacing (spacing : Spacing) (start now : Placing) (order : List (ℕ × Size)) (k : ℕ) (placed : List (Option Placed)) : Type 0
  where
    pub found : HaveTopmost spacing start now (with_places (areas_of placed) (take k order))
    pub some : All (λ a. IsSome a.1) (with_places (areas_of placed) (take k order))

pub placing_first : (spacing : Spacing) (start now : Placing) (order : List (ℕ × Size)) (placed : List (Option Placed))
    → now ≡ start → IsPlacing spacing start now order 0 placed
placing_first spacing start now order placed begun = record {
  found = λ later asked. subst (λ s. FindAllTopmost spacing s later) begun asked;
  some = All-nil (λ a. IsSome a.1);
}

module _ (spacing : Spacing) (start now next : Placing) (order : List (ℕ × Size)) (k : ℕ) (placed : List (Option Placed)) (s d : ℕ × Size)
    (once : AreNumberedOnce order) (inside : k < length order) (is : s ≡ get_or order k d) (room : s.0 < length placed)
    (before : IsPlacing spacing start now order k placed) where
  wide : s.0 < length (areas_of placed)
  wide = subst (λ n. s.0 < n) (sym (length-map placed placed_area)) room

  grown : (found : Option Rectangle) → FindsTopmost spacing now s.1 found next
      → HaveTopmost spacing start next (with_places (set (areas_of placed) s.0 found) (take (suc k) order))
  grown found step later asked =
      subst (λ ps. FindAllTopmost spacing start (ps ++ later)) (sym (written order k (areas_of placed) s d found once inside is wide))
      (subst (FindAllTopmost spacing start) (sym (append_assoc (with_places (areas_of placed) (take k order)) ((s.1, found) ∷ []) later))
      (before.found ((s.1, found) ∷ later) (next, step, asked)))

  -- The next one has a place.
  pub placing_more : (p : Placed) → FindsTopmost spacing now s.1 (Some p.area) next
      → IsPlacing spacing start next order (suc k) (set placed s.0 (Some p))
  placing_more p step =
      let areas : areas_of (set placed s.0 (Some p)) ≡ set (areas_of placed) s.0 (Some p.area) = map-set placed_area placed s.0 (Some p) in
      record {
        found = subst (λ ps. HaveTopmost spacing start next (with_places ps (take (suc k) order))) (sym areas) (grown (Some p.area) step);
        some = subst (λ ps. All (λ a. IsSome a.1) (with_places ps (take (suc k) order))) (sym areas)
            (subst (All (λ a. IsSome a.1)) (sym (written order k (areas_of placed) s d (Some p.area) once inside is wide))
            (All-push (λ a. IsSome a.1) (with_places (areas_of placed) (take k order)) (s.1, Some p.area) before.some refl));
      }

  -- The next one has none.
  pub placing_left : (sheet : Sides) → start ≡ empty_grid spacing sheet → FindsTopmost spacing now s.1 None next
      → LeavesTopmost spacing sheet order
  placing_left sheet begun step =
      let after = set (areas_of placed) s.0 None in
      let all = grown None step in
      let longer : take (suc k) order ≡ take k order ++ s ∷ [] = take-suc order k d inside ∙ ap (λ t. take k order ++ t ∷ []) (sym is) in
      let absent : place_of_sprite after s ≡ None = get_or-set_same (areas_of placed) s.0 None _ wide in
      let listed : map (place_of_sprite after) (take (suc k) order) ≡ map (place_of_sprite after) (take k order) ++ None ∷ [] =
      ap (map (place_of_sprite after)) longer ∙ map-append (place_of_sprite after) (take k order) (s ∷ [])
      ∙ ap (λ p. map (place_of_sprite after) (take k order) ++ p ∷ []) absent in
      record {
        many = suc k;
        places = after;
        found = subst (λ b. FindAllTopmost spacing b (with_places after (take (suc k) order))) begun
            (subst (FindAllTopmost spacing start) (append-nil (with_places after (take (suc k) order))) (all [] tt));
        left = subst (λ ps. Contains ps None) (sym listed) (Contains-push (map (place_of_sprite after) (take k order)) None);
      }

-- All have places.
module _ (spacing : Spacing) (start now : Placing) (order : List (ℕ × Size)) (k : ℕ) (placed : List (Option Placed))
    (end : length order ≤ k)
    (before : IsPlacing spacing start now order k placed) where
  pub placing_all : FindAllTopmost spacing start (with_places (areas_of placed) order)
  placing_all =
      subst (λ xs. FindAllTopmost spacing start (with_places (areas_of placed) xs)) (take_all k order end)
      (subst (FindAllTopmost spacing start) (append-nil (with_places (areas_of placed) (take k order))) (before.found [] tt))

  pub placing_whole : (sprites : List Size) → IsOrderOf sprites order → length placed ≡ length sprites → All IsSome placed
  placing_whole sprites moved long =
      let each : All (λ s. IsSome (place_of_sprite (areas_of placed) s)) order =
      listed order (subst (λ xs. All (λ a. IsSome a.1) (with_places (areas_of placed) xs)) (take_all k order end) before.some) in
      shown_whole placed (areas_of placed) refl
      (All-from_get_or IsSome (areas_of placed) None (λ i below.
      order_at sprites order moved (λ s. IsSome (place_of_sprite (areas_of placed) s)) each i no_sprite.1
      (omega (arith, below, long, length-map placed placed_area))))
    where
      listed : (xs : List (ℕ × Size)) → All (λ a. IsSome a.1) (with_places (areas_of placed) xs)
          → All (λ s. IsSome (place_of_sprite (areas_of placed) s)) xs
      listed [] all = All-nil (λ s. IsSome (place_of_sprite (areas_of placed) s))
      listed (x ∷ xs) all =
          let here : IsSome (place_of_sprite (areas_of placed) x) =
          All-head (λ a. IsSome a.1) (x.1, place_of_sprite (areas_of placed) x) (with_places (areas_of placed) xs) all in
          All-cons (λ s. IsSome (place_of_sprite (areas_of placed) s)) x xs here
          (listed xs (All-tail (λ a. IsSome a.1) (x.1, place_of_sprite (areas_of placed) x) (with_places (areas_of placed) xs) all))
