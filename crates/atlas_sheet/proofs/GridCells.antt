-- Sprites in a grid of cells.
use Rattle.std.proofs.Common.{◌≡◌, ◌+◌, ◌-◌, ◌*◌, ◌/◌, ◌%◌, ◌<◌, ◌≤◌, ℕ, zero, suc, Bool, true, false, List, [], ◌∷◌, ◌++◌, length, set}
use Rattle.std.proofs.Common.{get_or, replicate, All, Option, Some, None, IfSome, refl, ap, sym, subst, ◌∙◌, arith}
use Rattle.std.specs.List.{AllZip, count_by}
use Rattle.std.proofs.Math.Nat.{mul-le-mul_right, mul-mod_left}
use Rattle.std.proofs.lemmas.List.{length-map, map-set}
use Rattle.std.proofs.lemmas.List.Sums.{sum_by-set}
use Rattle.std.proofs.lemmas.List.Elements.{All-get_or, All-replicate, All-set}
use Rattle.std.proofs.lemmas.Nat.{div_below, le-div}
use Rattle.std.proofs.lemmas.Bool.{false≢true}
use Rattle.std.proofs.lemmas.Bool.Decides.{nat_tests}
use Rattle.guillotiere.specs.declared.Size.{Size}
use Rattle.guillotiere.specs.declared.Rectangle.{Rectangle}
use Rattle.guillotiere.specs.Boxes.{AreDisjoint, Box, IsPositive, Sides, box_at, covers}
use Rattle.guillotiere.specs.Pixels.{box_of, sides_of}
use Rattle.guillotiere.specs.Replies.{IsExact}
use Rattle.guillotiere.proofs.TreeLemmas.TreeBasics.{one_if}
use Rattle.guillotiere.proofs.ListLemmas.ListCounts.{count_by-append, count_by-cons}
use Rattle.atlas_maxrects.specs.Placing.{IsFree, PlacesTopmost, Placing}
use Rattle.atlas_maxrects.proofs.TopmostPlaces.{disjoint_push}
use Rattle.atlas_sheet.specs.declared.options.Spacing.{Spacing}
use Rattle.atlas_sheet.specs.declared.options.SheetOptions.{SheetOptions}
use Rattle.atlas_sheet.specs.declared.placed.Placed.{Placed}
use Rattle.atlas_sheet.specs.Dense.{AreAllPlaced, ArePaddedApart, IsGridIn, IsSmallGrid, IsUpright, TakesCells, box_from}
use Rattle.atlas_sheet.specs.Lying.{IsPlacedFor, areas_of, placed_area}
use Rattle.atlas_sheet.specs.Settings.{spacing_of}
use Rattle.atlas_sheet.specs.Sheets.{IsPackable, IsPlaceFor, asked_sides, covers_place, inner_sides, padded}
use Rattle.atlas_sheet.proofs.SheetPlaces.{fits_side}

-- What holds of each pair still does where one of the second list is replaced.
pub zip_set : {A B : Type 0} (R : A → B → Type 0) (xs : List A) (ys : List B) (n : ℕ) (d : A) (y : B) → AllZip R xs ys
    → n < length xs → R (get_or xs n d) y → AllZip R xs (set ys n y)
zip_set R [] ys n d y each below new = absurd (omega arith)
zip_set R (x ∷ xs) [] n d y each below new = elim each [ ]
zip_set R (x ∷ xs) (z ∷ ys) zero d y each below new = (new, each.1)
zip_set R (x ∷ xs) (z ∷ ys) (suc n) d y each below new = (each.0, zip_set R xs ys n d y each.1 (omega arith) new)

pub none_placed : (o : SheetOptions) (sheet : Sides) (sprites : List Size)
    → AreAllPlaced o sheet sprites (replicate (length sprites) None)
none_placed o sheet [] = tt
none_placed o sheet (s ∷ sprites) = (tt, none_placed o sheet sprites)

pub none_counted : (spacing : Spacing) (x y n : ℕ)
    → count_by (covers_place spacing x y) (areas_of (replicate n None)) ≡ 0
none_counted spacing x y zero = refl
none_counted spacing x y (suc n) =
    count_by-cons (covers_place spacing x y) None (areas_of (replicate n None))
    ∙ (let rest = none_counted spacing x y n in omega (arith, rest))

pub length_zip : (o : SheetOptions) (sheet : Sides) (sprites : List Size) (placed : List (Option Placed))
    → AreAllPlaced o sheet sprites placed → length placed ≡ length sprites
length_zip o sheet [] [] each = refl
length_zip o sheet [] (p ∷ placed) each = elim each [ ]
length_zip o sheet (s ∷ sprites) [] each = elim each [ ]
length_zip o sheet (s ∷ sprites) (p ∷ placed) each = ap suc (length_zip o sheet sprites placed each.1)

-- A pixel of a place lies in one of its cells.

covered_bounds : (x y : ℕ) (b : Box) → covers x y b ≡ true
    → (b.min.x ≤ x) × (x < b.max.x) × (b.min.y ≤ y) × (y < b.max.y)
covered_bounds x y b is = grind (arith, nat_tests)

bounds_covered : (x y : ℕ) (b : Box) → b.min.x ≤ x → x < b.max.x → b.min.y ≤ y → y < b.max.y → covers x y b ≡ true
bounds_covered x y b p q r s = grind (arith, nat_tests)

by_cover : (x y w h : ℕ) (cells b : Box) (p : Bool) → covers x y b ≡ p → 0 < w → 0 < h → b.min.x ≡ cells.min.x * w
    → b.min.y ≡ cells.min.y * h → b.max.x ≤ cells.max.x * w → b.max.y ≤ cells.max.y * h
    → one_if p ≤ one_if (covers (x / w) (y / h) cells)
by_cover x y w h cells b false is pw ph left top right bottom = omega arith
by_cover x y w h cells b true is pw ph left top right bottom =
    let lies = covered_bounds x y b is in
    let from : cells.min.x * w ≤ x = omega (arith, lies.0, left) in
    let to : x < cells.max.x * w = omega (arith, lies.1, right) in
    let above : cells.min.y * h ≤ y = omega (arith, lies.2, top) in
    let below : y < cells.max.y * h = omega (arith, lies.3, bottom) in
    let k : covers (x / w) (y / h) cells ≡ true =
    bounds_covered (x / w) (y / h) cells (le-div cells.min.x x w pw from) (div_below x w cells.max.x pw to)
    (le-div cells.min.y y h ph above) (div_below y h cells.max.y ph below) in
    subst (λ q. 1 ≤ one_if q) (sym k) (omega arith)

covered_cell : (spacing : Spacing) (old new : Placing) (sprite : Size) (place : Rectangle) (x y : ℕ)
    → IsPositive (sides_of spacing.alignment) → (t : TakesCells spacing old sprite place new)
    → one_if (covers x y (padded spacing.padding place))
    ≤ one_if (covers (x / (sides_of spacing.alignment).width) (y / (sides_of spacing.alignment).height) t.cells)
covered_cell spacing old new sprite place x y aligned t =
    let b = box_from spacing t.cells sprite in
    let w = (sides_of spacing.alignment).width in
    let h = (sides_of spacing.alignment).height in
    subst (λ b. one_if (covers x y b) ≤ one_if (covers (x / w) (y / h) t.cells)) (sym t.padded)
    (by_cover x y w h t.cells b (covers x y b) refl aligned.0 aligned.1 refl refl t.wide t.high)

-- No pixel lies in more places than cells.
abbrev pub AreCounted : Spacing → List (Option Placed) → List Box → Type 0
AreCounted spacing placed cells =
    (x y : ℕ) → count_by (covers_place spacing x y) (areas_of placed)
    ≤ count_by (covers (x / (sides_of spacing.alignment).width) (y / (sides_of spacing.alignment).height)) cells

abbrev pub upright : Rectangle → Placed
upright place = record { area = place; turned = false }

pub counted_more : (spacing : Spacing) (old new : Placing) (sprite : Size) (place : Rectangle)
    (placed : List (Option Placed)) (n : ℕ)
    → IsPositive (sides_of spacing.alignment) → n < length placed → TakesCells spacing old sprite place new
    → AreCounted spacing placed old.placed → AreCounted spacing (set placed n (Some (upright place))) new.placed
counted_more spacing old new sprite place placed n aligned below t before x y =
    let q : Option Rectangle → Bool = covers_place spacing x y in
    let w = (sides_of spacing.alignment).width in
    let h = (sides_of spacing.alignment).height in
    let r : Box → Bool = covers (x / w) (y / h) in
    let all = areas_of placed in
    let long : length all ≡ length placed = length-map placed placed_area in
    let room : n < length all = omega (arith, long, below) in
    let written : areas_of (set placed n (Some (upright place))) ≡ set all n (Some place) =
    map-set placed_area placed n (Some (upright place)) in
    let one : count_by q (set all n (Some place)) + one_if (q (get_or all n None)) ≡ count_by q all + one_if
    (covers x y (padded spacing.padding place)) =
    sum_by-set (λ k. one_if (q k)) all n (Some place) None room in
    let is : count_by q (areas_of (set placed n (Some (upright place)))) ≡ count_by q (set all n (Some place)) = ap (count_by q) written in
    let few = before x y in
    let here = covered_cell spacing old new sprite place x y aligned t in
    let next : count_by r new.placed ≡ count_by r (old.placed ++ t.cells ∷ []) = ap (λ (p : Placing). count_by r p.placed) t.taken in
    let parts : count_by r (old.placed ++ t.cells ∷ []) ≡ count_by r old.placed + count_by r (t.cells ∷ []) =
    count_by-append r old.placed (t.cells ∷ []) in
    let last : count_by r (t.cells ∷ []) ≡ one_if (r t.cells) + count_by r [] = count_by-cons r t.cells [] in
    let none : count_by r [] ≡ 0 = refl in
    omega (arith, one, is, few, here, next, parts, last, none)

pub disjoint_more : (spacing : Spacing) (old new : Placing) (sprite : Size) (place : Rectangle)
    → TakesCells spacing old sprite place new → AreDisjoint old.placed → AreDisjoint new.placed
disjoint_more spacing old new sprite place t before =
    subst (λ (p : Placing). AreDisjoint p.placed) (sym t.taken) (disjoint_push old.placed t.cells before t.apart)

pub same_sheet : (spacing : Spacing) (old new : Placing) (sprite : Size) (place : Rectangle)
    → TakesCells spacing old sprite place new → old.sheet ≡ new.sheet
same_sheet spacing old new sprite place t = sym (ap (λ (p : Placing). p.sheet) t.taken)

-- The place of a sprite.
pub placed_for : (sheet : Sides) (spacing : Spacing) (old new : Placing) (sprite : Size) (place : Rectangle)
    → IsPositive sheet
    → IsPackable spacing sprite → IsGridIn old.sheet spacing sheet → TakesCells spacing old sprite place new
    → IsPlaceFor sheet spacing sprite place
placed_for sheet spacing old new sprite place positive packable grid t =
    let w = (sides_of spacing.alignment).width in
    let h = (sides_of spacing.alignment).height in
    let a : (box_of place).min.x - spacing.padding ≡ t.cells.min.x * w = ap (λ b. b.min.x) t.padded in
    let b : (box_of place).max.x ≡ t.cells.min.x * w + ((sides_of sprite).width + spacing.padding) = ap (λ b. b.max.x) t.padded in
    let c : (box_of place).min.y - spacing.padding ≡ t.cells.min.y * h = ap (λ b. b.min.y) t.padded in
    let d : (box_of place).max.y ≡ t.cells.min.y * h + ((sides_of sprite).height + spacing.padding) = ap (λ b. b.max.y) t.padded in
    let left = t.left in
    let above = t.above in
    let across : (box_of place).max.x - (box_of place).min.x ≡ (sides_of sprite).width = omega (arith, a, b, left) in
    let down : (box_of place).max.y - (box_of place).min.y ≡ (sides_of sprite).height = omega (arith, c, d, above) in
    let more : t.cells.max.x * w ≤ old.sheet.width * w = mul-le-mul_right w t.within.0 in
    let lower : t.cells.max.y * h ≤ old.sheet.height * h = mul-le-mul_right h t.within.1 in
    let wide : (box_of place).max.x ≤ (inner_sides spacing sheet).width = omega (arith, b, t.wide, more, grid.0) in
    let high : (box_of place).max.y ≤ (inner_sides spacing sheet).height = omega (arith, d, t.high, lower, grid.1) in
    record {
      sides = λ i. record { width = across i; height = down i };
      left = left;
      above = above;
      right = fits_side sheet.width spacing.padding (sides_of sprite).width (box_of place).max.x positive.0 packable.positive.0
          (omega (arith, b)) wide;
      below = fits_side sheet.height spacing.padding (sides_of sprite).height (box_of place).max.y positive.1 packable.positive.1
          (omega (arith, d)) high;
      aligned = (
        subst (λ k. k % w ≡ 0) (sym a) (mul-mod_left t.cells.min.x w),
        subst (λ k. k % h ≡ 0) (sym c) (mul-mod_left t.cells.min.y h),
      );
      exact = t.exact;
    }

pub all_more : (o : SheetOptions) (sheet : Sides) (sprites : List Size) (placed : List (Option Placed)) (n : ℕ)
    (d : Size)
    (place : Rectangle) → AreAllPlaced o sheet sprites placed → n < length sprites
    → IsPlaceFor sheet (spacing_of o) (get_or sprites n d) place
    → AreAllPlaced o sheet sprites (set placed n (Some (upright place)))
all_more o sheet sprites placed n d place each below is =
    zip_set (λ sprite p. IfSome p (IsPlacedFor sheet (spacing_of o) o.turn sprite)) sprites placed n d (Some (upright place)) each below
    (record { place = is; allowed = λ e. absurd (false≢true e); needed = λ e. absurd (false≢true e) })

pub counted_apart : (spacing : Spacing) (placed : List (Option Placed)) (cells : List Box)
    → AreCounted spacing placed cells
    → AreDisjoint cells → ArePaddedApart spacing placed
counted_apart spacing placed cells counted disjoint x y =
    let few = counted x y in
    let one = disjoint (x / (sides_of spacing.alignment).width) (y / (sides_of spacing.alignment).height) in
    omega (arith, few, one)

-- A sprite that takes the cells of a box.

pub room_for : (from cells cell asked grid : ℕ) → asked ≤ cells * cell → from + cells ≤ grid → grid * cell ≤ 2147483647
    → from * cell + asked ≤ 2147483647
room_for from cells cell asked grid fits within small =
    let more : (from + cells) * cell ≤ grid * cell = mul-le-mul_right cell within in
    omega (arith, more, fits, small)

pub room_of : (spacing : Spacing) (old new : Placing) (size wanted : Size) (cells : Rectangle)
    → PlacesTopmost old (sides_of size) (Some cells) new → IsSmallGrid old.sheet spacing
    → (sides_of wanted).width ≤ (sides_of size).width * (sides_of spacing.alignment).width
    → (sides_of wanted).height ≤ (sides_of size).height * (sides_of spacing.alignment).height
    → ((box_of cells).min.x * (sides_of spacing.alignment).width + (sides_of wanted).width ≤ 2147483647)
    × ((box_of cells).min.y * (sides_of spacing.alignment).height + (sides_of wanted).height ≤ 2147483647)
room_of spacing old new size wanted cells placed small wide high = (
  room_for (box_of cells).min.x (sides_of size).width (sides_of spacing.alignment).width (sides_of wanted).width old.sheet.width wide
      placed.1.free.0.0 small.0,
  room_for (box_of cells).min.y (sides_of size).height (sides_of spacing.alignment).height (sides_of wanted).height old.sheet.height high
      placed.1.free.0.1 small.1,
)

reaches : (from to cells cell asked : ℕ) → to ≡ from + cells → asked ≤ cells * cell → from * cell + asked ≤ to * cell
reaches from to cells cell asked end fits =
    let whole : to * cell ≡ (from + cells) * cell = ap (λ k. k * cell) end in
    omega (arith, whole, fits)

pub takes : (spacing : Spacing) (old new : Placing) (sprite size wanted : Size) (cells area place : Rectangle)
    → PlacesTopmost old (sides_of size) (Some cells) new → sides_of wanted ≡ asked_sides spacing.padding sprite
    → (sides_of wanted).width ≤ (sides_of size).width * (sides_of spacing.alignment).width
    → (sides_of wanted).height ≤ (sides_of size).height * (sides_of spacing.alignment).height
    → box_of area ≡ box_at (record {
      x = (box_of cells).min.x * (sides_of spacing.alignment).width;
      y = (box_of cells).min.y * (sides_of spacing.alignment).height;
    }) (sides_of wanted)
    → padded spacing.padding place ≡ box_at (box_of area).min (asked_sides spacing.padding sprite)
    → spacing.padding ≤ (box_of place).min.x → spacing.padding ≤ (box_of place).min.y → IsExact place
    → TakesCells spacing old sprite place new
takes spacing old new sprite size wanted cells area place placed same wide high lies inset left above exact =
    let here : IsFree old (box_of cells) = subst (IsFree old) (sym placed.2) placed.1.free in
    let a : (sides_of wanted).width ≡ (asked_sides spacing.padding sprite).width = ap (λ s. s.width) same in
    let b : (sides_of wanted).height ≡ (asked_sides spacing.padding sprite).height = ap (λ s. s.height) same in
    record {
      cells = box_of cells;
      within = here.0;
      apart = here.1;
      taken = placed.4;
      padded = inset ∙ ap (λ b. box_at b.min (asked_sides spacing.padding sprite)) lies;
      wide = reaches (box_of cells).min.x (box_of cells).max.x (sides_of size).width (sides_of spacing.alignment).width
          (asked_sides spacing.padding sprite).width (ap (λ b. b.max.x) placed.2) (omega (arith, a, wide));
      high = reaches (box_of cells).min.y (box_of cells).max.y (sides_of size).height (sides_of spacing.alignment).height
          (asked_sides spacing.padding sprite).height (ap (λ b. b.max.y) placed.2) (omega (arith, b, high));
      left = left;
      above = above;
      exact = exact;
    }

-- What holds while sprites take cells one after another.
pub record IsGoing (o : SheetOptions) (sheet : Sides) (sprites : List Size) (packer : Placing) (placed : List (Option Placed))
    : Type 0 where
  pub grid : IsGridIn packer.sheet (spacing_of o) sheet
  pub small : IsSmallGrid packer.sheet (spacing_of o)
  pub disjoint : AreDisjoint packer.placed
  pub each : AreAllPlaced o sheet sprites placed
  pub counted : AreCounted (spacing_of o) placed packer.placed
  pub unturned : All IsUpright placed

pub going_first : (o : SheetOptions) (sheet grid : Sides) (sprites : List Size) (packer : Placing) (spacing : Spacing)
    (placed : List (Option Placed)) → spacing ≡ spacing_of o → IsGridIn grid spacing sheet → IsSmallGrid grid spacing
    → packer ≡ record { sheet = grid; placed = [] } → placed ≡ replicate (length sprites) None → IsGoing o sheet sprites packer placed
going_first o sheet grid sprites packer spacing placed same lies small empty none =
    subst (λ p. IsGoing o sheet sprites p placed) (sym empty)
    (subst (IsGoing o sheet sprites (record { sheet = grid; placed = [] })) (sym none)
    (record {
      grid = subst (λ s. IsGridIn grid s sheet) same lies;
      small = subst (IsSmallGrid grid) same small;
      disjoint = λ x y. omega arith;
      each = none_placed o sheet sprites;
      counted = λ x y. let none = none_counted (spacing_of o) x y (length sprites) in omega (arith, none);
      unturned = All-replicate IsUpright (length sprites) None tt;
    }))

pub going_more : (o : SheetOptions) (sheet : Sides) (sprites : List Size) (old new : Placing) (spacing : Spacing)
    (placed : List (Option Placed)) (n : ℕ) (d : Size) (place : Rectangle) (p : Placed) → p ≡ upright place
    → spacing ≡ spacing_of o → IsPositive sheet
    → IsPositive (sides_of o.alignment) → All (IsPackable (spacing_of o)) sprites → n < length sprites
    → TakesCells spacing old (get_or sprites n d) place new → IsGoing o sheet sprites old placed
    → IsGoing o sheet sprites new (set placed n (Some p))
going_more o sheet sprites old new spacing placed n d place p lying same positive aligned packable below takes before =
    let s = spacing_of o in
    let t : TakesCells s old (get_or sprites n d) place new = subst (λ s. TakesCells s old (get_or sprites n d) place new) same takes in
    let keeps = same_sheet s old new (get_or sprites n d) place t in
    let long : length placed ≡ length sprites = length_zip o sheet sprites placed before.each in
    subst (λ q. IsGoing o sheet sprites new (set placed n (Some q))) (sym lying)
    (record {
      grid = subst (λ g. IsGridIn g s sheet) keeps before.grid;
      small = subst (λ g. IsSmallGrid g s) keeps before.small;
      disjoint = disjoint_more s old new (get_or sprites n d) place t before.disjoint;
      each = all_more o sheet sprites placed n d place before.each below
          (placed_for sheet s old new (get_or sprites n d) place positive (All-get_or (IsPackable s) sprites n d below packable) before.grid
          t);
      counted = counted_more s old new (get_or sprites n d) place placed n aligned (omega (arith, long, below)) t before.counted;
      unturned = All-set IsUpright placed n (Some (upright place)) refl before.unturned;
    })
