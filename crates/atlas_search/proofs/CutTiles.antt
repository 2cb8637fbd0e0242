-- The axis of a cut, and that the parts of a cut rectangle tile it.
use Rattle.std.proofs.Common.{◌≡◌, ℕ, ◌+◌, ◌*◌, ◌<◌, ◌≤◌, Bool, true, false, cond, ◌&&◌, ◌⊎◌, [], ◌∷◌, ℤ, pos, ◌+ℤ◌}
use Rattle.std.proofs.Common.{◌-ℤ◌, ◌≤ℤ◌, FitsSigned, w32, arith}
use Rattle.std.proofs.lemmas.Int.{ints}
use Rattle.std.specs.Prelude.{int_le, int_lt}
use Rattle.atlas_model.specs.Boxes.Axis.{Horizontal, Vertical}
use Rattle.atlas_model.specs.Cuts.{cap, cut_axis}
use Rattle.atlas_model.specs.Pixels.{natural, sides_of}
use Rattle.atlas_search.specs.Rectangles.{FitsInto, Tile, granted_in, rest_in}
use Rattle.atlas_search.specs.declared.cut.Orientation.{Orientation}
use Rattle.atlas_search.specs.declared.cut.Rest.{Rest}
use Rattle.atlas_model.specs.declared.geometry.Rectangle.{Rectangle}
use Rattle.atlas_model.specs.declared.geometry.Size.{Size}
use Rattle.atlas_search.specs.declared.cut.Orientation.TheVariants as orientation

-- Differences and sums of coordinates.

pub difference_fits : (a b : ℤ) → FitsSigned w32 a → pos 0 ≤ℤ b → b ≤ℤ a → FitsSigned w32 (a -ℤ b)
difference_fits a b f p q = omega (arith, ints)

pub sum_fits : (a b c : ℤ) → FitsSigned w32 a → FitsSigned w32 c → pos 0 ≤ℤ b → b ≤ℤ (c -ℤ a) → FitsSigned w32 (a +ℤ b)
sum_fits a b c f g p q = omega (arith, ints)

-- The axis.

pub axis_horizontal : (whole size : Size) (beside below : ℕ)
    → pos 0 ≤ℤ size.width → pos 0 ≤ℤ size.height → size.width ≤ℤ whole.width → size.height ≤ℤ whole.height
    → beside ≡ cap (natural (whole.width -ℤ size.width) * natural size.height)
    → below ≡ cap (natural size.width * natural (whole.height -ℤ size.height))
    → below < beside → Horizontal ≡ cut_axis (sides_of whole) (sides_of size)
axis_horizontal whole size beside below wide high width height p q r = grind arith

pub axis_vertical : (whole size : Size) (beside below : ℕ)
    → pos 0 ≤ℤ size.width → pos 0 ≤ℤ size.height → size.width ≤ℤ whole.width → size.height ≤ℤ whole.height
    → beside ≡ cap (natural (whole.width -ℤ size.width) * natural size.height)
    → below ≡ cap (natural size.width * natural (whole.height -ℤ size.height))
    → beside ≤ below → Vertical ≡ cut_axis (sides_of whole) (sides_of size)
axis_vertical whole size beside below wide high width height p q r = grind arith

-- The tiling.

-- A stretch cut in two: whether a place lies in the first part, in the second, in the whole.
AreParts : (first second whole : Bool) → Type 0
AreParts first second whole =
    ((first ≡ true) × (second ≡ false) × (whole ≡ true))
    ⊎ (((first ≡ false) × (second ≡ true) × (whole ≡ true))
    ⊎ ((first ≡ false) × (second ≡ false) × (whole ≡ false)))

abbrev lies : (low high x : ℤ) → Bool
lies low high x = int_le low x && int_lt x high

parts : (a c b x : ℤ) → a ≤ℤ c → c ≤ℤ b → AreParts (lies a c x) (lies c b x) (lies a b x)
unfolding AreParts
parts a c b x p q = grind arith

abbrev one_if : Bool → ℕ
one_if b = cond b 1 0

cells_across : (p1 p2 p q1 q2 q : Bool) → AreParts p1 p2 p → AreParts q1 q2 q
    → 0 + one_if (p1 && q1) + one_if (p2 && q) + one_if (p1 && q2) ≡ 0 + one_if (p && q)
unfolding AreParts
cells_across p1 p2 p q1 q2 q h k = grind arith

cells_down : (p1 p2 p q1 q2 q : Bool) → AreParts p1 p2 p → AreParts q1 q2 q
    → 0 + one_if (p1 && q1) + one_if (p && q2) + one_if (p2 && q1) ≡ 0 + one_if (p && q)
unfolding AreParts
cells_down p1 p2 p q1 q2 q h k = grind arith

tiling_in : (o : Orientation) (r : Rectangle) (s : Size) → FitsInto s r
    → Tile (granted_in r s ∷ (rest_in o r s).split ∷ (rest_in o r s).leftover ∷ []) r
tiling_in orientation.Horizontal r s fits x y =
    cells_across _ _ _ _ _ _
    (parts r.min.x (r.min.x +ℤ s.width) r.max.x x (omega (arith, ints)) (omega (arith, ints)))
    (parts r.min.y (r.min.y +ℤ s.height) r.max.y y (omega (arith, ints)) (omega (arith, ints)))
tiling_in orientation.Vertical r s fits x y =
    cells_down _ _ _ _ _ _
    (parts r.min.x (r.min.x +ℤ s.width) r.max.x x (omega (arith, ints)) (omega (arith, ints)))
    (parts r.min.y (r.min.y +ℤ s.height) r.max.y y (omega (arith, ints)) (omega (arith, ints)))

pub tiling : (o : Orientation) (r : Rectangle) (s : Size) (rest : Rest) → rest ≡ rest_in o r s → FitsInto s r
    → Tile (granted_in r s ∷ rest.split ∷ rest.leftover ∷ []) r
tiling o r s rest e fits = grind (arith, tiling_in)
