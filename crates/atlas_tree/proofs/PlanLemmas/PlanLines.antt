-- The plan of a request: its line of the cut table, and that it can be carried out.
use Rattle.std.proofs.Common.{ℕ, ◌≡◌, ◌<◌, ◌-◌, ◌*◌, Bool, true, false, refl, ap, ◌∙◌, arith, eqb, cond, ◌&&◌, ◌||◌}
use Rattle.std.proofs.lemmas.Bool.{cond-true, eq-eqb, lt-ltb, ne_eqb}
use Rattle.atlas_model.specs.declared.geometry.Rectangle.{Rectangle}
use Rattle.atlas_model.specs.Boxes.{Sides, box_sides, Fits, IsPositive}
use Rattle.atlas_model.specs.Boxes.Axis.{Horizontal, Vertical}
use Rattle.atlas_model.specs.Cuts.{cap, cut, cut_axis}
use Rattle.atlas_model.specs.Cuts.Cut.{Whole, Strip, Corner}
use Rattle.atlas_model.specs.Pixels.{box_of, rectangle_of}
use Rattle.atlas_search.specs.Rectangles.{IsSolid}

-- The line by the sides that are equal.

line : (a b : Bool) (whole r : Sides) → eqb whole.width r.width ≡ a → eqb whole.height r.height ≡ b
    → cut whole r ≡ cond (a && b) Whole (cond (a || b) (Strip (cut_axis whole r)) (Corner (cut_axis whole r)))
line a b whole r p q = rw p (rw q refl)

product-positive : (a b : ℕ) → 0 < a → 0 < b → 0 < a * b
product-positive a b p q = grind arith

-- A request that is as high as the whole, and narrower, leaves a strip beside it.
pub cut-beside : (whole r : Sides) → whole.height ≡ r.height → r.width < whole.width → 0 < r.height
    → cut whole r ≡ Strip Horizontal
cut-beside whole r e l p =
    let more = product-positive (whole.width - r.width) r.height (omega arith) p in
    let none : whole.height - r.height ≡ 0 = omega arith in
    let less = lt-ltb (cap (r.width * (whole.height - r.height))) (cap ((whole.width - r.width) * r.height))
    (omega (arith, more, ap (λ v. r.width * v) none)) in
    line false true whole r (ne_eqb whole.width r.width (λ x. absurd (omega arith))) (eq-eqb whole.height r.height e)
    ∙ ap Strip (cond-true _ Horizontal Vertical less)

-- The plan can be carried out.

-- A rectangle that a request fits.
pub exact-leaf : (area : Rectangle) (r : Sides) → area ≡ rectangle_of (box_of area) → IsPositive r
    → Fits r (box_sides (box_of area)) → IsSolid area
exact-leaf area r e p f = record { unsigned = e; nonempty = (omega (arith, p.0, f.0), omega (arith, p.1, f.1)) }
