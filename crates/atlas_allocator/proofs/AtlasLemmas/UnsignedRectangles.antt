-- Rectangles and sizes whose coordinates are whole numbers from 0 on: what can be measured, and what rounding leaves.
use Rattle.std.proofs.Common.{◌≡◌, ℕ, ◌-◌, ◌<◌, ◌≤◌, ℤ, pos, negsuc, ◌-ℤ◌, ◌≤ℤ◌, ◌<ℤ◌, FitsSigned, w32, ap, sym, subst, arith}
use Rattle.std.proofs.lemmas.Int.{ints}
use Rattle.atlas_model.specs.declared.geometry.Size.{Size}
use Rattle.atlas_model.specs.declared.geometry.Rectangle.{Rectangle}
use Rattle.atlas_model.specs.Boxes.{Sides, box_sides, Fits, IsPositive}
use Rattle.atlas_model.specs.Choice.{Options, AreValid, rounded}
use Rattle.atlas_model.specs.Pixels.{natural, box_of, sides_of, size_of, IsMeasurable}
use Rattle.atlas_model.proofs.ChoiceLemmas.RoundedSides.{rounded_positive}
use Rattle.atlas_search.specs.Rectangles.{FitsInto, IsUnsigned}
use Rattle.atlas_search.specs.Requests.{CanBeRounded}

-- Rectangles with no corner below 0.

pub unsigned-measurable : (r : Rectangle) → IsUnsigned r → FitsSigned w32 r.min.x → FitsSigned w32 r.min.y
    → FitsSigned w32 r.max.x → FitsSigned w32 r.max.y → IsMeasurable r
unsigned-measurable r u a b c d = grind arith

side_fits : (z a b : ℤ) (m n : ℕ) → a ≡ pos m → b ≡ pos n → 0 < natural z → natural z ≤ n - m
    → (pos 0 <ℤ z) × (z ≤ℤ (b -ℤ a))
side_fits (pos z) a b m n e f p l = (omega (arith, ints), omega (arith, ints))
side_fits (negsuc z) a b m n e f p l = absurd (omega arith)

pub unsigned-fits : (s : Size) (r : Rectangle) → IsUnsigned r → IsPositive (sides_of s)
    → Fits (sides_of s) (box_sides (box_of r)) → FitsInto s r
unsigned-fits s r u positive fits = grind (arith, side_fits)

-- A grant.

pub sides_of-size : (size : Size) (r : Sides) → size ≡ size_of r → sides_of size ≡ r
sides_of-size size r e = ap sides_of e

pub size-positive : (o : Options) (s : Sides) (size : Size) → AreValid o
    → CanBeRounded o s × (size ≡ size_of (rounded o s)) → IsPositive (sides_of size)
size-positive o s size valid h = subst IsPositive (sym (sides_of-size size (rounded o s) h.1)) (rounded_positive o s valid h.0.positive)
