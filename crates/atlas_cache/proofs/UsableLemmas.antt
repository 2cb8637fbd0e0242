-- What is free on a page and of no use.
use Rattle.std.proofs.Common.{ℕ, ◌+◌, ◌<◌, ◌≡◌, Bool, List, get_or, map, sym, ◌∙◌, arith}
use Rattle.std.specs.Prelude.{count_by, length, pos, sum_by, take}
use Rattle.std.proofs.lemmas.List.Sums.{sum_by_more_le_part}
use Rattle.guillotiere.specs.declared.Rectangle.{Rectangle}
use Rattle.guillotiere.specs.Boxes.{area, Box, Sides}
use Rattle.guillotiere.specs.Pixels.{box_of}
use Rattle.guillotiere.proofs.ListLemmas.CountSums.{sum_by-counts, sum_by-map}
use Rattle.atlas_allocator.specs.Room.{lost}
use Rattle.atlas_allocator.proofs.AtlasLemmas.FreeRoom.{lost-small}

-- The sum over rectangles, in whatever order their boxes are.
pub sum-shown : (f : Box → ℕ) (rs : List Rectangle) (bs : List Box)
    → ((p : Box → Bool) → count_by p (map box_of rs) ≡ count_by p bs) → sum_by (λ r. f (box_of r)) rs ≡ sum_by f bs
sum-shown f rs bs same = sym (sum_by-map f box_of rs) ∙ sum_by-counts f (map box_of rs) bs same

-- A position of no meaning.
abbrev nowhere : Rectangle
nowhere = record { min = record { x = pos 0; y = pos 0 }; max = record { x = pos 0; y = pos 0 } }

-- One more rectangle: the sum stays below what the areas together are below.
pub fits_more : (r : Sides) (rs : List Rectangle) (i sum one most : ℕ) → i < length rs
    → sum ≡ sum_by (λ y. lost r (box_of y)) (take i rs) → one ≡ lost r (box_of (get_or rs i nowhere))
    → sum_by (λ y. area (box_of y)) rs < most → sum + one < most
fits_more r rs i sum one most inside sum_is one_is less =
    let part = sum_by_more_le_part (λ y. lost r (box_of y)) (λ y. area (box_of y)) rs i nowhere inside
    (λ y. lost-small r (box_of y)) in
    omega (arith, part, sum_is, one_is, less, lost-small r (box_of (get_or rs i nowhere)))
