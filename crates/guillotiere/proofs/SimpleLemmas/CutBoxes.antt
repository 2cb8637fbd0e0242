-- A picked box of the simple allocator gives way to what is kept of it.
use Rattle.std.proofs.Common.{◌≡◌, ℕ, ◌+◌, Bool, cond, List, ◌∷◌, ◌++◌, length, length-append, subst, arith}
use Rattle.std.specs.List.{count_by}
use Rattle.std.specs.Prelude.{Result, Ok, Err, OnErr}
use Rattle.std.proofs.lemmas.List.Elements.{filter-append}
use Rattle.std.proofs.lemmas.List.Sums.{sum_by-cons, sum_by-append}
use Rattle.atlas_search.specs.declared.best.Found.{Found}
use Rattle.atlas_search.specs.declared.cut.Rest.{Rest}
use Rattle.atlas_model.specs.declared.geometry.Rectangle.{Rectangle}
use Rattle.atlas_search.specs.declared.link.Link.{Link}
use Rattle.atlas_model.specs.Boxes.{Box, Sides, AreSameBoxes}
use Rattle.atlas_model.specs.Choice.{Options}
use Rattle.guillotiere.specs.FreeBoxes.FreeLists.{kept_of}
use Rattle.atlas_search.specs.Items.{Item}
use Rattle.atlas_search.specs.Rectangles.{IsSolid, IsRestOf}
use Rattle.atlas_search.specs.Lookups.{AreListed, IsStanding}
use Rattle.atlas_model.specs.Pixels.{box_of}
use Rattle.atlas_model.specs.Simple.{kept_rest}

-- What holds holds after an error.
pub at_error : {T E P : Type 0} (r : Result T E) → P → OnErr r P
at_error (Ok x) p = tt
at_error (Err e) p = p

-- The picked rectangle is exact.
pub picked-exact : (o : Options) (heads : List Link) (es : List Item) (found : Found) → AreListed o heads es
    → IsStanding es found → IsSolid found.rectangle
picked-exact o heads es found listed standing = subst IsSolid standing.area (listed.exact found.at.number standing.free)

pub count-kept : (p : Box → Bool) (o : Options) (f : Box) (r : Sides) (rest : Rest) → IsRestOf f r rest
    → count_by p (kept_rest o f r) ≡ count_by p (kept_of o (box_of rest.split)) + count_by p (kept_of o (box_of rest.leftover))
count-kept p o f r rest is = grind (arith, filter-append, sum_by-append)

pub length-kept : (o : Options) (f : Box) (r : Sides) (rest : Rest) → IsRestOf f r rest
    → length (kept_rest o f r) ≡ length (kept_of o (box_of rest.split)) + length (kept_of o (box_of rest.leftover))
length-kept o f r rest is = grind (arith, filter-append, length-append)

pub cut-same : (o : Options) (x : Rectangle) (r : Sides) (rest : Rest) (old taken split cut : List Box)
    → IsRestOf (box_of x) r rest
    → AreSameBoxes (box_of x ∷ taken) old → AreSameBoxes split (kept_of o (box_of rest.split) ++ taken)
    → AreSameBoxes cut (kept_of o (box_of rest.leftover) ++ split)
    → AreSameBoxes (box_of x ∷ cut) (kept_rest o (box_of x) r ++ old)
cut-same o x r rest old taken split cut is took kept_split kept_leftover p =
    let f : Box → ℕ = λ b. cond (p b) 1 0 in
    let a = took p in
    let b = kept_split p in
    let c = kept_leftover p in
    let k = count-kept p o (box_of x) r rest is in
    omega (
      arith,
      sum_by-cons f (box_of x) cut,
      sum_by-cons f (box_of x) taken,
      sum_by-append f (kept_rest o (box_of x) r) old,
      sum_by-append f (kept_of o (box_of rest.split)) taken,
      sum_by-append f (kept_of o (box_of rest.leftover)) split,
    )
