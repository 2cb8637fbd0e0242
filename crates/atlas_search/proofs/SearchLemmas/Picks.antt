-- The best of the boxes shown is the pick of all free boxes, where the classes are searched from the request's upwards.
use Rattle.std.proofs.Common.{ℕ, ◌≤◌, ◌⊎◌, Bool, true, false, List, inl, inr, arith}
use Rattle.std.specs.Prelude.{◌==◌}
use Rattle.std.specs.List.{Contains, All}
use Rattle.std.proofs.lemmas.Bool.{eq-eqb, ne_eqb}
use Rattle.std.proofs.lemmas.List.Elements.{All-contains}
use Rattle.atlas_model.specs.Boxes.{Sides, Box, box_sides, Fits, IsNonempty, IsWithin}
use Rattle.atlas_model.specs.Choice.{Options, class_of, HasEqualSide, IsFitting, IsCandidate, HasBetterMargin, IsPick}
use Rattle.atlas_model.specs.Choice.{HasNoRoom}
use Rattle.atlas_search.specs.Requests.{CanBeRounded}
use Rattle.atlas_search.specs.Searches.{Shown, shown_at, IsAsGood, IsBestShown, FitsOnlyFrom, AreOfClass}
use Rattle.atlas_search.proofs.SearchLemmas.BestMargins.{margin-equal_side, equal_side-margin, equal_side_cases}
use Rattle.atlas_search.proofs.SearchLemmas.BandLaws.{class_of-most}

-- Classes

-- A request that can't be rounded has no room in a size that an `i32` can hold.
pub no_room_unrounded : (free : List Box) (o : Options) (s size : Sides) → (CanBeRounded o s → ⊥)
    → All (λ b. IsNonempty b × IsWithin size b) free
    → size.width ≤ 2147483647 → size.height ≤ 2147483647 → HasNoRoom free o s
no_room_unrounded free o s size misfit boxes wide high room = grind (arith, All-contains)

-- The pick.

of_lowest : (class : ℕ) (free : List Box) (o : Options) (r : Sides) (shown : List Shown) (f : Shown) (c : Box)
    → FitsOnlyFrom class free o r → AreOfClass class free o r shown → Contains shown f → Fits r (box_sides f.box)
    → IsCandidate free o r c → (at : ℕ) × Contains shown (shown_at c at)
of_lowest class free o r shown f c from of has fits candidate = grind arith

best_margin : (o : Options) (r : Sides) (b c : Box) → IsAsGood (class_of o r == 2) r b c
    → HasEqualSide r b ⊎ HasBetterMargin o r b c
best_margin o r b c good = grind (arith, eq-eqb, ne_eqb)

best_equal_side : (is_large : Bool) (r : Sides) (b c : Box) → Fits r (box_sides b) → Fits r (box_sides c)
    → IsAsGood is_large r b c
    → HasEqualSide r c → HasEqualSide r b
best_equal_side true r b c fb fc (inl s) e = s
best_equal_side true r b c fb fc (inr p) e = absurd (p.0 e)
best_equal_side false r b c fb fc p e = let z = margin-equal_side r c fc e in equal_side-margin r b fb (omega arith)

as_good-best : (o : Options) (r : Sides) (b c : Box) → Fits r (box_sides b) → Fits r (box_sides c)
    → (HasEqualSide r c → HasEqualSide r b)
    → HasEqualSide r b ⊎ HasBetterMargin o r b c → IsAsGood (class_of o r == 2) r b c
as_good-best o r b c fb fc h m = grind (arith, eq-eqb, ne_eqb, equal_side_cases, margin-equal_side, class_of-most)

-- The best box shown of the lowest class with a fitting box is the pick.
pub pick_of_class : (class : ℕ) (free : List Box) (o : Options) (r : Sides) (shown : List Shown) (f : Shown)
    → FitsOnlyFrom class free o r → AreOfClass class free o r shown → IsBestShown (class_of o r == 2) r shown f
    → IsPick free o r f.box
pick_of_class class free o r shown f from of best =
    let own = of.of_class f best.is_shown in
    let fitting : IsFitting free r f.box = record { is_free = own.0; fits = best.fits } in
    let seen : (c : Box) → IsCandidate free o r c → (at : ℕ) × Contains shown (shown_at c at) =
    λ c candidate. of_lowest class free o r shown f c from of best.is_shown best.fits candidate in
    let good : (c : Box) → IsCandidate free o r c → IsAsGood (class_of o r == 2) r f.box c =
    λ c candidate. best.best (shown_at c (seen c candidate).0) (seen c candidate).1 candidate.fitting.fits in
    record {
      best = record {
        candidate = record { fitting = fitting; lowest = λ c h. omega (arith, own.1, from c h) };
        equal_side = λ c candidate e. best_equal_side (class_of o r == 2) r f.box c best.fits candidate.fitting.fits (good c candidate) e;
        margin = λ c candidate. best_margin o r f.box c (good c candidate);
      };
      first = λ b h.
          let candidate : IsCandidate free o r f.box = record { fitting = fitting; lowest = λ c k. omega (arith, own.1, from c k) } in
          best.first (shown_at b (seen b h.candidate).0) (seen b h.candidate).1 h.candidate.fitting.fits
          (as_good-best o r b f.box h.candidate.fitting.fits best.fits (h.equal_side f.box candidate) (h.margin f.box candidate));
    }
