-- The best of what is found with the sprites laid in several ways.
use Rattle.std.proofs.Common.{◌≡◌, ◌<◌, ◌≤◌, ◌⊎◌, ℕ, Bool, true, inl, inr, List, [], ◌∷◌, ◌++◌, All, Option, Some, None, IfSome, IfNone}
use Rattle.std.proofs.Common.{IsNone, sym, subst, arith}
use Rattle.std.proofs.lemmas.Bool.{false≢true}
use Rattle.std.proofs.lemmas.List.Elements.{All-append, All-nil, All-cons, All-weaker}
use Rattle.guillotiere.specs.declared.Size.{Size}
use Rattle.guillotiere.specs.declared.Rectangle.{Rectangle}
use Rattle.guillotiere.specs.Boxes.{Sides}
use Rattle.guillotiere.specs.Pixels.{sides_of}
use Rattle.atlas_sheet.specs.declared.options.SheetOptions.{SheetOptions}
use Rattle.atlas_sheet.specs.declared.turnings.Turning.{Turning}
use Rattle.atlas_sheet.specs.declared.turnings.Turning.TheVariants as turning
use Rattle.atlas_sheet.specs.declared.ways.Way.{Way}
use Rattle.atlas_sheet.specs.Allowances.{pixels}
use Rattle.atlas_sheet.specs.Fillings.{FindsFewer, IsBestFound, IsNoBetter}
use Rattle.atlas_sheet.specs.Firsts.{StandsAfter}
use Rattle.atlas_sheet.specs.Packings.{IsFirstFound, IsNoLarger, IsSmaller, NoneIsFound}
use Rattle.atlas_sheet.specs.Settings.{spacing_of}
use Rattle.atlas_sheet.specs.Sheets.{used_area}
use Rattle.atlas_sheet.specs.Turnings.{AreLaid, InEach, InFirst, InOne, IsLaidSo, turnings}
use Rattle.atlas_sheet.proofs.Arrangements.{no_larger}
use Rattle.atlas_sheet.proofs.BestWays.{all_fewer, still_best}
use Rattle.atlas_sheet.proofs.FirstOnes.{stands_first, stands_in, stands_later, stands_still}

-- What is known of each of three is known of the one that was taken.
pub taken : {S A B C D : Type 0} (G : S → Type 0) (given wide high inner best : S)
    → ((inner ≡ wide) × A) ⊎ ((inner ≡ high) × B)
    → ((best ≡ given) × C) ⊎ ((best ≡ inner) × D) → G given → G wide → G high → G best
taken G given wide high inner best two (inl is) a b c = subst G (sym is.0) a
taken G given wide high inner best (inl two) (inr is) a b c = subst G (sym is.0) (subst G (sym two.0) b)
taken G given wide high inner best (inr two) (inr is) a b c = subst G (sym is.0) (subst G (sym two.0) c)

-- The best for some turnings, with what is known of it, what each turning leaves, and what each one before its own does.
module _ {S : Type 0} (P L B : Turning → S → Type 0) where
  pub record IsBestIn (hows : List Turning) (best : S) : Type 0 where
    pub one : (how : Turning) × P how best × StandsAfter (λ how. B how best) hows how
    pub each : All (λ how. L how best) hows

  pub best_so : (how : Turning) (best : S) → P how best → L how best → IsBestIn (how ∷ []) best
  best_so how best p l = record {
    one = (how, p, stands_first (λ how. B how best) how []);
    each = All-cons (λ how. L how best) how [] l (All-nil (λ how. L how best));
  }

  pub best_left : (hows more : List Turning) (one other : S) → ((how : Turning) → L how other → L how one)
      → IsBestIn hows one → IsBestIn more other → IsBestIn (hows ++ more) one
  best_left hows more one other as_well here there = record {
    one = (here.one.0, here.one.1, stands_still (λ how. B how one) hows more here.one.0 here.one.2);
    each = All-append (λ how. L how one) hows more here.each
        (All-weaker (λ how. L how other) (λ how. L how one) as_well more there.each);
  }

  pub best_right : (hows more : List Turning) (one other : S) → ((how : Turning) → L how one → L how other)
      → ((how : Turning) → L how one → B how other)
      → IsBestIn hows one → IsBestIn more other → IsBestIn (hows ++ more) other
  best_right hows more one other as_well before here there = record {
    one = (
      there.one.0,
      there.one.1,
      stands_later (λ how. B how other) hows more there.one.0
          (All-weaker (λ how. L how one) (λ how. B how other) before hows here.each) there.one.2,
    );
    each = All-append (λ how. L how other) hows more
        (All-weaker (λ how. L how one) (λ how. L how other) as_well hows here.each) there.each;
  }

-- The fullest of arrangements, by their orders and places.
module _ {S : Type 0} (o : SheetOptions) (sprites : List Size) (ways : List Way) (sheet : Sides) (order : S → List ℕ)
    (places : S → List (Option Rectangle)) where
  abbrev pub IsFilledSo : Turning → S → Type 0
  IsFilledSo how a = IsLaidSo o sprites (λ lying. IsBestFound ways sheet (spacing_of o) lying (order a) (places a)) how

  abbrev pub IsNotFuller : Turning → S → Type 0
  IsNotFuller how a = IsLaidSo o sprites (λ lying. All (IsNoBetter sheet (spacing_of o) lying (used_area (places a))) ways) how

  abbrev pub IsFuller : Turning → S → Type 0
  IsFuller how a = IsLaidSo o sprites (λ lying. All (FindsFewer sheet (spacing_of o) lying (used_area (places a))) ways) how

  pub as_full : (one other : S) → used_area (places other) ≤ used_area (places one) → (how : Turning)
      → IsNotFuller how other → IsNotFuller how one
  as_full one other le how is =
      (is.0, is.1, still_best sheet (spacing_of o) is.0 ways (used_area (places other)) (used_area (places one)) le is.2)

  pub filled_best : (how : Turning) (a : S) (lying : List Size) → AreLaid o how sprites lying
      → IsBestFound ways sheet (spacing_of o) lying (order a) (places a) → IsBestIn IsFilledSo IsNotFuller IsFuller (how ∷ []) a
  filled_best how a lying are found = best_so IsFilledSo IsNotFuller IsFuller how a (lying, are, found) (lying, are, found.2.best)

  pub fuller_best : (hows more : List Turning) (one other best : S)
      → ((best ≡ one) × (used_area (places other) ≤ used_area (places one)))
      ⊎ ((best ≡ other) × (used_area (places one) < used_area (places other)))
      → IsBestIn IsFilledSo IsNotFuller IsFuller hows one → IsBestIn IsFilledSo IsNotFuller IsFuller more other
      → IsBestIn IsFilledSo IsNotFuller IsFuller (hows ++ more) best
  fuller_best hows more one other best (inl is) here there =
      subst (IsBestIn IsFilledSo IsNotFuller IsFuller (hows ++ more)) (sym is.0)
      (best_left IsFilledSo IsNotFuller IsFuller hows more one other (as_full one other is.1) here there)
  fuller_best hows more one other best (inr is) here there =
      let less : used_area (places one) < used_area (places other) = is.1 in
      subst (IsBestIn IsFilledSo IsNotFuller IsFuller (hows ++ more)) (sym is.0)
      (best_right IsFilledSo IsNotFuller IsFuller hows more one other (as_full other one (omega (arith, less)))
      (λ how l. (l.0, l.1, all_fewer sheet (spacing_of o) l.0 ways (used_area (places one)) (used_area (places other)) less l.2)) here
      there)

  -- The best in all turnings.
  pub fullest : (lying : S → List Size) (given wide high inner best : S)
      → AreLaid o turning.AsGiven sprites (lying given) → AreLaid o turning.Wide sprites (lying wide)
      → AreLaid o turning.High sprites (lying high)
      → IsBestFound ways sheet (spacing_of o) (lying given) (order given) (places given)
      → IsBestFound ways sheet (spacing_of o) (lying wide) (order wide) (places wide)
      → IsBestFound ways sheet (spacing_of o) (lying high) (order high) (places high)
      → ((inner ≡ wide) × (used_area (places high) ≤ used_area (places wide)))
      ⊎ ((inner ≡ high) × (used_area (places wide) < used_area (places high)))
      → ((best ≡ given) × (used_area (places inner) ≤ used_area (places given)))
      ⊎ ((best ≡ inner) × (used_area (places given) < used_area (places inner)))
      → IsBestIn IsFilledSo IsNotFuller IsFuller (turnings true) best
  fullest lying given wide high inner best laid_given laid_wide laid_high by_given by_wide by_high two all =
      fuller_best (turning.AsGiven ∷ []) (turning.Wide ∷ turning.High ∷ []) given inner best all
      (filled_best turning.AsGiven given (lying given) laid_given by_given)
      (fuller_best (turning.Wide ∷ []) (turning.High ∷ []) wide high inner two
      (filled_best turning.Wide wide (lying wide) laid_wide by_wide) (filled_best turning.High high (lying high) laid_high by_high))

  pub full_each : (turn : Bool) (a : S) → o.turn ≡ turn → IsBestIn IsFilledSo IsNotFuller IsFuller (turnings turn) a
      → InEach o sprites (λ lying. All (IsNoBetter sheet (spacing_of o) lying (used_area (places a))) ways)
  full_each turn a is best = subst (λ b. All (λ how. IsNotFuller how a) (turnings b)) (sym is) best.each

  pub full_one : (turn : Bool) (a : S) → o.turn ≡ turn → IsBestIn IsFilledSo IsNotFuller IsFuller (turnings turn) a
      → InFirst o sprites (λ lying. IsBestFound ways sheet (spacing_of o) lying (order a) (places a))
      (λ lying. All (FindsFewer sheet (spacing_of o) lying (used_area (places a))) ways)
  full_one turn a is best =
      (best.one.0, best.one.1, subst (λ b. StandsAfter (λ how. IsFuller how a) (turnings b) best.one.0) (sym is) best.one.2)

-- The smallest of sheets that were found or not, with all that they show.
module _ {S : Type 0} (o : SheetOptions) (sprites : List Size) (ways : List Way) (size : S → Size) (order : S → List ℕ)
    (places : S → List (Option Rectangle)) where
  abbrev pub IsFoundSo : Turning → Option S → Type 0
  IsFoundSo how found = IfSome found (λ a. IsLaidSo o sprites
      (λ lying. IsFirstFound ways o.allowed (spacing_of o) lying (sides_of (size a)) (order a) (places a)) how)

  abbrev pub IsNotSmaller : Turning → Option S → Type 0
  IsNotSmaller how None = IsLaidSo o sprites (λ lying. NoneIsFound ways o.allowed (spacing_of o) lying) how
  IsNotSmaller how (Some a) = IsLaidSo o sprites (λ lying. IsNoLarger ways o.allowed (spacing_of o) lying (sides_of (size a))) how

  abbrev pub IsLargerSo : Turning → Option S → Type 0
  IsLargerSo how found = IfSome found (λ a. IsLaidSo o sprites (λ lying. IsSmaller ways o.allowed (spacing_of o) lying (sides_of (size a)))
      how)

  -- It has fewer pixels, where both are there.
  abbrev pub IsFewer : (best found : Option S) → Type 0
  IsFewer best found = IfSome found (λ a. IfSome best (λ b. pixels (sides_of (size b)) < pixels (sides_of (size a))))

  fewer_so : (best found : Option S) → IsFewer best found → (how : Turning) → IsNotSmaller how found → IsLargerSo how best
  fewer_so None found less how is = tt
  fewer_so (Some b) None less how is = (is.0, is.1, inl is.2)
  fewer_so (Some b) (Some a) less how (lying, are, inl none) = (lying, are, inl none)
  fewer_so (Some b) (Some a) less how (lying, are, inr (first, packed, least, le)) =
      let few : pixels (sides_of (size a)) ≤ pixels first = le in
      let fewer : pixels (sides_of (size b)) < pixels (sides_of (size a)) = less in
      (lying, are, inr (first, packed, least, omega (arith, few, fewer)))

  -- A sheet that has no more pixels, if there is one.
  abbrev pub IsAsSmall : (best found : Option S) → Type 0
  IsAsSmall best found =
      IfSome found (λ a. IfSome best (λ b. pixels (sides_of (size b)) ≤ pixels (sides_of (size a)))) × (IfNone best (IsNone found))

  as_small : (best found : Option S) → IsAsSmall best found → (how : Turning) → IsNotSmaller how found
      → IsNotSmaller how best
  as_small None None is how small = small
  as_small None (Some a) is how small = let off : IsNone (Some a) = is.1 in absurd (false≢true (sym off))
  as_small (Some b) None is how small = (small.0, small.1, inl small.2)
  as_small (Some b) (Some a) is how small =
      (small.0, small.1, no_larger ways o.allowed (spacing_of o) small.0 (sides_of (size a)) (sides_of (size b)) is.0 small.2)

  pub found_best : (how : Turning) (found : Option S) (lying : S → List Size)
      → IfSome found (λ a. AreLaid o how sprites (lying a))
      → IfSome found (λ a. IsFirstFound ways o.allowed (spacing_of o) (lying a) (sides_of (size a)) (order a) (places a))
      → IfNone found ((lying : List Size) × AreLaid o how sprites lying × NoneIsFound ways o.allowed (spacing_of o) lying)
      → IsBestIn IsFoundSo IsNotSmaller IsLargerSo (how ∷ []) found
  found_best how None lying are first none = best_so IsFoundSo IsNotSmaller IsLargerSo how None tt none
  found_best how (Some a) lying are first none =
      best_so IsFoundSo IsNotSmaller IsLargerSo how (Some a) (lying a, are, first)
      (lying a, are, inr (sides_of (size a), first.0, first.1, omega arith))

  best_one : (hows more : List Turning) (one other best : Option S) → best ≡ one → IsAsSmall best other
      → IsBestIn IsFoundSo IsNotSmaller IsLargerSo hows one → IsBestIn IsFoundSo IsNotSmaller IsLargerSo more other
      → IsBestIn IsFoundSo IsNotSmaller IsLargerSo (hows ++ more) best
  best_one hows more one other best is right here there =
      subst (IsBestIn IsFoundSo IsNotSmaller IsLargerSo (hows ++ more)) (sym is)
      (best_left IsFoundSo IsNotSmaller IsLargerSo hows more one other (as_small one other (subst (λ b. IsAsSmall b other) is right)) here
      there)

  pub smaller_best : (hows more : List Turning) (one other best : Option S) → (best ≡ one) ⊎ (best ≡ other)
      → (best ≡ one) ⊎ IsFewer best one → IsAsSmall best one → IsAsSmall best other
      → IsBestIn IsFoundSo IsNotSmaller IsLargerSo hows one → IsBestIn IsFoundSo IsNotSmaller IsLargerSo more other
      → IsBestIn IsFoundSo IsNotSmaller IsLargerSo (hows ++ more) best
  smaller_best hows more one other best (inl is) first left right here there = best_one hows more one other best is right here there
  smaller_best hows more one other best (inr is) (inl first) left right here there =
      best_one hows more one other best first right here there
  smaller_best hows more one other best (inr is) (inr less) left right here there =
      subst (IsBestIn IsFoundSo IsNotSmaller IsLargerSo (hows ++ more)) (sym is)
      (best_right IsFoundSo IsNotSmaller IsLargerSo hows more one other (as_small other one (subst (λ b. IsAsSmall b one) is left))
      (fewer_so other one (subst (λ b. IsFewer b one) is less)) here there)

  -- The best in all turnings.
  pub smallest_found : (given wide high inner best : Option S)
      → IsBestIn IsFoundSo IsNotSmaller IsLargerSo (turning.AsGiven ∷ []) given
      → IsBestIn IsFoundSo IsNotSmaller IsLargerSo (turning.Wide ∷ []) wide
      → IsBestIn IsFoundSo IsNotSmaller IsLargerSo (turning.High ∷ []) high
      → (inner ≡ wide) ⊎ (inner ≡ high) → (inner ≡ wide) ⊎ IsFewer inner wide → IsAsSmall inner wide → IsAsSmall inner high
      → (best ≡ given) ⊎ (best ≡ inner) → (best ≡ given) ⊎ IsFewer best given → IsAsSmall best given → IsAsSmall best inner
      → IsBestIn IsFoundSo IsNotSmaller IsLargerSo (turnings true) best
  smallest_found given wide high inner best by_given by_wide by_high two first_two as_wide as_high all first_all as_given as_inner =
      smaller_best (turning.AsGiven ∷ []) (turning.Wide ∷ turning.High ∷ []) given inner best all first_all as_given as_inner by_given
      (smaller_best (turning.Wide ∷ []) (turning.High ∷ []) wide high inner two first_two as_wide as_high by_wide by_high)

  pub found_one : (turn : Bool) (found : Option S) → o.turn ≡ turn
      → IsBestIn IsFoundSo IsNotSmaller IsLargerSo (turnings turn) found
      → IfSome found (λ a. InFirst o sprites
      (λ lying. IsFirstFound ways o.allowed (spacing_of o) lying (sides_of (size a)) (order a) (places a))
      (λ lying. IsSmaller ways o.allowed (spacing_of o) lying (sides_of (size a))))
  found_one turn None is best = tt
  found_one turn (Some a) is best =
      (best.one.0, best.one.1, subst (λ b. StandsAfter (λ how. IsLargerSo how (Some a)) (turnings b) best.one.0) (sym is) best.one.2)

  pub found_each : (turn : Bool) (found : Option S) → o.turn ≡ turn
      → IsBestIn IsFoundSo IsNotSmaller IsLargerSo (turnings turn) found
      → IfSome found (λ a. InEach o sprites (λ lying. IsNoLarger ways o.allowed (spacing_of o) lying (sides_of (size a))))
  found_each turn None is best = tt
  found_each turn (Some a) is best = subst (λ b. All (λ how. IsNotSmaller how (Some a)) (turnings b)) (sym is) best.each

  pub found_none : (turn : Bool) (found : Option S) → o.turn ≡ turn
      → IsBestIn IsFoundSo IsNotSmaller IsLargerSo (turnings turn) found
      → IfNone found (InEach o sprites (λ lying. NoneIsFound ways o.allowed (spacing_of o) lying))
  found_none turn None is best = subst (λ b. All (λ how. IsNotSmaller how None) (turnings b)) (sym is) best.each
  found_none turn (Some a) is best = tt

-- The same of sheets that were found or not.
pub taken_found : {S : Type 0} (G : S → Type 0) (given wide high inner best : Option S)
    → (inner ≡ wide) ⊎ (inner ≡ high)
    → (best ≡ given) ⊎ (best ≡ inner) → IfSome given G → IfSome wide G → IfSome high G → IfSome best G
taken_found G given wide high inner best two (inl is) a b c = subst (λ f. IfSome f G) (sym is) a
taken_found G given wide high inner best (inl two) (inr is) a b c = subst (λ f. IfSome f G) (sym is) (subst (λ f. IfSome f G) (sym two) b)
taken_found G given wide high inner best (inr two) (inr is) a b c = subst (λ f. IfSome f G) (sym is) (subst (λ f. IfSome f G) (sym two) c)

-- What holds as the sprites are laid once, where it doesn't before.
pub first_in_one : (o : SheetOptions) (sprites : List Size) (now before : List Size → Type 0) → InFirst o sprites now before
    → InOne o sprites now
first_in_one o sprites now before is =
    (is.0, stands_in (IsLaidSo o sprites before) (turnings o.turn) is.0 is.2, is.1.0, is.1.1, is.1.2)
