-- Sprites of which one has no place have more pixels together than the places.
use Rattle.std.proofs.Common.{◌≡◌, ◌+◌, ◌*◌, ◌<◌, ◌≤◌, ◌⊎◌, ℕ, zero, suc, min, Bool, inl, inr, List, [], ◌∷◌, length, take, All, Option}
use Rattle.std.proofs.Common.{Some, None, IfSome, IsSome, refl, ap, ◌∙◌, arith}
use Rattle.std.specs.List.{AllZip}
use Rattle.std.proofs.Math.Nat.{mul_comm}
use Rattle.std.proofs.lemmas.List.Elements.{All-nil, All-cons, All-head, All-tail}
use Rattle.std.proofs.lemmas.List.Sums.{sum_by-cons}
use Rattle.guillotiere.specs.declared.Size.{Size}
use Rattle.guillotiere.specs.declared.Rectangle.{Rectangle}
use Rattle.guillotiere.specs.Boxes.{Sides}
use Rattle.guillotiere.specs.Pixels.{sides_of}
use Rattle.atlas_sheet.specs.declared.arrangement.Arrangement.{Arrangement}
use Rattle.atlas_sheet.specs.declared.options.SheetOptions.{SheetOptions}
use Rattle.atlas_sheet.specs.declared.options.Spacing.{Spacing}
use Rattle.atlas_sheet.specs.declared.ways.TheConstants.{WAYS}
use Rattle.atlas_sheet.specs.Allowances.{IsGreatest, pixels}
use Rattle.atlas_sheet.specs.Fillings.{IsNoBetter, ways_tried}
use Rattle.atlas_sheet.specs.Grouping.{AreTooMany, pixels_together}
use Rattle.atlas_sheet.specs.Lying.{IsArranged, MayLie}
use Rattle.atlas_sheet.specs.Settings.{CanPack, spacing_of}
use Rattle.atlas_sheet.specs.Sheets.{IsPackable, IsPlaceFor, place_area, used_area}
use Rattle.atlas_sheet.specs.Turnings.{AreLaid, InEach, turnings}
use Rattle.std.proofs.lemmas.List.Elements.{All-weaker}

-- A turned sprite has as many pixels.
lying_pixels : (turn : Bool) (s l : Size) → MayLie turn s l → pixels (sides_of l) ≡ pixels (sides_of s)
lying_pixels turn s l (inl is) = ap (λ t. pixels (sides_of t)) is
lying_pixels turn s l (inr is) =
    ap (λ t. pixels (sides_of t)) (is.1) ∙ mul_comm (sides_of s).height (sides_of s).width

module _ (sheet : Sides) (spacing : Spacing) (turn : Bool) where
  here_pixels : (s l : Size) (q : Option Rectangle) → MayLie turn s l → IfSome q (IsPlaceFor sheet spacing l)
      → place_area q ≤ pixels (sides_of s)
  here_pixels s l None may place = omega arith
  here_pixels s l (Some r) may place =
      let a : place_area (Some r) ≡ pixels (sides_of l) = ap pixels place.sides in
      let b = lying_pixels turn s l may in
      omega (arith, a, b)

  none_pixels : (s l : Size) (q : Option Rectangle) → IsPackable spacing s → MayLie turn s l → IfSome q (IsPlaceFor sheet spacing l)
      → (place_area q < pixels (sides_of s)) ⊎ IsSome q
  none_pixels s l None packs may place = inl (some_product (sides_of s).width (sides_of s).height packs.positive.0 packs.positive.1)
    where
      some_product : (a b : ℕ) → 0 < a → 0 < b → 0 < a * b
      some_product (suc a) (suc b) c d = omega arith
      some_product zero b c d = absurd (omega (arith, c))
      some_product (suc a) zero c d = absurd (omega (arith, d))
  none_pixels s l (Some r) packs may place = inr refl

  abbrev pub Lies : Size → Option Rectangle → Type 0
  Lies l q = IfSome q (IsPlaceFor sheet spacing l)

  no_more : (sprites lying : List Size) (places : List (Option Rectangle)) → AllZip (MayLie turn) sprites lying
      → AllZip Lies lying places
      → used_area places ≤ pixels_together sprites
  no_more [] [] [] may each = omega arith
  no_more [] [] (q ∷ places) may each = absurd each
  no_more [] (l ∷ lying) places may each = absurd may
  no_more (s ∷ sprites) [] places may each = absurd may
  no_more (s ∷ sprites) (l ∷ lying) [] may each = absurd each
  no_more (s ∷ sprites) (l ∷ lying) (q ∷ places) may each =
      let a : used_area (q ∷ places) ≡ place_area q + used_area places = sum_by-cons place_area q places in
      let b : pixels_together (s ∷ sprites) ≡ pixels (sides_of s) + pixels_together sprites =
      sum_by-cons (λ t. pixels (sides_of t)) s sprites in
      let c = here_pixels s l q may.0 each.0 in
      let d = no_more sprites lying places may.1 each.1 in
      omega (arith, a, b, c, d)

  pub fewer_pixels : (sprites lying : List Size) (places : List (Option Rectangle)) → All (IsPackable spacing) sprites
      → AllZip (MayLie turn) sprites lying → AllZip Lies lying places
      → (used_area places < pixels_together sprites) ⊎ All IsSome places
  fewer_pixels [] [] [] packs may each = inr (All-nil IsSome)
  fewer_pixels [] [] (q ∷ places) packs may each = absurd each
  fewer_pixels [] (l ∷ lying) places packs may each = absurd may
  fewer_pixels (s ∷ sprites) [] places packs may each = absurd may
  fewer_pixels (s ∷ sprites) (l ∷ lying) [] packs may each = absurd each
  fewer_pixels (s ∷ sprites) (l ∷ lying) (q ∷ places) packs may each =
      by_parts (none_pixels s l q (All-head (IsPackable spacing) s sprites packs) may.0 each.0)
      (fewer_pixels sprites lying places (All-tail (IsPackable spacing) s sprites packs) may.1 each.1)
    where
      a : used_area (q ∷ places) ≡ place_area q + used_area places
      a = sum_by-cons place_area q places

      b : pixels_together (s ∷ sprites) ≡ pixels (sides_of s) + pixels_together sprites
      b = sum_by-cons (λ t. pixels (sides_of t)) s sprites

      by_parts : (place_area q < pixels (sides_of s)) ⊎ IsSome q
          → (used_area places < pixels_together sprites) ⊎ All IsSome places
          → (used_area (q ∷ places) < pixels_together (s ∷ sprites)) ⊎ All IsSome (q ∷ places)
      by_parts (inl less) rest = let d = no_more sprites lying places may.1 each.1 in inl (omega (arith, a, b, less, d))
      by_parts (inr some) (inl less) = let c = here_pixels s l q may.0 each.0 in inl (omega (arith, a, b, c, less))
      by_parts (inr some) (inr all) = inr (All-cons IsSome q places some all)

-- What doesn't take all of them leaves one.
pub whole_or_many : {A : Type 0} (o : SheetOptions) (sprites : List Size) (a : Arrangement A) → CanPack o sprites
    → IsArranged o sprites a → IsGreatest o.allowed (sides_of a.size)
    → InEach (record o { effort = 0 }) sprites (λ lying. All (IsNoBetter (sides_of a.size) (spacing_of o) lying (used_area a.places.items))
    (take (ways_tried (length sprites)) WAYS))
    → All IsSome a.places.items ⊎ AreTooMany o sprites
whole_or_many o sprites a can arranged greatest best =
    by_area (fewer_pixels (sides_of a.size) (spacing_of o) o.turn sprites a.lying.items a.places.items can.placing.packable arranged.lies
    arranged.good.each)
  where
    by_area : (used_area a.places.items < pixels_together sprites) ⊎ All IsSome a.places.items
        → All IsSome a.places.items ⊎ AreTooMany o sprites
    by_area (inr all) = inl all
    by_area (inl less) = inr (record {
      sheet = sides_of a.size;
      greatest = greatest;
      refused = inr (
        used_area a.places.items,
        less,
        All-weaker
            (λ how. (lying : List Size) × AreLaid (record o { effort = 0 }) how sprites lying
            × All (IsNoBetter (sides_of a.size) (spacing_of o) lying (used_area a.places.items)) (take (ways_tried (length sprites)) WAYS))
            (λ how. (lying : List Size) × AreLaid o how sprites lying
            × All (IsNoBetter (sides_of a.size) (spacing_of o) lying (used_area a.places.items)) (take (ways_tried (length sprites)) WAYS))
            (λ how l. (l.0, record { sheet = l.1.sheet; greatest = l.1.greatest; lie = l.1.lie }, l.2)) (turnings o.turn) best,
      );
    })

-- More pixels than the greatest sheet has.
pub too_many_pixels : (o : SheetOptions) (sprites : List Size) (sheet : Sides) → IsGreatest o.allowed sheet
    → pixels sheet < pixels_together sprites → AreTooMany o sprites
too_many_pixels o sprites sheet greatest more = record { sheet = sheet; greatest = greatest; refused = inl more }

pub min_less : (a b most : ℕ) → a < min b most → a < b
min_less a b most less = omega (arith, less)

pub other_of : {P Q : Type 0} → P ⊎ Q → (P → ⊥) → Q
other_of (inl p) not = absurd (not p)
other_of (inr q) not = q
