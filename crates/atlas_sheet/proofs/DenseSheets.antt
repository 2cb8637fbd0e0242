-- Sheets with no guillotine cuts, beside the best one so far.
use Rattle.std.proofs.Common.{◌≡◌, ◌<◌, List, length, map, All, Option, Some, None, IfNone, IfSome, MatchOption, false, ap, inl, inr, sym}
use Rattle.std.proofs.Common.{subst, ◌∙◌, ℕ, arith}
use Rattle.std.specs.List.{AllZip}
use Rattle.std.proofs.lemmas.List.{length-map}
use Rattle.std.proofs.lemmas.List.Elements.{All-weaker}
use Rattle.std.proofs.lemmas.Slice.Zip.{AllZip-long}
use Rattle.guillotiere.specs.declared.Size.{Size}
use Rattle.guillotiere.specs.Boxes.{AreDisjoint, IsWithin, Sides, box_sides}
use Rattle.guillotiere.specs.Pixels.{box_of, sides_of}
use Rattle.guillotiere.specs.declared.Rectangle.{Rectangle}
use Rattle.atlas_sheet.specs.declared.options.SheetOptions.{SheetOptions}
use Rattle.atlas_sheet.specs.declared.placed.Placed.{Placed}
use Rattle.atlas_sheet.specs.declared.sheets.Sheet.{Sheet}
use Rattle.atlas_sheet.specs.declared.ways.TheConstants.{WAYS}
use Rattle.atlas_sheet.specs.Allowances.{IsAllowed, pixels}
use Rattle.atlas_sheet.specs.Dense.{AreAllPlaced, ArePaddedApart, FindAllTopmost, IsByHeight, IsNoLargerThanWays, IsSmallerThanWays}
use Rattle.atlas_sheet.specs.Dense.{IsUpright, IsWholeSheet, NoWayFinds, empty_grid}
use Rattle.atlas_sheet.specs.Turnings.{AreLaid, InEach, InFirst, InOne, turnings}
use Rattle.atlas_sheet.specs.Lying.{IsPlacedFor, IsShown, areas_of}
use Rattle.atlas_sheet.specs.Orders.{IsOrder}
use Rattle.atlas_sheet.specs.Settings.{spacing_of}
use Rattle.atlas_sheet.specs.Sheets.{used_area, with_places}
use Rattle.atlas_sheet.specs.Packings.{IsFirstFound, IsNoLarger, IsSmaller, NoneIsFound}
use Rattle.atlas_sheet.proofs.NumberedSprites.{numbers_order, shown_order}
use Rattle.atlas_sheet.proofs.ShownPlaces.{counts, inside_each, upright_each}

each_weaker : (o : SheetOptions) (sprites : List Size) (P Q : List Size → Type 0) → ((l : List Size) → P l → Q l)
    → InEach o sprites P
    → InEach o sprites Q
each_weaker o sprites P Q weaker each =
    All-weaker (λ how. (lying : List Size) × AreLaid o how sprites lying × P lying)
    (λ how. (lying : List Size) × AreLaid o how sprites lying × Q lying)
    (λ how is. (is.0, is.1, weaker is.0 is.2)) (turnings o.turn) each

smaller_yet : (o : SheetOptions) (s t : Sides) (l : List Size) → pixels s < pixels t → IsNoLarger WAYS o.allowed (spacing_of o) l t
    → IsSmaller WAYS o.allowed (spacing_of o) l s
smaller_yet o s t l less (inl none) = inl none
smaller_yet o s t l less (inr (first, packed, least, le)) = inr (first, packed, least, omega (arith, less, le))

still_no_larger : (o : SheetOptions) (s : Sides) (l : List Size) → IsSmaller WAYS o.allowed (spacing_of o) l s
    → IsNoLarger WAYS o.allowed (spacing_of o) l s
still_no_larger o s l (inl none) = inl none
still_no_larger o s l (inr (first, packed, least, less)) = inr (first, packed, least, omega (arith, less))

-- A sheet that has fewer pixels than the best one, if there is one.
pub may_try : {T : Type 0} (best : Option T) (size_of : T → Sides) (o : SheetOptions) (sprites : List Size) (s : Sides)
    → IfSome best (λ b. IsNoLargerThanWays o sprites (size_of b)) → IfNone best (NoWayFinds o sprites)
    → IfSome best (λ b. pixels s < pixels (size_of b)) → IsSmallerThanWays o sprites s
may_try None size_of o sprites s larger none few =
    each_weaker o sprites (λ l. NoneIsFound WAYS o.allowed (spacing_of o) l) (λ l. IsSmaller WAYS o.allowed (spacing_of o) l s)
    (λ l no. inl no) none
may_try (Some b) size_of o sprites s larger none few =
    each_weaker o sprites (λ l. IsNoLarger WAYS o.allowed (spacing_of o) l (size_of b))
    (λ l. IsSmaller WAYS o.allowed (spacing_of o) l s)
    (λ l is. smaller_yet o s (size_of b) l few is) larger

no_larger_yet : (o : SheetOptions) (sprites : List Size) (s : Sides) → IsSmallerThanWays o sprites s → IsNoLargerThanWays o sprites s
no_larger_yet o sprites s smaller =
    each_weaker o sprites (λ l. IsSmaller WAYS o.allowed (spacing_of o) l s) (λ l. IsNoLarger WAYS o.allowed (spacing_of o) l s)
    (still_no_larger o s) smaller

-- What holds of what was found and of the best one holds of the newer.
pub newer_some : {T : Type 0} (P : T → Type 0) (found best next : Option T)
    → MatchOption found (next ≡ best) (λ t. next ≡ Some t)
    → IfSome found P → IfSome best P → IfSome next P
newer_some P None best next is p q = subst (λ o. IfSome o P) (sym is) q
newer_some P (Some t) best next is p q = subst (λ o. IfSome o P) (sym is) p

pub newer_none : {T : Type 0} (P : Type 0) (found best next : Option T)
    → MatchOption found (next ≡ best) (λ t. next ≡ Some t)
    → IfNone best P → IfNone next P
newer_none P None best next is q = subst (λ o. IfNone o P) (sym is) q
newer_none P (Some t) best next is q = subst (λ o. IfNone o P) (sym is) tt

pub whole_sheet : {A : Type 0} (o : SheetOptions) (sprites : List Size) (sheet : Sheet A) (opts : List (Option Placed))
    (now areas : List (Option Rectangle)) (order : List (ℕ × Size)) → map Some sheet.places.items ≡ opts → areas ≡ areas_of opts
    → now ≡ areas
    → sheet.used_area ≡ used_area now → sheet.order.items ≡ map (λ s. s.0) order → IsByHeight sprites order
    → IsAllowed o.allowed (sides_of sheet.size)
    → AreAllPlaced o (sides_of sheet.size) sprites opts → ArePaddedApart (spacing_of o) opts → All IsUpright opts
    → FindAllTopmost (spacing_of o) (empty_grid (spacing_of o) (sides_of sheet.size)) (with_places (areas_of opts) order)
    → IsSmallerThanWays o sprites (sides_of sheet.size)
    → IsWholeSheet o sprites sheet
whole_sheet o sprites sheet opts now areas order somes found same area copied by allowed each apart upright topmost smaller = record {
  allowed = allowed;
  each = subst (AreAllPlaced o (sides_of sheet.size) sprites) (sym somes) each;
  apart = subst (ArePaddedApart (spacing_of o)) (sym somes) apart;
  area = area ∙ ap used_area (same ∙ found) ∙ ap (λ ps. used_area (areas_of ps)) (sym somes);
  numbers = subst (IsOrder (length sprites)) (sym copied) (numbers_order sprites order by.permuted);
  larger = no_larger_yet o sprites (sides_of sheet.size) smaller;
  way = inr (record {
    smaller = smaller;
    numbered = order;
    by = by;
    numbers = copied;
    found = subst (λ ps. FindAllTopmost (spacing_of o) (empty_grid (spacing_of o) (sides_of sheet.size)) (with_places (areas_of ps) order))
        (sym somes) topmost;
    upright = subst (All IsUpright) (sym somes) upright;
  });
}

-- A sheet as `pack` gives it.
pub whole_packed : {A : Type 0} (o : SheetOptions) (sprites : List Size) (found : Option (Sheet A))
    → IfSome found (λ t. IsAllowed o.allowed (sides_of t.size))
    → IfSome found (λ t. IsShown (sides_of t.size) (spacing_of o) o.turn sprites t.order.items (map Some t.places.items))
    → IfSome found (λ t. t.used_area ≡ used_area (areas_of (map Some t.places.items)))
    → IfSome found (λ t. IsNoLargerThanWays o sprites (sides_of t.size))
    → (o.effort ≡ 0 → IfSome found (λ t. InOne o sprites (λ lying.
    IsFirstFound WAYS o.allowed (spacing_of o) lying (sides_of t.size) t.order.items (areas_of (map Some t.places.items)))))
    → (o.effort ≡ 0 → IfSome found (λ t. InFirst o sprites
    (λ lying. IsFirstFound WAYS o.allowed (spacing_of o) lying (sides_of t.size) t.order.items (areas_of (map Some t.places.items)))
    (λ lying. IsSmaller WAYS o.allowed (spacing_of o) lying (sides_of t.size))))
    → IfSome found (IsWholeSheet o sprites)
whole_packed o sprites None allowed shown area larger first earliest = tt
whole_packed o sprites (Some t) allowed shown area larger first earliest = record {
  allowed = allowed;
  each = shown.each;
  apart = shown.arranged.good.apart;
  area = area;
  numbers = shown_order (sides_of t.size) (spacing_of o) o.turn sprites t.order.items (map Some t.places.items) shown;
  larger = larger;
  way = inl (record { shown = shown; first = first; earliest = earliest });
}

module _ {A : Type 0} {o : SheetOptions} {sprites : List Size} {sheet : Sheet A} (whole : IsWholeSheet o sprites sheet) where
  pub whole_count : length sheet.places.items ≡ length sprites
  whole_count =
      sym (length-map sheet.places.items Some)
      ∙ AllZip-long (λ sprite p. IfSome p (IsPlacedFor (sides_of sheet.size) (spacing_of o) o.turn sprite)) sprites
      (map Some sheet.places.items) whole.each

  pub whole_inside : All (λ p. IsWithin (sides_of sheet.size) (box_of p.area)) sheet.places.items
  whole_inside = inside_each (sides_of sheet.size) (spacing_of o) o.turn sprites sheet.places.items whole.each

  pub whole_apart : AreDisjoint (map (λ p. box_of p.area) sheet.places.items)
  whole_apart x y =
      let few = whole.apart x y in
      omega (arith, few, counts (spacing_of o) x y sheet.places.items)

  pub whole_upright : o.turn ≡ false
      → AllZip (λ sprite p. box_sides (box_of p.area) ≡ sides_of sprite) sprites sheet.places.items
  whole_upright off = upright_each (sides_of sheet.size) (spacing_of o) o.turn sprites sheet.places.items off whole.each
