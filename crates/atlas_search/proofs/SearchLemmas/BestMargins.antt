-- The search for the box that a request takes, and that what it finds is the pick.
use Rattle.std.proofs.Common.{◌≡◌, ℕ, ◌-◌, ◌<◌, ◌≤◌, ◌↔◌, ◌⊎◌, min, Bool, List, [], ◌∷◌, ◌++◌, ℤ, pos, ◌-ℤ◌, ◌≤ℤ◌, ◌<ℤ◌, refl, ◌∙◌, subst}
use Rattle.std.proofs.Common.{inl, inr, arith}
use Rattle.std.specs.List.{Contains}
use Rattle.std.proofs.lemmas.Int.{ints}
use Rattle.std.proofs.lemmas.List.Elements.{Contains-push, Contains-push_cases, Contains-append_left}
use Rattle.atlas_model.specs.Boxes.{Sides, Box, box_sides, Fits}
use Rattle.atlas_model.specs.Choice.{least_margin, HasEqualSide, ComesFirst}
use Rattle.atlas_model.specs.Pixels.{natural, rectangle_of}
use Rattle.atlas_model.proofs.ChoiceLemmas.PickExistence.{first-then}
use Rattle.atlas_search.specs.Requests.{IsBefore, IsBetterMargin, PrecedesBox}
use Rattle.atlas_search.specs.Searches.{Shown, IsAsGood, IsBestShown, FitsNone}

-- What a side leaves of a stretch.

pub spare_fits : (from to side : ℤ) → pos 0 ≤ℤ from → from <ℤ to → pos 0 <ℤ side
    → (pos 0 ≤ℤ ((to -ℤ from) -ℤ side)) ↔ (natural side ≤ natural to - natural from)
spare_fits (pos a) (pos b) (pos s) p q r = (λ h. omega (arith, ints), λ h. omega (arith, ints))
spare_fits from to side p q r = absurd (omega (arith, ints))

pub spare_value : (from to side : ℤ) → pos 0 ≤ℤ from → from <ℤ to → pos 0 <ℤ side → pos 0 ≤ℤ ((to -ℤ from) -ℤ side)
    → (to -ℤ from) -ℤ side ≡ pos (natural to - natural from - natural side)
spare_value (pos a) (pos b) (pos s) p q r h = omega (arith, ints)
spare_value from to side p q r h = absurd (omega (arith, ints))

pub stretch_given : (from to : ℤ) (a b : ℕ) → from ≡ pos a → to ≡ pos b → a < b → (pos 0 ≤ℤ from) × (from <ℤ to)
stretch_given from to a b p q r = (omega (arith, ints), omega (arith, ints))

pub positive_given : (side : ℤ) → 0 < natural side → pos 0 <ℤ side
positive_given (pos n) h = omega (arith, ints)
positive_given side h = absurd (omega arith)

-- The smaller of the two differences.

pub margin_fits : {A B : Type 0} (width height : ℤ) → ((pos 0 ≤ℤ width) ↔ A) → ((pos 0 ≤ℤ height) ↔ B) → width ≤ℤ height
    → (pos 0 ≤ℤ width) ↔ (A × B)
margin_fits width height a b h = (λ p. (a.0 p, b.0 (omega (arith, ints))), λ q. a.1 q.0)

pub margin_fits_height : {A B : Type 0} (width height : ℤ) → ((pos 0 ≤ℤ width) ↔ A) → ((pos 0 ≤ℤ height) ↔ B)
    → height ≤ℤ width → (pos 0 ≤ℤ height) ↔ (A × B)
margin_fits_height width height a b h = (λ p. (a.0 (omega (arith, ints)), b.0 p), λ q. b.1 q.1)

pub margin_is : (width height : ℤ) (m n : ℕ) → (pos 0 ≤ℤ width → width ≡ pos m) → (pos 0 ≤ℤ height → height ≡ pos n)
    → width ≤ℤ height → pos 0 ≤ℤ width → width ≡ pos (min m n)
margin_is width height m n a b h p = grind arith

pub margin_is_height : (width height : ℤ) (m n : ℕ) → (pos 0 ≤ℤ width → width ≡ pos m)
    → (pos 0 ≤ℤ height → height ≡ pos n) → height ≤ℤ width → pos 0 ≤ℤ height → height ≡ pos (min m n)
margin_is_height width height m n a b h p = grind arith

-- The order of the boxes.

pub margin-equal_side : (r : Sides) (b : Box) → Fits r (box_sides b) → HasEqualSide r b → least_margin r b ≡ 0
margin-equal_side r b fits h = grind arith

pub equal_side-margin : (r : Sides) (b : Box) → Fits r (box_sides b) → least_margin r b ≡ 0 → HasEqualSide r b
equal_side-margin r b fits e = grind arith

as_good-trans : (is_large : Bool) (r : Sides) (a b c : Box) → IsAsGood is_large r a b → IsAsGood is_large r b c
    → IsAsGood is_large r a c
as_good-trans is_large r a b c p q = grind arith

pub equal_side_cases : (r : Sides) (b : Box) → HasEqualSide r b ⊎ (HasEqualSide r b → ⊥)
equal_side_cases r b = grind arith

as_good-same : (is_large : Bool) (r : Sides) (a b : Box) → (HasEqualSide r b → HasEqualSide r a)
    → least_margin r a ≡ least_margin r b → IsAsGood is_large r a b
as_good-same is_large r a b h e = grind (arith, equal_side_cases)

comes_first-before : (b c : Box) → IsBefore (rectangle_of b).min (rectangle_of c).min → ComesFirst b c
comes_first-before b c p = grind (arith, ints)

comes_first-not_before : (b c : Box) → (IsBefore (rectangle_of b).min (rectangle_of c).min → ⊥) → ComesFirst c b
comes_first-not_before b c h = grind arith

better_margin-good : (is_large : Bool) (r : Sides) (b c : Box) → Fits r (box_sides b) → Fits r (box_sides c)
    → IsBetterMargin is_large (pos (least_margin r b)) (pos (least_margin r c))
    → IsAsGood is_large r b c × (IsAsGood is_large r c b → ⊥)
better_margin-good is_large r b c fb fc h = grind (arith, equal_side-margin, margin-equal_side)

equal_margin-good : (is_large : Bool) (r : Sides) (b c : Box) → Fits r (box_sides b) → Fits r (box_sides c)
    → least_margin r b ≡ least_margin r c → IsAsGood is_large r b c
equal_margin-good is_large r b c fb fc e = as_good-same is_large r b c (λ s. equal_side-margin r b fb (e ∙ margin-equal_side r c fc s)) e

worse_margin-good : (is_large : Bool) (r : Sides) (b c : Box) → Fits r (box_sides b) → Fits r (box_sides c)
    → (IsBetterMargin is_large (pos (least_margin r b)) (pos (least_margin r c)) → ⊥) → IsAsGood is_large r c b
worse_margin-good is_large r b c fb fc h = grind (arith, equal_side-margin, margin-equal_side)

-- b is kept rather than c.
pub precedes-good : (is_large : Bool) (r : Sides) (b c : Box) → Fits r (box_sides b) → Fits r (box_sides c)
    → PrecedesBox is_large (pos (least_margin r b)) (pos (least_margin r c)) (rectangle_of b).min (rectangle_of c).min
    → IsAsGood is_large r b c × (IsAsGood is_large r c b → ComesFirst b c)
precedes-good is_large r b c fb fc (inl h) = grind (arith, better_margin-good)
precedes-good is_large r b c fb fc (inr h) = grind (arith, equal_margin-good, comes_first-before)

-- c is kept.
pub not_precedes-good : (is_large : Bool) (r : Sides) (b c : Box) → Fits r (box_sides b) → Fits r (box_sides c)
    → (PrecedesBox is_large (pos (least_margin r b)) (pos (least_margin r c)) (rectangle_of b).min (rectangle_of c).min → ⊥)
    → IsAsGood is_large r c b × (IsAsGood is_large r b c → ComesFirst c b)
not_precedes-good is_large r b c fb fc h =
    grind (arith, worse_margin-good, comes_first-not_before, margin-equal_side, equal_side-margin)

-- One box more is shown.

push-each : {P : Shown → Type 0} (shown : List Shown) (c : Shown) → ((d : Shown) → Contains shown d → P d) → P c
    → (d : Shown) → Contains (shown ++ c ∷ []) d → P d
push-each {P} shown c each last d has = elim (Contains-push_cases shown c d has)
    [ inl earlier ↦ each d earlier | inr same ↦ subst P same last ]

pub none_more : (r : Sides) (shown : List Shown) (c : Shown) → FitsNone r shown → (Fits r (box_sides c.box) → ⊥)
    → FitsNone r (shown ++ c ∷ [])
none_more r shown c none misfit d has fits = grind (arith, Contains-push_cases shown c d has)

pub best_kept : (is_large : Bool) (r : Sides) (shown : List Shown) (f c : Shown) → IsBestShown is_large r shown f
    → (Fits r (box_sides c.box) → IsAsGood is_large r f.box c.box × (IsAsGood is_large r c.box f.box → ComesFirst f.box c.box))
    → IsBestShown is_large r (shown ++ c ∷ []) f
best_kept is_large r shown f c best worse = record {
  is_shown = Contains-append_left shown (c ∷ []) f best.is_shown;
  fits = best.fits;
  best = push-each shown c best.best (λ fits. (worse fits).0);
  first = push-each shown c best.first (λ fits. (worse fits).1);
}

pub best_replaced : (is_large : Bool) (r : Sides) (shown : List Shown) (f c : Shown) → IsBestShown is_large r shown f
    → Fits r (box_sides c.box)
    → IsAsGood is_large r c.box f.box × (IsAsGood is_large r f.box c.box → ComesFirst c.box f.box)
    → IsBestShown is_large r (shown ++ c ∷ []) c
best_replaced is_large r shown f c best fits better = record {
  is_shown = Contains-push shown c;
  fits = fits;
  best =
      push-each shown c (λ d earlier fits'.
      as_good-trans is_large r c.box f.box d.box better.0 (best.best d earlier fits'))
      (λ _. as_good-same is_large r c.box c.box (λ k. k) refl);
  first =
      push-each shown c (λ d earlier fits' good.
      first-then c.box f.box d.box
      (better.1 (as_good-trans is_large r f.box d.box c.box (best.best d earlier fits') good))
      (best.first d earlier fits' (as_good-trans is_large r d.box c.box f.box good better.0))) (λ _ _. inr (refl, omega arith));
}

pub best_only : (is_large : Bool) (r : Sides) (shown : List Shown) (c : Shown) → FitsNone r shown
    → Fits r (box_sides c.box)
    → IsBestShown is_large r (shown ++ c ∷ []) c
best_only is_large r shown c none fits = record {
  is_shown = Contains-push shown c;
  fits = fits;
  best = push-each shown c (λ d earlier fits'. absurd (none d earlier fits')) (λ _. as_good-same is_large r c.box c.box (λ k. k) refl);
  first = push-each shown c (λ d earlier fits'. absurd (none d earlier fits')) (λ _ _. inr (refl, omega arith));
}
