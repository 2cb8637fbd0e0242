-- What places on several sheets keep to, and sprites of which none has room.
use Rattle.std.proofs.Common.{◌≡◌, ◌≢◌, ◌==◌, ◌+◌, ◌<◌, ◌≤◌, ◌⊎◌, ℕ, Bool, true, false, cond, nat_le, inl, inr, List, [], ◌∷◌, length, map}
use Rattle.std.proofs.Common.{All, Option, Some, None, IfSome, IsNone, IsSome, refl, ap, sym, subst, ◌∙◌, arith}
use Rattle.std.specs.List.{AllZip, count_by}
use Rattle.std.proofs.lemmas.Bool.{eq-eqb, eqb-true, false≢true, le-leb, leb-true, ne_eqb}
use Rattle.std.proofs.lemmas.List.{length-map}
use Rattle.std.proofs.lemmas.List.Elements.{All-nil, All-cons, All-head, All-tail}
use Rattle.guillotiere.specs.declared.Size.{Size}
use Rattle.guillotiere.specs.Boxes.{Box, Sides, covers}
use Rattle.guillotiere.specs.Pixels.{box_of}
use Rattle.guillotiere.proofs.TreeLemmas.TreeBasics.{one_if}
use Rattle.guillotiere.proofs.ListLemmas.ListCounts.{count_by-cons}
use Rattle.atlas_sheet.specs.declared.options.SheetOptions.{SheetOptions}
use Rattle.atlas_sheet.specs.declared.options.Spacing.{Spacing}
use Rattle.atlas_sheet.specs.declared.paging.OnPage.{OnPage}
use Rattle.atlas_sheet.specs.declared.placed.Placed.{Placed}
use Rattle.atlas_sheet.specs.declared.ways.Way.{Way}
use Rattle.atlas_sheet.specs.Allowances.{IsGreatest}
use Rattle.atlas_sheet.specs.Dense.{AreAllPlaced, ArePaddedApart}
use Rattle.atlas_sheet.specs.Lying.{IsPlacedFor, areas_of}
use Rattle.atlas_sheet.specs.Paging.{AreGreatest, ArePages, ArePagesBy, AreUsed, IsFullSheet, IsOnPage, IsPage, NoPlacesOverlap, TakesAll}
use Rattle.atlas_sheet.specs.Paging.{boxes_on, page_sides, place_on, places_on, sprites_from}
use Rattle.atlas_sheet.specs.Settings.{spacing_of}
use Rattle.atlas_sheet.specs.Sheets.{covers_place, padded}
use Rattle.atlas_sheet.proofs.AskedPlace.{covers_inside}

-- A pair that stands in two lists or not.
zip_later : {X Y : Type 0} (R : X → Y → Type 0) (b : Bool) (x : X) (xs : List X) (y : Y) (ys : List Y)
    → AllZip R (cond b (x ∷ xs) xs) (cond b (y ∷ ys) ys) → AllZip R xs ys
zip_later R true x xs y ys each = each.1
zip_later R false x xs y ys each = each

zip_here : {X Y : Type 0} (R : X → Y → Type 0) (b : Bool) (x : X) (xs : List X) (y : Y) (ys : List Y) → b ≡ true
    → AllZip R (cond b (x ∷ xs) xs) (cond b (y ∷ ys) ys) → R x y
zip_here R true x xs y ys on each = each.0
zip_here R false x xs y ys on each = absurd (false≢true on)

-- What each sheet shows is so of each place.
module _ (n : ℕ) (R : ℕ → Size → Option Placed → Type 0) (Q : Size → OnPage → Type 0)
    (one : (s : Size) (p : OnPage) → p.page < n → R p.page s (Some p.placed) → Q s p) where
  pub each_on : (sprites : List Size) (places : List OnPage) → length (map Some places) ≡ length sprites
      → All (λ p. IfSome p (λ q. q.page < n)) (map Some places)
      → ((k : ℕ) → k < n → AllZip (R k) (sprites_from k sprites (map Some places)) (places_on k (map Some places)))
      → AllZip Q sprites places
  each_on [] [] long below shown = tt
  each_on [] (p ∷ places) long below shown = absurd (omega (arith, long))
  each_on (s ∷ sprites) [] long below shown = absurd (omega (arith, long))
  each_on (s ∷ sprites) (p ∷ places) long below shown =
      let B : Option OnPage → Type 0 = λ p. IfSome p (λ q. q.page < n) in
      let known : p.page < n = All-head B (Some p) (map Some places) below in
      let here = zip_here (R p.page) (nat_le p.page p.page) s (sprites_from p.page sprites (map Some places)) (place_on p.page (Some p))
      (places_on p.page (map Some places)) (le-leb p.page p.page (omega arith)) (shown p.page known) in
      let at : place_on p.page (Some p) ≡ Some p.placed = ap (λ b. cond b (Some p.placed) None) (eq-eqb p.page p.page refl) in (
        one s p known (subst (R p.page s) at here),
        each_on sprites places (omega (arith, long)) (All-tail B (Some p) (map Some places) below)
            (λ k less. zip_later (R k) (nat_le k p.page) s (sprites_from k sprites (map Some places)) (place_on k (Some p))
            (places_on k (map Some places)) (shown k less)),
      )

pub below_all : (n : ℕ) (places : List OnPage) → All (λ p. IfSome p (λ q. q.page < n)) (map Some places)
    → All (λ q. q.page < n) places
below_all n [] below = All-nil (λ q. q.page < n)
below_all n (p ∷ places) below =
    let B : Option OnPage → Type 0 = λ p. IfSome p (λ q. q.page < n) in
    All-cons (λ q. q.page < n) p places (All-head B (Some p) (map Some places) below)
    (below_all n places (All-tail B (Some p) (map Some places) below))

module _ (spacing : Spacing) (x y : ℕ) where
  one_on : (b c : Bool) → (b ≡ true → c ≡ true) → (p : Placed) (boxes : List Box) (placed : List (Option Placed))
      → count_by (covers x y) boxes ≤ count_by (covers_place spacing x y) (areas_of placed)
      → count_by (covers x y) (cond b (box_of p.area ∷ boxes) boxes) ≤ count_by (covers_place spacing x y)
      (areas_of (cond c (cond b (Some p) None ∷ placed) placed))
  one_on true true on p boxes placed few =
      let a : count_by (covers x y) (box_of p.area ∷ boxes) ≡ one_if (covers x y (box_of p.area)) + count_by (covers x y) boxes =
      count_by-cons (covers x y) (box_of p.area) boxes in
      let b : count_by (covers_place spacing x y) (areas_of (Some p ∷ placed))
      ≡ one_if (covers x y (padded spacing.padding p.area)) + count_by (covers_place spacing x y) (areas_of placed) =
      count_by-cons (covers_place spacing x y) (Some p.area) (areas_of placed) in
      let c : one_if (covers x y (box_of p.area)) ≤ one_if (covers x y (padded spacing.padding p.area)) =
      covers_inside (box_of p.area) (padded spacing.padding p.area) x y (omega arith, omega arith, omega arith, omega arith) in
      omega (arith, a, b, c, few)
  one_on true false on p boxes placed few = absurd (false≢true (on refl))
  one_on false true on p boxes placed few =
      let a : count_by (covers_place spacing x y) (None ∷ areas_of placed) ≡ 0 + count_by (covers_place spacing x y) (areas_of placed) =
      count_by-cons (covers_place spacing x y) None (areas_of placed) in
      omega (arith, a, few)
  one_on false false on p boxes placed few = few

  pub counts_on : (k : ℕ) (places : List OnPage)
      → count_by (covers x y) (boxes_on k places) ≤ count_by (covers_place spacing x y) (areas_of (places_on k (map Some places)))
  counts_on k [] = omega arith
  counts_on k (p ∷ places) =
      one_on (p.page == k) (nat_le k p.page) (λ e. let same : p.page ≡ k = eqb-true p.page k e in le-leb k p.page (omega (arith, same)))
      p.placed
      (boxes_on k places) (places_on k (map Some places)) (counts_on k places)

-- Nothing lies on a sheet that no place names.
none_if : (b c : Bool) → b ≡ false → (p : Placed) (placed : List (Option Placed)) → All IsNone placed
    → All IsNone (cond c (cond b (Some p) None ∷ placed) placed)
none_if true c off p placed none = absurd (false≢true (sym off))
none_if false true off p placed none = All-cons IsNone None placed refl none
none_if false false off p placed none = none

none_on : (k : ℕ) (places : List OnPage) → All (λ p. p.page ≢ k) places → All IsNone (places_on k (map Some places))
none_on k [] other = All-nil IsNone
none_on k (p ∷ places) other =
    none_if (p.page == k) (nat_le k p.page) (ne_eqb p.page k (All-head (λ p. p.page ≢ k) p places other)) p.placed
    (places_on k (map Some places))
    (none_on k places (All-tail (λ p. p.page ≢ k) p places other))

-- Where all from a sheet on lie on it, none lies on the next.
whole_if : (b c d e : Bool) → (d ≡ true → (b ≡ true) × (c ≡ false)) → (p : Placed) (here next : List (Option Placed))
    → (All IsSome here → All IsNone next) → All IsSome (cond b (cond c (Some p) None ∷ here) here)
    → All IsNone (cond d (cond e (Some p) None ∷ next) next)
whole_if true c false e on p here next later all = later (All-tail IsSome (cond c (Some p) None) here all)
whole_if false c false e on p here next later all = later all
whole_if false c true e on p here next later all = absurd (false≢true (on refl).0)
whole_if true true true e on p here next later all = absurd (false≢true (sym (on refl).1))
whole_if true false true e on p here next later all = absurd (false≢true (All-head IsSome None here all))

whole_last : (k : ℕ) (places : List OnPage) → All IsSome (places_on k (map Some places))
    → All IsNone (places_on (k + 1) (map Some places))
whole_last k [] all = All-nil IsNone
whole_last k (p ∷ places) all =
    whole_if (nat_le k p.page) (p.page == k) (nat_le (k + 1) p.page) (p.page == k + 1)
    (λ e. let past : k + 1 ≤ p.page = leb-true (k + 1) p.page e in
    (le-leb k p.page (omega (arith, past)), ne_eqb p.page k (λ f. let same : p.page ≡ k = f in absurd (omega (arith, past)))))
    p.placed (places_on k (map Some places)) (places_on (k + 1) (map Some places)) (whole_last k places) all

-- What is so of a sheet and of what the sprites have there.
pub record IsGood (o : SheetOptions) (sprites : List Size) (sheet : Sides) (placed : List (Option Placed)) : Type 0 where
  pub each : AreAllPlaced o sheet sprites placed
  pub apart : ArePaddedApart (spacing_of o) placed
  pub used : All IsNone placed → ⊥

pub page_good : (ways : List Way) (o : SheetOptions) (sprites : List Size) (sheet : Sides)
    (placed : List (Option Placed))
    → IsPage ways o sprites sheet placed → IsGood o sprites sheet placed
page_good ways o sprites sheet placed page = record {
  each = page.shown.each;
  apart = page.shown.arranged.good.apart;
  used = page.used;
}

module _ (o : SheetOptions) (rule : List Size → Sides → List (Option Placed) → Type 0)
    (good : (sprites : List Size) (sheet : Sides) (placed : List (Option Placed)) → rule sprites sheet placed →
    IsGood o sprites sheet placed)
    (sprites sizes : List Size) (places : List OnPage) (are : ArePagesBy rule sprites sizes (map Some places)) where
  good_at : (page : ℕ) → page < length sizes
      → IsGood o (sprites_from page sprites (map Some places)) (page_sides sizes page) (places_on page (map Some places))
  good_at page less =
      good (sprites_from page sprites (map Some places)) (page_sides sizes page) (places_on page (map Some places)) (are.pages page less)

  pub pages_count : length places ≡ length sprites
  pages_count = sym (length-map places Some) ∙ are.long

  pub pages_each : AllZip (IsOnPage o sizes) sprites places
  pages_each =
      each_on (length sizes) (λ k s p. IfSome p (IsPlacedFor (page_sides sizes k) (spacing_of o) o.turn s)) (IsOnPage o sizes)
      (λ s p known placed. (known, placed)) sprites places are.long are.below (λ k less. (good_at k less).each)

  pub pages_apart : NoPlacesOverlap sizes places
  pages_apart k less x y =
      let few : count_by (covers_place (spacing_of o) x y) (areas_of (places_on k (map Some places))) ≤ 1 =
      (good_at k less).apart x y in
      omega (arith, few, counts_on (spacing_of o) x y k places)

  pub pages_used : AreUsed sizes places
  pages_used k less other = (good_at k less).used (none_on k places other)

module _ (ways : List Way) (o : SheetOptions) (sprites sizes : List Size) (places : List OnPage)
    (are : ArePages ways o sprites sizes (map Some places)) where
  pub pages_greatest : AreGreatest o sizes
  pages_greatest k less = by_kind (are.pages k (omega (arith, less))).kind
    where
      by_kind : TakesAll ways o
          (sprites_from k sprites (map Some places)) (page_sides sizes k) (places_on k (map Some places))
          ⊎ IsFullSheet ways o (sprites_from k sprites (map Some places)) (page_sides sizes k) (places_on k (map Some places))
          → IsGreatest o.allowed (page_sides sizes k)
      by_kind (inl all) = absurd ((are.pages (k + 1) less).used (whole_last k places all.0))
      by_kind (inr full) = full.0
