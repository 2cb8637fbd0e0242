-- Boxes with sides above 0 within a size: in their order from the top, and disjoint.
use Rattle.std.proofs.Common.{ℕ, ℤ, pos, negsuc, ◌<◌, ◌≤◌, ◌≤ℤ◌, ◌<ℤ◌, ◌≡◌, ◌↔◌, Bool, true, false, List, [], ◌∷◌, refl, ap, ◌∙◌, inl, inr}
use Rattle.std.proofs.Common.{arith, map, get_or, int_cmp, is_lt}
use Rattle.std.specs.Prelude.{All, AllPairs, IsPermutation, IsTrue}
use Rattle.std.specs.List.{count_by}
use Rattle.std.specs.List.Sorted.{IsSortedByKey}
use Rattle.std.specs.Ordering.{MatchOrdering}
use Rattle.std.specs.declared.cmp.Ordering.{Ordering}
use Rattle.std.specs.declared.cmp.Ordering.TheVariants.{Less, Equal, Greater}
use Rattle.std.proofs.lemmas.Int.{ints}
use Rattle.std.proofs.lemmas.Bool.{cases_lt, false_from_ne_true, false≢true, true≢false}
use Rattle.std.proofs.lemmas.List.Elements.{All-head, All-tail}
use Rattle.std.proofs.lemmas.List.Sorted.{IsPermutation-map, All-permutation, sorted_far, ranks_by, sum_by-IsPermutation}
use Rattle.std.proofs.lemmas.Cmp.{int_cmp_total, int_ranked}
use Rattle.atlas_model.specs.declared.geometry.Rectangle.{Rectangle}
use Rattle.atlas_model.specs.declared.geometry.Size.{Size}
use Rattle.atlas_model.specs.Boxes.{AreDisjoint, IsPositive, covers}
use Rattle.atlas_model.specs.Pixels.{box_of, natural, sides_of}
use Rattle.atlas_model.proofs.ListLemmas.ListCounts.{count_by-cons}
use Rattle.atlas_model.proofs.TreeLemmas.TreeBasics.{one_if}
use Rattle.atlas_search.specs.Rectangles.{IsSolid}
use Rattle.guillotiere.specs.Apart.{AreApartIn, AreFrom, IsSlab, IsSolidWithin, LiesAcrossAndAlong, TellsApart}
use Rattle.guillotiere.proofs.SimpleLemmas.ApartBoxes.{covers_parts}
use Rattle.guillotiere.proofs.SimpleLemmas.ApartSteps.{exact}

-- The rectangle with these coordinates.
abbrev corners : (a b c d : ℤ) → Rectangle
corners a b c d = record { min = record { x = a; y = b }; max = record { x = c; y = d } }

same_corners : (a b c d e f g h : ℤ) → a ≡ e → b ≡ f → c ≡ g → d ≡ h → corners a b c d ≡ corners e f g h
same_corners a b c d e f g h p q r s =
    ap (λ z. corners z b c d) p ∙ ap (λ z. corners e z c d) q ∙ ap (λ z. corners e f z d) r ∙ ap (λ z. corners e f g z) s

pub solid-within : (r : Rectangle) (s : Size) → LiesAcrossAndAlong r s → IsSolidWithin (sides_of s) r
solid-within r s l =
    let left = exact r.min.x l.across.left in
    let top = exact r.min.y l.along.top in
    let right = exact r.max.x (omega (arith, ints, l.across.left, l.across.wide)) in
    let bottom = exact r.max.y (omega (arith, ints, l.along.top, l.along.high)) in
    let width = exact s.width (omega (arith, ints, l.across.left, l.across.wide, l.across.right)) in
    let height = exact s.height (omega (arith, ints, l.along.top, l.along.high, l.along.bottom)) in
    record {
      solid = record {
        unsigned = same_corners r.min.x r.min.y r.max.x r.max.y (pos (natural r.min.x)) (pos (natural r.min.y)) (pos (natural r.max.x))
            (pos (natural r.max.y)) left top right bottom;
        nonempty = (omega (arith, ints, left, right, l.across.wide), omega (arith, ints, top, bottom, l.along.high));
      };
      within = (omega (arith, ints, right, width, l.across.right), omega (arith, ints, bottom, height, l.along.bottom));
    }

up_to : (a : ℕ) (z : ℤ) → 0 < a → a ≤ natural z → pos a ≤ℤ z
up_to a (pos n) h l = omega (arith, ints, l)
up_to a (negsuc n) h l = absurd (omega (arith, h, l))

pub within-lies : (r : Rectangle) (s : Size) → IsSolidWithin (sides_of s) r → LiesAcrossAndAlong r s
within-lies r s w =
    let left = ap (λ (q : Rectangle). q.min.x) w.solid.unsigned in
    let top = ap (λ (q : Rectangle). q.min.y) w.solid.unsigned in
    let right = ap (λ (q : Rectangle). q.max.x) w.solid.unsigned in
    let bottom = ap (λ (q : Rectangle). q.max.y) w.solid.unsigned in
    let wide : natural r.min.x < natural r.max.x = w.solid.nonempty.0 in
    let high : natural r.min.y < natural r.max.y = w.solid.nonempty.1 in
    record {
      across = record {
        left = omega (arith, ints, left);
        wide = omega (arith, ints, left, right, wide);
        right = omega (arith, ints, right, up_to (natural r.max.x) s.width (omega (arith, wide)) w.within.0);
      };
      along = record {
        top = omega (arith, ints, top);
        high = omega (arith, ints, top, bottom, high);
        bottom = omega (arith, ints, bottom, up_to (natural r.max.y) s.height (omega (arith, high)) w.within.1);
      };
    }

-- The order after a sort by the top.
not_below : (a b : ℤ) → is_lt (int_cmp a b) ≡ false → b ≤ℤ a
not_below a b e = by (int_cmp a b) (int_ranked a b (int_cmp a b) refl) e
  where
    by : (r : Ordering) → MatchOrdering r (a <ℤ b) (a ≡ b) (b <ℤ a) → is_lt r ≡ false → b ≤ℤ a
    by Less m f = absurd (true≢false f)
    by Equal m f = omega (arith, ints, m)
    by Greater m f = omega (arith, ints, m)

pub order-of : (rs : List Rectangle) → IsSortedByKey (λ (r : Rectangle). r.min.y) int_cmp rs
    → AllPairs (λ (r : Rectangle) (s : Rectangle). r.min.y ≤ℤ s.min.y) rs
order-of rs sorted i j d l m =
    not_below (get_or rs j d).min.y (get_or rs i d).min.y (sorted_far (λ (r : Rectangle) (s : Rectangle). is_lt (int_cmp r.min.y s.min.y))
    (ranks_by int_cmp_total (λ (r : Rectangle). r.min.y)) rs sorted i j d (omega (arith, l)) m)

-- Boxes within a size are disjoint where they are apart in the slab as wide as the size.
module _ (rs sorted : List Rectangle) (size : Size) (same : IsPermutation rs sorted)
    (within : All (IsSolidWithin (sides_of size)) rs) (positive : IsPositive (sides_of size)) where
  counts : (x y : ℕ) → count_by (covers x y) (map box_of sorted) ≡ count_by (covers x y) (map box_of rs)
  counts x y =
      sum_by-IsPermutation (λ b. one_if (covers x y b)) (map box_of rs) (map box_of sorted) (IsPermutation-map box_of rs sorted same)

  pub sorted-within : All (IsSolidWithin (sides_of size)) sorted
  sorted-within = All-permutation (IsSolidWithin (sides_of size)) rs sorted same within

  pub sorted-solid : All IsSolid sorted
  sorted-solid = λ k d l. (sorted-within k d l).solid

  pub whole-slab : IsSlab (pos 0) size.width
  whole-slab = record {
    least = omega (arith, ints);
    some = omega (arith, ints, up_to 1 size.width (omega arith) (omega (arith, positive.0)));
  }

  pub sorted-from : AllPairs (λ (r : Rectangle) (s : Rectangle). r.min.y ≤ℤ s.min.y) sorted → AreFrom (pos 0) size.width sorted
  sorted-from order = record {
    order = order;
    reach = λ k d l.
        let w = within-lies (get_or sorted k d) size (sorted-within k d l) in
        (omega (arith, ints, w.across.wide, w.across.right), omega (arith, ints, w.across.left, w.across.wide));
  }

  covered-low : (x y : ℕ) (ss : List Rectangle) → All (IsSolidWithin (sides_of size)) ss → natural size.width ≤ x
      → count_by (covers x y) (map box_of ss) ≡ 0
  covered-low x y [] all l = refl
  covered-low x y (s ∷ ss) all l =
      let w = (All-head (IsSolidWithin (sides_of size)) s ss all).within.0 in
      let rest = covered-low x y ss (All-tail (IsSolidWithin (sides_of size)) s ss all) l in
      omega (arith, count_by-cons (covers x y) (box_of s) (map box_of ss), not_covered s w, rest)
    where
      not_covered : (s : Rectangle) → natural s.max.x ≤ natural size.width → one_if (covers x y (box_of s)) ≡ 0
      not_covered s w =
          ap one_if (false_from_ne_true (covers x y (box_of s))
          (λ (e : covers x y (box_of s) ≡ true). omega (arith, l, w, (covers_parts x y s e).right)))

  pub disjoint-apart : AreApartIn (natural (pos 0)) (natural size.width) (map box_of sorted) → AreDisjoint (map box_of rs)
  disjoint-apart apart x y = elim (cases_lt x (natural size.width)) [
    | inl l ↦ omega (arith, counts x y, apart x y (omega arith) l)
    | inr l ↦ omega (arith, counts x y, covered-low x y sorted sorted-within l)
  ]

  pub apart-disjoint : AreDisjoint (map box_of rs) → AreApartIn (natural (pos 0)) (natural size.width) (map box_of sorted)
  apart-disjoint disjoint x y f l = omega (arith, counts x y, disjoint x y)

  pub tells-disjoint : AllPairs (λ (r : Rectangle) (s : Rectangle). r.min.y ≤ℤ s.min.y) sorted → (answer : Bool)
      → TellsApart (pos 0) size.width sorted answer → IsTrue answer ↔ AreDisjoint (map box_of rs)
  tells-disjoint order true told = (λ e. disjoint-apart (told.apart refl), λ d. refl)
  tells-disjoint order false told =
      (λ e. absurd (false≢true e), λ d. absurd (told.crossed refl (sorted-from order) (apart-disjoint d)))
