-- The boxes of a slab are disjoint in it, if those of its halves are.
use Rattle.std.proofs.Common.{ℕ, ℤ, pos, negsuc, ◌+◌, ◌<◌, ◌≤◌, ◌≤ℤ◌, ◌<ℤ◌, ◌-ℤ◌, ◌≡◌, ◌&&◌, Bool, true, false, not, List, [], ◌∷◌}
use Rattle.std.proofs.Common.{refl, sym, ap, ◌∙◌, inl, inr, arith, length, map, get_or, int_le, int_lt}
use Rattle.std.proofs.lemmas.Int.{ints}
use Rattle.std.proofs.lemmas.Bool.{and_from, and_parts, cases_lt, leb-true, ltb-true, true≢false, false_from_ne_true}
use Rattle.std.specs.List.{count_by, filter}
use Rattle.atlas_model.specs.declared.geometry.Rectangle.{Rectangle}
use Rattle.atlas_model.specs.Boxes.{covers}
use Rattle.atlas_model.specs.Pixels.{box_of, natural}
use Rattle.guillotiere.specs.Apart.{AreApartIn, AreStacked, is_full, is_part}
use Rattle.guillotiere.proofs.SimpleLemmas.ApartLists.{AreBelow, apart-list, count-wider}
use Rattle.atlas_model.proofs.ListLemmas.ListCounts.{count_by-cons}
use Rattle.atlas_model.proofs.TreeLemmas.TreeBasics.{one_if}
use Rattle.std.proofs.lemmas.List.Sums.{count_by-le-length}
use Rattle.atlas_search.proofs.SearchLemmas.BandLaws.{natural_mono}

-- What a box that covers a unit square says.
pub record Covers (x y : ℕ) (r : Rectangle) : Type 0 where
  pub left : natural r.min.x ≤ x
  pub right : x < natural r.max.x
  pub top : natural r.min.y ≤ y
  pub bottom : y < natural r.max.y

abbrev pub cover : (x y : ℕ) → Rectangle → Bool
cover x y r = covers x y (box_of r)

pub covers_parts : (x y : ℕ) (r : Rectangle) → cover x y r ≡ true → Covers x y r
covers_parts x y r e = grind (arith, and_parts, leb-true, ltb-true)

-- Boxes that are stacked: of two of which one goes through the slab the second isn't covered where the first is.
stacked_below : (low high : ℤ) (x y : ℕ) (rs : List Rectangle) → AreStacked low high rs
    → AreBelow (cover x y) (is_full low high) rs
stacked_below low high x y rs h = λ i j d l m f c. false_from_ne_true _ (λ e.
    let a = covers_parts x y (get_or rs i d) c in
    let b = covers_parts x y (get_or rs j d) e in
    let under = natural_mono _ _ (h i j d l m f) in
    absurd (omega (arith, a.bottom, b.top, under)))

pub count_map : (x y : ℕ) (rs : List Rectangle) → count_by (covers x y) (map box_of rs) ≡ count_by (cover x y) rs
count_map x y [] = refl
count_map x y (r ∷ rs) =
    count_by-cons (covers x y) (box_of r) (map box_of rs) ∙ ap (λ n. one_if (cover x y r) + n) (count_map x y rs)
    ∙ sym (count_by-cons (cover x y) r rs)

before : (a b : ℤ) (x : ℕ) → natural a ≤ x → x < natural b → a <ℤ b
before (pos a) (pos b) x h l = omega (arith, ints)
before (pos a) (negsuc b) x h l = absurd (omega arith)
before (negsuc a) (pos b) x h l = omega (arith, ints)
before (negsuc a) (negsuc b) x h l = absurd (omega arith)

is_less : (a b : ℤ) → a <ℤ b → int_lt a b ≡ true
is_less a b h = grind (arith, ints)

is_most : (a b : ℤ) → a ≤ℤ b → int_le a b ≡ true
is_most a b h = grind (arith, ints)

-- A box that covers a square of a part, and doesn't go through the slab, is one of the part.
part_from : (low high from to : ℤ) (x y : ℕ) (r : Rectangle) → natural from ≤ x → x < natural to → cover x y r ≡ true
    → not (is_full low high r) ≡ true → is_part low high from to r ≡ true
part_from low high from to x y r h l c n =
    let v = covers_parts x y r c in
    let left : int_lt r.min.x to ≡ true = is_less r.min.x to (before r.min.x to x v.left l) in
    let right : int_lt from r.max.x ≡ true = is_less from r.max.x (before from r.max.x x h v.right) in
    and_from _ _ (and_from _ _ n left) right

-- A box that covers a square of the only column goes through.
one_column : (low high : ℤ) (r : Rectangle) (x y : ℕ) → Covers x y r → natural low ≤ x → x < natural high
    → (high -ℤ low) <ℤ pos 2 → pos 0 ≤ℤ low → is_full low high r ≡ true
one_column (pos low) (pos high) r x y v h l small least = by_ends low high r.min.x r.max.x x v.left v.right h l small
  where
    by_ends : (low high : ℕ) (a b : ℤ) (x : ℕ) → natural a ≤ x → x < natural b → low ≤ x → x < high
        → (pos high -ℤ pos low) <ℤ pos 2 → (int_le a (pos low) && int_le (pos high) b) ≡ true
    by_ends low high (pos a) (pos b) x f g h l small =
        and_from _ _ (is_most (pos a) (pos low) (omega (arith, ints, small))) (is_most (pos high) (pos b) (omega (arith, ints, small)))
    by_ends low high (negsuc a) (pos b) x f g h l small =
        and_from _ _ (is_most (negsuc a) (pos low) (omega (arith, ints))) (is_most (pos high) (pos b) (omega (arith, ints, small)))
    by_ends low high a (negsuc b) x f g h l small = absurd (omega arith)
one_column (negsuc low) high r x y v h l small least = absurd (omega (arith, ints, least))
one_column (pos low) (negsuc high) r x y v h l small least = absurd (omega arith)

module _ (low high : ℤ) (rs : List Rectangle) (stacked : AreStacked low high rs) where
  -- By the boxes of a part of the slab.
  by_part : (from to : ℤ) (x y : ℕ) → natural from ≤ x → x < natural to
      → AreApartIn (natural from) (natural to) (map box_of (filter (is_part low high from to) rs))
      → count_by (cover x y) rs ≤ 1
  by_part from to x y h l apart =
      let part = filter (is_part low high from to) rs in
      let few : count_by (cover x y) part ≤ 1 = omega (arith, count_map x y part, apart x y h l) in
      apart-list (cover x y) (is_full low high) rs (stacked_below low high x y rs stacked)
      (omega (
        arith,
        few,
        count-wider (cover x y) (is_full low high) (λ r. not (is_full low high r)) (is_part low high from to)
            (λ r c n. part_from low high from to x y r h l c n) rs,
      ))

  -- Both halves together.
  pub apart-halves : (middle : ℤ)
      → AreApartIn (natural low) (natural middle) (map box_of (filter (is_part low high low middle) rs))
      → AreApartIn (natural middle) (natural high) (map box_of (filter (is_part low high middle high) rs))
      → AreApartIn (natural low) (natural high) (map box_of rs)
  apart-halves middle left right x y h l =
      let is = count_map x y rs in
      elim (cases_lt x (natural middle)) [
        | inl m ↦ omega (arith, is, by_part low middle x y h m left)
        | inr m ↦ omega (arith, is, by_part middle high x y m l right)
      ]

  full_of_one : (x y : ℕ) (r : Rectangle) → natural low ≤ x → x < natural high → (high -ℤ low) <ℤ pos 2 → pos 0 ≤ℤ low
      → cover x y r ≡ true → is_full low high r ≡ true
  full_of_one x y r h l small least c = one_column low high r x y (covers_parts x y r c) h l small least

  -- A slab of one column.
  pub apart-one : (high -ℤ low) <ℤ pos 2 → pos 0 ≤ℤ low → AreApartIn (natural low) (natural high) (map box_of rs)
  apart-one small least x y h l =
      let none = count-wider (cover x y) (is_full low high) (λ r. not (is_full low high r)) (λ r. false)
      (λ r c n. absurd (true≢false (sym n ∙ ap not (full_of_one x y r h l small least c)))) rs in
      omega (
        arith,
        count_map x y rs,
        apart-list (cover x y) (is_full low high) rs (stacked_below low high x y rs stacked)
            (omega (arith, none, no_count rs)),
      )
    where
      no_count : (rs : List Rectangle) → count_by (cover x y) (filter (λ r. false) rs) ≡ 0
      no_count [] = refl
      no_count (r ∷ rs) = no_count rs

-- Fewer than two boxes are apart.
pub apart-few : (low high : ℕ) (rs : List Rectangle) → length rs < 2 → AreApartIn low high (map box_of rs)
apart-few low high rs few x y h l = omega (arith, count_map x y rs, count_by-le-length (cover x y) rs)
