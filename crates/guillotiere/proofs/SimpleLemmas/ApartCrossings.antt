-- Boxes of which one begins too early aren't disjoint.
use Rattle.std.proofs.Common.{ℕ, ℤ, pos, ◌<◌, ◌≤◌, ◌≤ℤ◌, ◌<ℤ◌, ◌≡◌, ◌⊎◌, ◌&&◌, Bool, true, false, not, List, [], ◌∷◌, refl}
use Rattle.std.proofs.Common.{sym, ap, inl, inr, arith, zero, suc, length, map, max, get_or, All, int_lt}
use Rattle.std.proofs.lemmas.Int.{ints}
use Rattle.std.proofs.lemmas.Bool.{and_from, and_parts, cases_Bool, le-leb, lt-ltb}
use Rattle.std.proofs.lemmas.List.Elements.{filter_passes}
use Rattle.std.proofs.lemmas.List.Kept.{AllPairs-filter}
use Rattle.std.specs.List.{count_by, filter}
use Rattle.atlas_model.specs.declared.geometry.Rectangle.{Rectangle}
use Rattle.atlas_model.specs.Pixels.{box_of, natural}
use Rattle.atlas_search.specs.Rectangles.{IsSolid}
use Rattle.atlas_model.proofs.ListLemmas.ListCounts.{count_by-cons}
use Rattle.atlas_model.proofs.TreeLemmas.TreeBasics.{one_if}
use Rattle.guillotiere.specs.Apart.{AreApartIn, AreFrom, IsSlab, is_full, is_part}
use Rattle.guillotiere.proofs.SimpleLemmas.ApartBoxes.{count_map, cover}
use Rattle.guillotiere.proofs.SimpleLemmas.ApartSteps.{IsStackedTo, exact, less-true, most-true}

-- What passes twice is counted twice.
count_one : {X : Type 0} (p : X → Bool) (xs : List X) (i : ℕ) (d : X) → i < length xs → p (get_or xs i d) ≡ true
    → 1 ≤ count_by p xs
count_one p [] i d l e = absurd (omega (arith, l))
count_one p (x ∷ xs) zero d l e = let here : p x ≡ true = e in omega (arith, count_by-cons p x xs, ap one_if here)
count_one p (x ∷ xs) (suc i) d l e = omega (arith, count_by-cons p x xs, count_one p xs i d (omega (arith, l)) e)

pub count_two : {X : Type 0} (p : X → Bool) (xs : List X) (i j : ℕ) (d : X) → i < j → j < length xs → p (get_or xs i d) ≡ true
    → p (get_or xs j d) ≡ true → 2 ≤ count_by p xs
count_two p [] i j d l m e f = absurd (omega (arith, m))
count_two p (x ∷ xs) i zero d l m e f = absurd (omega (arith, l))
count_two p (x ∷ xs) zero (suc j) d l m e f =
    let here : p x ≡ true = e in
    omega (arith, count_by-cons p x xs, ap one_if here, count_one p xs j d (omega (arith, m)) f)
count_two p (x ∷ xs) (suc i) (suc j) d l m e f =
    omega (arith, count_by-cons p x xs, count_two p xs i j d (omega (arith, l)) (omega (arith, m)) e f)

-- A rectangle whose corners lie from 0 on, with a place inside.
record IsPlain (r : Rectangle) : Type 0 where
  left : r.min.x ≡ pos (natural r.min.x)
  top : r.min.y ≡ pos (natural r.min.y)
  right : r.max.x ≡ pos (natural r.max.x)
  bottom : r.max.y ≡ pos (natural r.max.y)
  wide : natural r.min.x < natural r.max.x
  high : natural r.min.y < natural r.max.y

plain : (r : Rectangle) → IsSolid r → IsPlain r
plain r s = record {
  left = ap (λ (q : Rectangle). q.min.x) s.unsigned;
  top = ap (λ (q : Rectangle). q.min.y) s.unsigned;
  right = ap (λ (q : Rectangle). q.max.x) s.unsigned;
  bottom = ap (λ (q : Rectangle). q.max.y) s.unsigned;
  wide = s.nonempty.0;
  high = s.nonempty.1;
}

covers_from : (x y : ℕ) (r : Rectangle) → natural r.min.x ≤ x → x < natural r.max.x → natural r.min.y ≤ y → y < natural r.max.y
    → cover x y r ≡ true
covers_from x y r a b c d =
    and_from _ _ (and_from _ _ (le-leb _ _ a) (lt-ltb _ _ b)) (and_from _ _ (le-leb _ _ c) (lt-ltb _ _ d))

-- The square where a box meets one that goes through, in a row of both.
record AreMet (low high : ℤ) (y : ℕ) (r s : Rectangle) : Type 0 where
  x : ℕ
  from : natural low ≤ x
  to : x < natural high
  first : cover x y r ≡ true
  second : cover x y s ≡ true

full_left : (low high : ℤ) (r : Rectangle) → is_full low high r ≡ true → (r.min.x ≤ℤ low) × (high ≤ℤ r.max.x)
full_left low high r f = let p = and_parts _ _ f in (most-true r.min.x low p.0, most-true high r.max.x p.1)

module _ (low high : ℤ) (slab : IsSlab low high) (y : ℕ) (r s : Rectangle) (a : IsPlain r) (b : IsPlain s)
    (f : is_full low high r ≡ true) (reach : (s.min.x <ℤ high) × (low <ℤ s.max.x))
    (r_from : natural r.min.y ≤ y) (r_to : y < natural r.max.y) (s_from : natural s.min.y ≤ y) (s_to : y < natural s.max.y) where
  low_is : low ≡ pos (natural low)
  low_is = exact low slab.least

  high_is : high ≡ pos (natural high)
  high_is = exact high (omega (arith, ints, slab.least, slab.some))

  meet : AreMet low high y r s
  meet =
      let through = full_left low high r f in
      let x = max (natural s.min.x) (natural low) in
      let some : natural low < natural high = omega (arith, ints, slab.some, low_is, high_is) in
      let before : natural s.min.x < natural high = omega (arith, ints, reach.0, b.left, high_is) in
      let after : natural low < natural s.max.x = omega (arith, ints, reach.1, b.right, low_is) in
      let left : natural r.min.x ≤ natural low = omega (arith, ints, through.0, a.left, low_is) in
      let right : natural high ≤ natural r.max.x = omega (arith, ints, through.1, a.right, high_is) in
      record {
        x = x;
        from = omega arith;
        to = omega (arith, some, before);
        first = covers_from x y r (omega (arith, left)) (omega (arith, right, some, before)) r_from r_to;
        second = covers_from x y s (omega arith) (omega (arith, b.wide, after)) s_from s_to;
      }

module _ (low high : ℤ) (rs : List Rectangle) (slab : IsSlab low high) (solid : All IsSolid rs) (from : AreFrom low high rs)
    (apart : AreApartIn (natural low) (natural high) (map box_of rs)) where
  -- Of two boxes of which one goes through the second doesn't begin before the first ends.
  begins : (i j : ℕ) (d : Rectangle) → i < j → j < length rs
      → (is_full low high (get_or rs i d) ≡ true) ⊎ (is_full low high (get_or rs j d) ≡ true)
      → (get_or rs j d).min.y <ℤ (get_or rs i d).max.y → ⊥
  begins i j d l m f e =
      let a = plain (get_or rs i d) (solid i d (omega (arith, l, m))) in
      let b = plain (get_or rs j d) (solid j d m) in
      let y = natural (get_or rs j d).min.y in
      let over : natural (get_or rs i d).min.y ≤ y = omega (arith, ints, from.order i j d l m, a.top, b.top) in
      let under : y < natural (get_or rs i d).max.y = omega (arith, ints, e, a.bottom, b.top) in
      let twice : (x : ℕ) → natural low ≤ x → x < natural high → cover x y (get_or rs i d) ≡ true → cover x y (get_or rs j d) ≡ true
      → ⊥ = λ x g h p q.
      absurd (omega (arith, count_two (cover x y) rs i j d l m p q, count_map x y rs, apart x y g h)) in
      elim f [
        | inl g ↦
            let t = meet low high slab y (get_or rs i d) (get_or rs j d) a b g (from.reach j d m) over under (omega arith) b.high in
            twice t.x t.from t.to t.first t.second
        | inr g ↦
            let t = meet low high slab y (get_or rs j d) (get_or rs i d) b a g (from.reach i d (omega (arith, l, m))) (omega arith) b.high
            over under in
            twice t.x t.from t.to t.second t.first
      ]

  -- The i-th box begins below the ends.
  module _ (i : ℕ) (all through : ℤ) (e : Rectangle) (inside : i < length rs) (t : IsStackedTo low high rs i all through) where
    from_top : pos 0 ≤ℤ (get_or rs i e).min.y
    from_top = omega (arith, ints, (plain (get_or rs i e) (solid i e inside)).top)

    crossed_full : is_full low high (get_or rs i e) ≡ true → (get_or rs i e).min.y <ℤ all → ⊥
    crossed_full f l = elim t.end [
      | inl z ↦ absurd (omega (arith, ints, l, z, from_top))
      | inr b ↦ begins b.0 i e b.1 inside (inr f) (omega (arith, ints, l, b.2 e))
    ]

    crossed_other : (get_or rs i e).min.y <ℤ through → ⊥
    crossed_other l = elim t.end_full [
      | inl z ↦ absurd (omega (arith, ints, l, z, from_top))
      | inr b ↦ begins b.0 i e b.1 inside (inl (b.2 e).1) (omega (arith, ints, l, (b.2 e).0))
    ]

    -- Where it begins above the end that it has to lie below, boxes aren't apart.
    pub crossed-by : (b : Bool) → b ≡ is_full low high (get_or rs i e) → (b ≡ true → (get_or rs i e).min.y <ℤ all)
        → (b ≡ false → (get_or rs i e).min.y <ℤ through) → ⊥
    crossed-by true says full other = crossed_full (sym says) (full refl)
    crossed-by false says full other = crossed_other (other refl)

-- Those of a part are apart, and from the part.
pub part-from : (low high left right : ℤ) (rs : List Rectangle) → AreFrom low high rs
    → AreFrom left right (filter (is_part low high left right) rs)
part-from low high left right rs h = record {
  order = AllPairs-filter (λ r s. r.min.y ≤ℤ s.min.y) (is_part low high left right) rs h.order;
  reach = λ k d l. one (get_or (filter (is_part low high left right) rs) k d) (filter_passes (is_part low high left right) rs k d l);
}
  where
    one : (r : Rectangle) → is_part low high left right r ≡ true → (r.min.x <ℤ right) × (left <ℤ r.max.x)
    one r e =
        let p = and_parts (not (is_full low high r) && int_lt r.min.x right) (int_lt left r.max.x) e in
        let q = and_parts (not (is_full low high r)) (int_lt r.min.x right) p.0 in
        (less-true r.min.x right q.1, less-true left r.max.x p.1)

pub part-apart : (low high left right : ℤ) (rs : List Rectangle) → natural low ≤ natural left → natural right ≤ natural high
    → AreApartIn (natural low) (natural high) (map box_of rs)
    → AreApartIn (natural left) (natural right) (map box_of (filter (is_part low high left right) rs))
part-apart low high left right rs l m apart x y g h =
    let few = apart x y (omega (arith, l, g)) (omega (arith, m, h)) in
    let part = filter (is_part low high left right) rs in
    omega (arith, few, count_map x y rs, count_map x y part, count_filter (cover x y) (is_part low high left right) rs)
  where
    count_filter : {X : Type 0} (p q : X → Bool) (xs : List X) → count_by p (filter q xs) ≤ count_by p xs
    count_filter p q [] = omega arith
    count_filter p q (x ∷ xs) = elim (cases_Bool (q x)) [
      | inl e ↦
          let is : filter q (x ∷ xs) ≡ x ∷ filter q xs = rw e refl in
          omega (arith, ap (count_by p) is, count_by-cons p x xs, count_by-cons p x (filter q xs), count_filter p q xs)
      | inr e ↦
          let is : filter q (x ∷ xs) ≡ filter q xs = rw e refl in
          omega (arith, ap (count_by p) is, count_by-cons p x xs, count_filter p q xs)
    ]
