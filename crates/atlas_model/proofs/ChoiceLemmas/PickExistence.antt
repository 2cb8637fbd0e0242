-- Where a request has room there is a pick: the least fitting box by class, equal side, margin and place.
use Rattle.std.proofs.Common.{◌≡◌, ℕ, ◌-◌, ◌≤◌, ◌<◌, ◌==◌, Bool, true, false, cond, not, ltb, nat_le, ◌&&◌, ◌||◌, List, [], ◌∷◌, refl, ap}
use Rattle.std.proofs.Common.{sym, subst, ◌∙◌, arith, inl, inr, ◌⊎◌, Contains}
use Rattle.std.specs.List.{sum_by}
use Rattle.std.proofs.lemmas.Bool.{true≢false, cases_lt, cases_Bool, eqb-true, eqb-false, eq-eqb, le-leb, leb-true, ltb-true, and_parts}
use Rattle.std.proofs.lemmas.Bool.{and_from, or_cases, or_left, or_right}
use Rattle.std.proofs.lemmas.List.Sums.{get_or-le-sum_by}
use Rattle.atlas_model.specs.Boxes.{Sides, Box, box_sides, Fits, IsPositive}
use Rattle.atlas_model.specs.Choice.{Options, rounded, class_of, least_margin, HasEqualSide, IsFitting, IsCandidate, HasBetterMargin}
use Rattle.atlas_model.specs.Choice.{IsBest, ComesFirst, IsPick, HasRoom, HasNoRoom}
use Rattle.atlas_model.specs.Laws.StepLaws.{PicksExist, SmallerFits}
use Rattle.atlas_model.proofs.TreeLemmas.TreeIds.{Contains-first, Contains-later, Contains-none, Contains-cons_cases}
use Rattle.atlas_model.proofs.ChoiceLemmas.RoundedSides.{rounded_monotone}

-- The first key that differs is smaller.
abbrev KeysAtMost : {X : Type 0} → List (X → ℕ) → X → X → Type 0
KeysAtMost [] x y = Unit {0}
KeysAtMost (k ∷ ks) x y = (k x < k y) ⊎ ((k x ≡ k y) × KeysAtMost ks x y)

module _ {X : Type 0} where
  either : (ks : List (X → ℕ)) (x y : X) → KeysAtMost ks x y ⊎ KeysAtMost ks y x
  either [] x y = inl tt
  either (k ∷ ks) x y = grind (arith, either ks x y)

  onward : (ks : List (X → ℕ)) (x y z : X) → KeysAtMost ks x y → KeysAtMost ks y z → KeysAtMost ks x z
  onward [] x y z a b = tt
  onward (k ∷ ks) x y z (inl a) (inl b) = inl (omega arith)
  onward (k ∷ ks) x y z (inl a) (inr b) = inl (omega (arith, b.0))
  onward (k ∷ ks) x y z (inr a) (inl b) = inl (omega (arith, a.0))
  onward (k ∷ ks) x y z (inr a) (inr b) = inr (a.0 ∙ b.0, onward ks x y z a.1 b.1)

  itself : (ks : List (X → ℕ)) (x : X) → KeysAtMost ks x x
  itself [] x = tt
  itself (k ∷ ks) x = inr (refl, itself ks x)

  first_key : (k : X → ℕ) (ks : List (X → ℕ)) (x y : X) → KeysAtMost (k ∷ ks) x y → k x ≤ k y
  first_key k ks x y (inl a) = omega arith
  first_key k ks x y (inr a) = omega (arith, a.0)

  next_keys : (k : X → ℕ) (ks : List (X → ℕ)) (x y : X) → KeysAtMost (k ∷ ks) x y → k y ≤ k x → KeysAtMost ks x y
  next_keys k ks x y (inl a) le = absurd (omega arith)
  next_keys k ks x y (inr a) le = a.1

  -- An element that passes the test, and whose keys are the least of all that do.
  record IsLeast (ks : List (X → ℕ)) (p : X → Bool) (xs : List X) : Type 0 where
    pub it : X
    pub at : Contains xs it
    pub passes : p it ≡ true
    pub least : (y : X) → Contains xs y → p y ≡ true → KeysAtMost ks it y

  least_or_none : (ks : List (X → ℕ)) (p : X → Bool) (xs : List X)
      → IsLeast ks p xs ⊎ ((y : X) → Contains xs y → p y ≡ true → ⊥)
  least_or_none ks p [] = inr (λ y at passes. Contains-none y at)
  least_or_none ks p (x ∷ xs) = by_test (cases_Bool (p x)) (least_or_none ks p xs)
    where
      later : (m : IsLeast ks p xs) → KeysAtMost ks m.it x ⊎ (p x ≡ false) → IsLeast ks p (x ∷ xs)
      later m before = record {
        it = m.it;
        at = Contains-later x xs m.it m.at;
        passes = m.passes;
        least = λ y at passes. each y passes (Contains-cons_cases x xs y at) before;
      }
        where
          each : (y : X) → p y ≡ true → (x ≡ y) ⊎ Contains xs y → KeysAtMost ks m.it x ⊎ (p x ≡ false)
              → KeysAtMost ks m.it y
          each y passes (inl e) (inl h) = subst (KeysAtMost ks m.it) e h
          each y passes (inl e) (inr fails) = absurd (true≢false (sym passes ∙ sym (ap p e) ∙ fails))
          each y passes (inr at) h = m.least y at passes

      here : p x ≡ true → ((y : X) → Contains xs y → p y ≡ true → KeysAtMost ks x y) → IsLeast ks p (x ∷ xs)
      here passes rest = record {
        it = x;
        at = Contains-first x xs;
        passes = passes;
        least = λ y at passed. each y passed (Contains-cons_cases x xs y at);
      }
        where
          each : (y : X) → p y ≡ true → (x ≡ y) ⊎ Contains xs y → KeysAtMost ks x y
          each y passed (inl e) = subst (KeysAtMost ks x) e (itself ks x)
          each y passed (inr at) = rest y at passed

      compared : p x ≡ true → (m : IsLeast ks p xs) → KeysAtMost ks x m.it ⊎ KeysAtMost ks m.it x
          → IsLeast ks p (x ∷ xs)
      compared passed m (inl h) = here passed (λ y at passes. onward ks x m.it y h (m.least y at passes))
      compared passed m (inr h) = later m (inl h)

      by_test : (p x ≡ true) ⊎ (p x ≡ false) → IsLeast ks p xs ⊎ ((y : X) → Contains xs y → p y ≡ true → ⊥)
          → IsLeast ks p (x ∷ xs) ⊎ ((y : X) → Contains (x ∷ xs) y → p y ≡ true → ⊥)
      by_test (inl passed) (inl m) = inl (compared passed m (either ks x m.it))
      by_test (inl passed) (inr none) = inl (here passed (λ y at passes. absurd (none y at passes)))
      by_test (inr fails) (inl m) = inl (later m (inr fails))
      by_test (inr fails) (inr none) = inr (λ y at passes. nowhere y passes (Contains-cons_cases x xs y at))
        where
          nowhere : (y : X) → p y ≡ true → (x ≡ y) ⊎ Contains xs y → ⊥
          nowhere y passes (inl e) = true≢false (sym passes ∙ sym (ap p e) ∙ fails)
          nowhere y passes (inr at) = none y at passes

-- The keys of a choice.

abbrev fits : Sides → Box → Bool
fits r b = nat_le r.width (box_sides b).width && nat_le r.height (box_sides b).height

abbrev has_equal_side : Sides → Box → Bool
has_equal_side r b = ((box_sides b).width == r.width) || ((box_sides b).height == r.height)

abbrev unequal : Sides → Box → ℕ
unequal r b = cond (has_equal_side r b) 0 1

-- Smaller is better: for a large request the margin's distance from a number that no margin passes.
abbrev margin_key : Options → Sides → (most : ℕ) → Box → ℕ
margin_key o r most b = cond (class_of o r == 2) (most - least_margin r b) (least_margin r b)

abbrev choice_keys : Options → Sides → (most : ℕ) → List (Box → ℕ)
choice_keys o r most =
    (λ b. class_of o (box_sides b)) ∷ (λ b. unequal r b) ∷ (λ b. margin_key o r most b) ∷ (λ b. b.min.y) ∷ (λ b. b.min.x) ∷ []

fits_is : (r : Sides) (b : Box) → fits r b ≡ true → Fits r (box_sides b)
fits_is r b h = let both = and_parts _ _ h in (leb-true _ _ both.0, leb-true _ _ both.1)

is_fits : (r : Sides) (b : Box) → Fits r (box_sides b) → fits r b ≡ true
is_fits r b h = and_from _ _ (le-leb _ _ h.0) (le-leb _ _ h.1)

equal_is : (r : Sides) (b : Box) → has_equal_side r b ≡ true → HasEqualSide r b
equal_is r b h = grind (arith, or_cases, eqb-true)

is_equal : (r : Sides) (b : Box) → HasEqualSide r b → has_equal_side r b ≡ true
is_equal r b (inl e) = or_left _ _ (eq-eqb _ _ e)
is_equal r b (inr e) = or_right _ _ (eq-eqb _ _ e)

equal_unequal : (r : Sides) (b : Box) → HasEqualSide r b → unequal r b ≡ 0
equal_unequal r b h = ap (λ t. cond t 0 1) (is_equal r b h)

unequal_equal : (r : Sides) (b : Box) → unequal r b ≤ 0 → HasEqualSide r b
unequal_equal r b h = grind (arith, equal_is)

unequal_most : (r : Sides) (b c : Box) → has_equal_side r c ≡ false → unequal r b ≤ unequal r c
unequal_most r b c e = grind arith

-- A box with an equal side has no margin.
no_margin : (r : Sides) (b : Box) → HasEqualSide r b → least_margin r b ≡ 0
no_margin r b (inl e) = omega arith
no_margin r b (inr e) = omega arith

further : (most b c : ℕ) → c ≤ most → most - b ≤ most - c → c ≤ b
further most b c few le = omega arith

better_from_key : (o : Options) (r : Sides) (most : ℕ) (b c : Box) → least_margin r c ≤ most
    → margin_key o r most b ≤ margin_key o r most c → HasBetterMargin o r b c
better_from_key o r most b c few h = grind (arith, further, eqb-true, eqb-false)

key_from_better : (o : Options) (r : Sides) (most : ℕ) (b c : Box) → class_of o r ≤ 2 → HasBetterMargin o r b c
    → margin_key o r most b ≤ margin_key o r most c
key_from_better o r most b c top h = grind (arith, eqb-true, eqb-false)

class_at_most : (o : Options) (r : Sides) → class_of o r ≤ 2
class_at_most o r = grind arith

-- The least by these keys is a pick.
least_pick : (free : List Box) (o : Options) (r : Sides) (most : ℕ)
    → ((b : Box) → Contains free b → least_margin r b ≤ most) → (m : IsLeast (choice_keys o r most) (fits r) free)
    → IsPick free o r m.it
least_pick free o r most few m = record {
  best = record {
    candidate = candidate;
    equal_side = λ c is. equal_side c (after_class c is);
    margin = λ c is. margin c is (after_class c is);
  };
  first = λ b is. place b (after_margin b is (after_class b is.candidate));
}
  where
    class : Box → ℕ
    class b = class_of o (box_sides b)

    side_keys : List (Box → ℕ)
    side_keys = (λ b. unequal r b) ∷ (λ b. margin_key o r most b) ∷ (λ b. b.min.y) ∷ (λ b. b.min.x) ∷ []

    margin_keys : List (Box → ℕ)
    margin_keys = (λ b. margin_key o r most b) ∷ (λ b. b.min.y) ∷ (λ b. b.min.x) ∷ []

    place_keys : List (Box → ℕ)
    place_keys = (λ b. b.min.y) ∷ (λ b. b.min.x) ∷ []

    fitting : IsFitting free r m.it
    fitting = record { is_free = m.at; fits = fits_is r m.it m.passes }

    keys_at_most : (c : Box) → IsFitting free r c → KeysAtMost (choice_keys o r most) m.it c
    keys_at_most c h = m.least c h.is_free (is_fits r c h.fits)

    lowest : (c : Box) → IsFitting free r c → class_of o (box_sides m.it) ≤ class_of o (box_sides c)
    lowest c h = first_key (λ b. class_of o (box_sides b)) side_keys m.it c (keys_at_most c h)

    candidate : IsCandidate free o r m.it
    candidate = record { fitting = fitting; lowest = lowest }

    after_class : (c : Box) → IsCandidate free o r c → KeysAtMost side_keys m.it c
    after_class c is = next_keys (λ b. class_of o (box_sides b)) side_keys m.it c (keys_at_most c is.fitting)
        (is.lowest m.it fitting)

    equal_side : (c : Box) → KeysAtMost side_keys m.it c → HasEqualSide r c → HasEqualSide r m.it
    equal_side c keys has = unequal_equal r m.it
        (subst (λ k. unequal r m.it ≤ k) (equal_unequal r c has) (first_key (λ b. unequal r b) margin_keys m.it c keys))

    margin : (c : Box) → IsCandidate free o r c → KeysAtMost side_keys m.it c
        → HasEqualSide r m.it ⊎ HasBetterMargin o r m.it c
    margin c is keys = by_test (cases_Bool (has_equal_side r m.it))
      where
        by_test : (has_equal_side r m.it ≡ true) ⊎ (has_equal_side r m.it ≡ false)
            → HasEqualSide r m.it ⊎ HasBetterMargin o r m.it c
        by_test (inl e) = inl (equal_is r m.it e)
        by_test (inr e) =
            let most_unequal : unequal r c ≤ unequal r m.it = unequal_most r c m.it e in
            inr (better_from_key o r most m.it c (few c is.fitting.is_free)
            (first_key (λ b. margin_key o r most b) place_keys m.it c
            (next_keys (λ b. unequal r b) margin_keys m.it c keys most_unequal)))

    after_margin : (b : Box) → IsBest free o r b → KeysAtMost side_keys m.it b → KeysAtMost place_keys m.it b
    after_margin b is keys = next_keys (λ b. margin_key o r most b) place_keys m.it b
        (next_keys (λ b. unequal r b) margin_keys m.it b keys (as_equal (cases_Bool (has_equal_side r m.it))))
        (key_from_better o r most b m.it (class_at_most o r) (as_good (is.margin m.it candidate)))
      where
        as_equal : (has_equal_side r m.it ≡ true) ⊎ (has_equal_side r m.it ≡ false) → unequal r b ≤ unequal r m.it
        as_equal (inl e) = let none : unequal r b ≡ 0 =
            equal_unequal r b (is.equal_side m.it candidate (equal_is r m.it e)) in omega arith
        as_equal (inr e) = unequal_most r b m.it e

        as_good : HasEqualSide r b ⊎ HasBetterMargin o r b m.it → HasBetterMargin o r b m.it
        as_good (inl has) =
            let mine : least_margin r b ≡ 0 = no_margin r b has in
            let its : least_margin r m.it ≡ 0 = no_margin r m.it (equal_side b keys has) in
            (λ large. omega arith, λ other. omega arith)
        as_good (inr h) = h

    place : (b : Box) → KeysAtMost place_keys m.it b → ComesFirst m.it b
    place b (inl y) = inl y
    place b (inr (y, inl x)) = inr (y, omega arith)
    place b (inr (y, inr x)) = inr (y, omega (arith, x.0))

pub picks_exist : PicksExist
picks_exist free o s room = found (least_or_none (choice_keys o r most) (fits r) free)
  where
    r : Sides
    r = rounded o s

    most : ℕ
    most = sum_by (λ b. least_margin r b) free

    few : (b : Box) → Contains free b → least_margin r b ≤ most
    few b at = subst (λ c. least_margin r c ≤ most) at.2 (get_or-le-sum_by (λ b. least_margin r b) free at.0 b at.1)

    found : IsLeast (choice_keys o r most) (fits r) free ⊎ ((y : Box) → Contains free y → fits r y ≡ true → ⊥)
        → (f : Box) × IsPick free o r f
    found (inl m) = (m.it, least_pick free o r most few m)
    found (inr none) = absurd (none room.box room.fitting.is_free (is_fits r room.box room.fitting.fits))

pub smaller_fits : SmallerFits
smaller_fits free o r s room pos fit = grind (arith, rounded_monotone)

-- A request has room or not.
pub room_or_none : (free : List Box) (o : Options) (s : Sides) → HasRoom free o s ⊎ HasNoRoom free o s
room_or_none free o s = by_side (cases_lt 0 s.width) (cases_lt 0 s.height)
  where
    r : Sides
    r = rounded o s

    found : IsPositive s → IsLeast [] (fits r) free ⊎ ((y : Box) → Contains free y → fits r y ≡ true → ⊥)
        → HasRoom free o s ⊎ HasNoRoom free o s
    found pos (inl m) =
        inl (record { positive = pos; box = m.it; fitting = record { is_free = m.at; fits = fits_is r m.it m.passes } })
    found pos (inr none) = inr (λ room. none room.box room.fitting.is_free (is_fits r room.box room.fitting.fits))

    by_side : (0 < s.width) ⊎ (s.width ≤ 0) → (0 < s.height) ⊎ (s.height ≤ 0) → HasRoom free o s ⊎ HasNoRoom free o s
    by_side (inl wide) (inl high) = found (wide, high) (least_or_none [] (fits r) free)
    by_side (inr flat) high = inr (λ room. let pos : 0 < s.width = room.positive.0 in omega arith)
    by_side (inl wide) (inr flat) = inr (λ room. let pos : 0 < s.height = room.positive.1 in omega arith)

-- Picks by computation.

abbrev keys_at_most : {X : Type 0} → List (X → ℕ) → X → X → Bool
keys_at_most [] x y = true
keys_at_most (k ∷ ks) x y = ltb (k x) (k y) || ((k x == k y) && keys_at_most ks x y)

-- The keys of an element are the least of all in a list that pass a test.
abbrev is_least : {X : Type 0} → List (X → ℕ) → (X → Bool) → X → List X → Bool
is_least ks p x [] = true
is_least ks p x (y ∷ ys) = (not (p y) || keys_at_most ks x y) && is_least ks p x ys

module _ {X : Type 0} where
  keys_are : (ks : List (X → ℕ)) (x y : X) → keys_at_most ks x y ≡ true → KeysAtMost ks x y
  keys_are [] x y h = tt
  keys_are (k ∷ ks) x y h = grind (arith, or_cases, ltb-true, and_parts, eqb-true, keys_are ks x y)

  least_is : (ks : List (X → ℕ)) (p : X → Bool) (x : X) (xs : List X) → is_least ks p x xs ≡ true
      → (y : X) → Contains xs y → p y ≡ true → KeysAtMost ks x y
  least_is ks p x [] h y at passes = absurd (Contains-none y at)
  least_is ks p x (z ∷ zs) h y at passes =
      grind (arith, and_parts, Contains-cons_cases, or_cases, true≢false, keys_are, least_is ks p x zs)

-- A free box that the request fits, with the least keys, is the pick.
pub pick_by_keys : (free : List Box) (o : Options) (r : Sides) (f : Box) → Contains free f → fits r f ≡ true
    → is_least (choice_keys o r (sum_by (λ b. least_margin r b) free)) (fits r) f free ≡ true → IsPick free o r f
pick_by_keys free o r f at fit least =
    least_pick free o r most few (record {
      it = f;
      at = at;
      passes = fit;
      least = least_is (choice_keys o r most) (fits r) f free least;
    })
  where
    most : ℕ
    most = sum_by (λ b. least_margin r b) free

    few : (b : Box) → Contains free b → least_margin r b ≤ most
    few b at = subst (λ c. least_margin r c ≤ most) at.2 (get_or-le-sum_by (λ b. least_margin r b) free at.0 b at.1)

abbrev fits_none : Sides → List Box → Bool
fits_none r [] = true
fits_none r (b ∷ bs) = not (fits r b) && fits_none r bs

-- A request that fits none of the free boxes has no room.
pub no_room_by_test : (free : List Box) (o : Options) (s : Sides) → fits_none (rounded o s) free ≡ true
    → HasNoRoom free o s
no_room_by_test free o s none room = at_none free none room.box room.fitting.is_free (is_fits (rounded o s) room.box room.fitting.fits)
  where
    at_none : (bs : List Box) → fits_none (rounded o s) bs ≡ true → (b : Box) → Contains bs b
        → fits (rounded o s) b ≡ true → ⊥
    at_none [] h b at fit = Contains-none b at
    at_none (c ∷ cs) h b at fit =
        let parts = and_parts (not (fits (rounded o s) c)) (fits_none (rounded o s) cs) h in
        elim (Contains-cons_cases c cs b at) [
          | inl same ↦ true≢false (sym parts.0 ∙ ap not (ap (fits (rounded o s)) same ∙ fit))
          | inr later ↦ at_none cs parts.1 b later fit
        ]

-- What comes before a box comes before all that it comes before.
pub first-then : (a b c : Box) → ComesFirst a b → ComesFirst b c → ComesFirst a c
first-then a b c f g = grind arith
