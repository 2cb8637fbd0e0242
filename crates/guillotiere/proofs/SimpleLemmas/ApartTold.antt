-- What the test tells whether boxes are apart in a slab.
use Rattle.std.proofs.Common.{ℕ, sym, subst, ℤ, pos, negsuc, ◌<◌, ◌-ℤ◌, ◌<ℤ◌, Bool, true, false, List, refl, arith, length, map}
use Rattle.std.proofs.lemmas.Int.{ints}
use Rattle.std.proofs.lemmas.Bool.{false≢true, true≢false}
use Rattle.std.specs.List.{filter}
use Rattle.atlas_model.specs.declared.geometry.Rectangle.{Rectangle}
use Rattle.atlas_model.specs.Pixels.{box_of, natural}
use Rattle.guillotiere.specs.Apart.{AreApartIn, AreFrom, AreHalves, AreStacked, IsMiddle, IsSlab, TellsApart, is_part}
use Rattle.guillotiere.proofs.SimpleLemmas.ApartBoxes.{apart-few, apart-halves, apart-one}
use Rattle.guillotiere.proofs.SimpleLemmas.ApartCrossings.{part-apart, part-from}
use Rattle.atlas_search.proofs.SearchLemmas.BandLaws.{natural_mono}

-- How many columns a slab has.
unfoldable pub columns : (low high : ℤ) → ℕ
columns low high = natural (high -ℤ low)

-- A middle column parts a slab in two.
pub first-slab : (low middle high : ℤ) → IsSlab low high → IsMiddle low middle high → IsSlab low middle
first-slab low middle high slab m = record { least = slab.least; some = m.after }

pub second-slab : (low middle high : ℤ) → IsSlab low high → IsMiddle low middle high → IsSlab middle high
second-slab low middle high slab m = record { least = omega (arith, ints, slab.least, m.after); some = m.before }

narrower : (a b : ℤ) → pos 0 <ℤ a → a <ℤ b → natural a < natural b
narrower (pos a) (pos b) h l = omega (arith, ints, l)
narrower (pos a) (negsuc b) h l = absurd (omega (arith, ints, l))
narrower (negsuc a) b h l = absurd (omega (arith, ints, h))

-- A half is narrower.
pub first-less : (low middle high : ℤ) → IsMiddle low middle high → columns low middle < columns low high
unfolding columns
first-less low middle high m = narrower (middle -ℤ low) (high -ℤ low) (omega (arith, ints, m.after)) (omega (arith, ints, m.before))

pub second-less : (low middle high : ℤ) → IsMiddle low middle high → columns middle high < columns low high
unfolding columns
second-less low middle high m = narrower (high -ℤ middle) (high -ℤ low) (omega (arith, ints, m.before)) (omega (arith, ints, m.after))

module _ (low high : ℤ) (rs : List Rectangle) where
  tells-true : AreApartIn (natural low) (natural high) (map box_of rs) → TellsApart low high rs true
  tells-true apart = record { apart = λ e. apart; crossed = λ e. absurd (true≢false e) }

  pub tells-few : length rs < 2 → TellsApart low high rs true
  tells-few few = tells-true (apart-few (natural low) (natural high) rs few)

  pub tells-stacked : (AreFrom low high rs → AreApartIn (natural low) (natural high) (map box_of rs) → ⊥)
      → TellsApart low high rs false
  tells-stacked crossed = record { apart = λ e. absurd (false≢true e); crossed = λ e. crossed }

  pub tells-one : IsSlab low high → AreStacked low high rs → (high -ℤ low) <ℤ pos 2 → TellsApart low high rs true
  tells-one slab stacked small = tells-true (apart-one low high rs stacked small slab.least)

  module _ (middle : ℤ) (m : IsMiddle low middle high) where
    -- The first half isn't apart.
    pub tells-first : TellsApart low middle (filter (is_part low high low middle) rs) false → TellsApart low high rs false
    tells-first left = tells-stacked (λ from apart. left.crossed refl (part-from low high low middle rs from)
        (part-apart low high low middle rs (omega arith) (natural_mono middle high (omega (arith, ints, m.before))) apart))

    -- The first half is apart.
    pub tells-second : AreStacked low high rs → TellsApart low middle (filter (is_part low high low middle) rs) true → (answer : Bool)
        → TellsApart middle high (filter (is_part low high middle high) rs) answer → TellsApart low high rs answer
    tells-second stacked left answer right = record {
      apart = λ e. apart-halves low high rs stacked middle (left.apart refl) (right.apart e);
      crossed = λ e from apart. right.crossed e (part-from low high middle high rs from)
          (part-apart low high middle high rs (natural_mono low middle (omega (arith, ints, m.after))) (omega arith) apart);
    }

-- The same for two parts.
module _ (low high : ℤ) (rs : List Rectangle) (a b c d : ℤ) (h : AreHalves low high a b c d) where
  pub halved-first : IsSlab low high → IsSlab a b
  halved-first slab = subst (λ z. IsSlab z b) (sym h.begins) (first-slab low b high slab h.middle)

  pub halved-second : IsSlab low high → IsSlab c d
  halved-second slab =
      subst (λ z. IsSlab z d) (sym h.meets) (subst (IsSlab b) (sym h.ends) (second-slab low b high slab h.middle))

  pub halved-first-less : columns a b < columns low high
  halved-first-less = subst (λ z. columns z b < columns low high) (sym h.begins) (first-less low b high h.middle)

  pub halved-second-less : columns c d < columns low high
  halved-second-less =
      subst (λ z. columns z d < columns low high) (sym h.meets)
      (subst (λ z. columns b z < columns low high) (sym h.ends) (second-less low b high h.middle))

  first_told : (answer : Bool) → TellsApart a b (filter (is_part low high a b) rs) answer
      → TellsApart low b (filter (is_part low high low b) rs) answer
  first_told answer = subst (λ z. TellsApart z b (filter (is_part low high z b) rs) answer) h.begins

  pub halved-told-first : TellsApart a b (filter (is_part low high a b) rs) false → TellsApart low high rs false
  halved-told-first left = tells-first low high rs b h.middle (first_told false left)

  pub halved-told-second : AreStacked low high rs → TellsApart a b (filter (is_part low high a b) rs) true → (answer : Bool)
      → TellsApart c d (filter (is_part low high c d) rs) answer → TellsApart low high rs answer
  halved-told-second stacked left answer right =
      tells-second low high rs b h.middle stacked (first_told true left) answer
      (subst (λ z. TellsApart b z (filter (is_part low high b z) rs) answer) h.ends
      (subst (λ z. TellsApart z d (filter (is_part low high z d) rs) answer) h.meets right))
