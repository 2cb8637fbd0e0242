-- How the loop goes on that looks whether boxes are stacked.
use Rattle.std.proofs.Common.{ℕ, ℤ, pos, negsuc, ◌+◌, ◌<◌, ◌≤◌, ◌≤ℤ◌, ◌<ℤ◌, ◌≡◌, ◌⊎◌, ◌↔◌, Bool, true, false, List, [], ◌∷◌, ◌++◌, refl}
use Rattle.std.proofs.Common.{sym, ap, ◌∙◌}
use Rattle.std.proofs.Common.{inl, inr, arith, length, get_or, take, cond, subst, int_le, int_lt}
use Rattle.std.specs.Prelude.{IsTrue}
use Rattle.std.specs.List.{filter}
use Rattle.std.proofs.lemmas.Int.{ints}
use Rattle.std.proofs.lemmas.Bool.{cases_Bool, cases_eq, true≢false}
use Rattle.std.proofs.lemmas.List.{append-nil, get_or_default}
use Rattle.std.proofs.lemmas.List.Elements.{filter_more}
use Rattle.atlas_model.specs.declared.geometry.Rectangle.{Rectangle}
use Rattle.atlas_model.specs.Pixels.{natural}
use Rattle.guillotiere.specs.Apart.{AreStacked, IsEndWith, is_full}

-- A number from 0 on.
pub exact : (z : ℤ) → pos 0 ≤ℤ z → z ≡ pos (natural z)
exact (pos n) h = refl
exact (negsuc n) h = absurd (omega (arith, ints, h))

-- The end of a box before the i-th, or 0.
abbrev pub IsEnd : List Rectangle → (i : ℕ) → ℤ → Type 0
IsEnd rs i end =
    (end ≡ pos 0) ⊎ ((k : ℕ) × (k < i) × ((d : Rectangle) → (get_or rs k d).max.y ≡ end))

-- The end of a box before the i-th that goes through, or 0.
abbrev pub IsFullEnd : (low high : ℤ) → List Rectangle → (i : ℕ) → ℤ → Type 0
IsFullEnd low high rs i end =
    (end ≡ pos 0) ⊎ ((k : ℕ) × (k < i)
    × ((d : Rectangle) → ((get_or rs k d).max.y ≡ end) × (is_full low high (get_or rs k d) ≡ true)))

-- The boxes before the i-th are stacked; none of them ends below `all`, and none that goes through below `through`. These are ends.
pub record IsStackedTo (low high : ℤ) (rs : List Rectangle) (i : ℕ) (all through : ℤ) : Type 0 where
  pub pairs : (j k : ℕ) (d : Rectangle) → j < k → k < i
      → (is_full low high (get_or rs j d) ≡ true) ⊎ (is_full low high (get_or rs k d) ≡ true)
      → (get_or rs j d).max.y ≤ℤ (get_or rs k d).min.y
  pub most : (k : ℕ) (d : Rectangle) → k < i → (get_or rs k d).max.y ≤ℤ all
  pub most_full : (k : ℕ) (d : Rectangle) → k < i → is_full low high (get_or rs k d) ≡ true → (get_or rs k d).max.y ≤ℤ through
  pub end : IsEnd rs i all
  pub end_full : IsFullEnd low high rs i through

pub stacked-none : (low high : ℤ) (rs : List Rectangle) → IsStackedTo low high rs 0 (pos 0) (pos 0)
stacked-none low high rs = record {
  pairs = λ j k d l m f. absurd (omega (arith, m));
  most = λ k d l. absurd (omega (arith, l));
  most_full = λ k d l f. absurd (omega (arith, l));
  end = inl refl;
  end_full = inl refl;
}

pub stacked-all : (low high : ℤ) (rs : List Rectangle) (i : ℕ) (all through : ℤ) → IsStackedTo low high rs i all through
    → length rs ≤ i → AreStacked low high rs
stacked-all low high rs i all through t l = λ j k d m n f. t.pairs j k d m (omega (arith, l, n)) f

-- Of the next box: where it begins, and what the two ends are then.
pub record IsNext (low high : ℤ) (all through : ℤ) (r : Rectangle) (all' through' : ℤ) : Type 0 where
  pub under_all : is_full low high r ≡ true → all ≤ℤ r.min.y
  pub under_full : is_full low high r ≡ false → through ≤ℤ r.min.y
  pub all_is : ((all ≤ℤ r.max.y) × (all' ≡ r.max.y)) ⊎ ((r.max.y ≤ℤ all) × (all' ≡ all))
  pub through_is : IsEndWith through (is_full low high r) r through'

module _ (low high : ℤ) (rs : List Rectangle) (i : ℕ) (all through : ℤ) (e : Rectangle) (inside : i < length rs)
    (t : IsStackedTo low high rs i all through) where
  at : (k : ℕ) (d : Rectangle) → k ≡ i → get_or rs k d ≡ get_or rs i e
  at k d q = ap (λ n. get_or rs n d) q ∙ get_or_default rs i d e inside

  module _ (all' through' : ℤ) (n : IsNext low high all through (get_or rs i e) all' through') where
    next_pair : (j k : ℕ) (d : Rectangle) → j < k → k ≡ i
        → (is_full low high (get_or rs j d) ≡ true) ⊎ (is_full low high (get_or rs k d) ≡ true)
        → (get_or rs j d).max.y ≤ℤ (get_or rs k d).min.y
    next_pair j k d l q f =
        let here : get_or rs k d ≡ get_or rs i e = at k d q in
        let inside_j : j < i = omega (arith, l, q) in
        rw here (elim (cases_Bool (is_full low high (get_or rs i e))) [
          | inl g ↦ omega (arith, ints, t.most j d inside_j, n.under_all g)
          | inr g ↦
              let first : is_full low high (get_or rs j d) ≡ true = elim f [
                | inl h ↦ h
                | inr h ↦ absurd (true≢false (sym h ∙ ap (is_full low high) here ∙ g))
              ] in
              omega (arith, ints, t.most_full j d inside_j first, n.under_full g)
        ])

    more_all : all ≤ℤ all'
    more_all = elim n.all_is [ inl a ↦ rw a.1 a.0 | inr a ↦ rw a.1 (omega (arith, ints)) ]

    end_all : (get_or rs i e).max.y ≤ℤ all'
    end_all = elim n.all_is [ inl a ↦ rw a.1 (omega (arith, ints)) | inr a ↦ rw a.1 a.0 ]

    more_full : through ≤ℤ through'
    more_full = elim n.through_is [ inl a ↦ rw a.2 a.1 | inr a ↦ rw a.1 (omega (arith, ints)) ]

    most_of : is_full low high (get_or rs i e) ≡ true → (get_or rs i e).max.y ≤ℤ through'
    most_of f = elim n.through_is [ inl a ↦ rw a.2 (omega (arith, ints)) | inr a ↦ rw a.1 (a.0 f) ]

    end_now : IsEnd rs (i + 1) all'
    end_now = elim n.all_is [
      | inl a ↦ inr (i, omega arith, λ d. ap (λ (r : Rectangle). r.max.y) (at i d refl) ∙ sym a.1)
      | inr a ↦ elim t.end [
        | inl z ↦ inl (a.1 ∙ z)
        | inr b ↦ inr (b.0, omega (arith, b.1), λ d. b.2 d ∙ sym a.1)
      ]
    ]

    full_now : IsFullEnd low high rs (i + 1) through'
    full_now = elim n.through_is [
      | inl a ↦ inr (
        i,
        omega arith,
        λ d. (ap (λ (r : Rectangle). r.max.y) (at i d refl) ∙ sym a.2, ap (is_full low high) (at i d refl) ∙ a.0),
      )
      | inr a ↦ elim t.end_full [
        | inl z ↦ inl (a.1 ∙ z)
        | inr b ↦ inr (b.0, omega (arith, b.1), λ d. ((b.2 d).0 ∙ sym a.1, (b.2 d).1))
      ]
    ]

    pub stacked-next : IsStackedTo low high rs (i + 1) all' through'
    stacked-next =
        record {
          pairs = λ j k d l m f. elim (cases_eq k i) [
            | inl q ↦ next_pair j k d l q f
            | inr ne ↦ t.pairs j k d l (omega (arith, m)) f
          ];
          most = λ k d l. elim (cases_eq k i) [
            | inl q ↦ rw (at k d q) end_all
            | inr ne ↦ omega (arith, ints, t.most k d (omega (arith, l)), more_all)
          ];
          most_full = λ k d l f. elim (cases_eq k i) [
            | inl q ↦ rw (at k d q) (most_of (ap (is_full low high) (sym (at k d q)) ∙ f))
            | inr ne ↦ omega (arith, ints, t.most_full k d (omega (arith, l)) f, more_full)
          ];
          end = end_now;
          end_full = full_now;
        }

pub less-true : (a b : ℤ) → int_lt a b ≡ true → a <ℤ b
less-true a b e = grind (arith, ints)

pub less-false : (a b : ℤ) → int_lt a b ≡ false → b ≤ℤ a
less-false a b e = grind (arith, ints)

pub most-true : (a b : ℤ) → int_le a b ≡ true → a ≤ℤ b
most-true a b e = grind (arith, ints)

-- Not less.
pub no-less : (b : Bool) (a z : ℤ) → IsTrue b ↔ (a <ℤ z) → b ≡ false → z ≤ℤ a
no-less b a z h e = elim (cases_Bool (int_lt a z)) [
  | inl l ↦ absurd (true≢false (sym (h.1 (less-true a z l)) ∙ e))
  | inr n ↦ less-false a z n
]

-- The loop goes on past a box, of which `b` tells whether it goes through.
module _ (low high : ℤ) (rs : List Rectangle) (i : ℕ) (all through : ℤ) (e : Rectangle) (b : Bool)
    (says : b ≡ is_full low high (get_or rs i e)) (below_all : b ≡ true → all ≤ℤ (get_or rs i e).min.y)
    (below_full : b ≡ false → through ≤ℤ (get_or rs i e).min.y) where
  pub stacked-on : i < length rs → IsStackedTo low high rs i all through → (all' through' : ℤ)
      → IsEndWith all true (get_or rs i e) all' → IsEndWith through b (get_or rs i e) through' → (end end_full : ℤ) → all' ≡ end
      → through' ≡ end_full → IsStackedTo low high rs (i + 1) end end_full
  stacked-on inside t all' through' all_is through_is end end_full same same_full =
      subst (λ z. IsStackedTo low high rs (i + 1) z end_full) same
      (subst (λ z. IsStackedTo low high rs (i + 1) all' z) same_full
      (stacked-next low high rs i all through e inside t all' through' (record {
        under_all = λ f. below_all (says ∙ f);
        under_full = λ f. below_full (says ∙ f);
        all_is = elim all_is [
          | inl a ↦ inl (a.1, a.2)
          | inr a ↦ inr (a.0 refl, a.1)
        ];
        through_is = subst (λ c. IsEndWith through c (get_or rs i e) through') says through_is;
      })))

-- One more is looked at.
pub all-next : {X : Type 0} (P : X → Type 0) (xs : List X) (i : ℕ) (e : X) → i < length xs → P (get_or xs i e)
    → ((k : ℕ) (d : X) → k < i → P (get_or xs k d)) → (k : ℕ) (d : X) → k < i + 1 → P (get_or xs k d)
all-next P xs i e inside here before k d l = elim (cases_eq k i) [
  | inl q ↦ subst P (sym (ap (λ n. get_or xs n d) q ∙ get_or_default xs i d e inside)) here
  | inr ne ↦ before k d (omega (arith, l))
]

-- One more passes a test, or doesn't.
pub filter-taken : {X : Type 0} (p : X → Bool) (xs : List X) (i : ℕ) (d : X) (b : Bool) → b ≡ p (get_or xs i d) → b ≡ true
    → i < length xs → filter p (take (i + 1) xs) ≡ filter p (take i xs) ++ get_or xs i d ∷ []
filter-taken p xs i d b says passes inside =
    filter_more p xs i d inside ∙ ap (λ c. filter p (take i xs) ++ cond c (get_or xs i d ∷ []) []) (sym says ∙ passes)

pub filter-left : {X : Type 0} (p : X → Bool) (xs : List X) (i : ℕ) (d : X) (b : Bool) → b ≡ p (get_or xs i d) → b ≡ false
    → i < length xs → filter p (take (i + 1) xs) ≡ filter p (take i xs)
filter-left p xs i d b says fails inside =
    filter_more p xs i d inside ∙ ap (λ c. filter p (take i xs) ++ cond c (get_or xs i d ∷ []) []) (sym says ∙ fails)
    ∙ append-nil (filter p (take i xs))
