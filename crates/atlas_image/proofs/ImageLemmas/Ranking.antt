-- Ranks that are given breadth first: what leads to a slot has a smaller one, and each slot that is led to has one.
use Rattle.std.proofs.Common.{ℕ, ◌+◌, ◌<◌, ◌≤◌, ◌≡◌, ◌≢◌, List, [], ◌∷◌, refl, sym, ap, ◌∙◌, inl, inr}
use Rattle.std.proofs.Common.{arith, subst, length, get_or, get_or-set_other, get_or-set_same, length-set, length-append}
use Rattle.std.proofs.lemmas.Bool.{cases_eq, cases_lt, eq-eqb, ne_eqb}
use Rattle.std.proofs.lemmas.List.{get_or_append_left, get_or_push}
use Rattle.std.proofs.lemmas.List.Sums.{sum_by-set}
use Rattle.atlas_image.specs.Ranks.{HasRank, IsAdded, IsRanking, blank_rank, lacks, unranked}

pub lacks_none : (r : ℕ) → r ≡ blank_rank → lacks r ≡ 1
lacks_none r e = rw (eq-eqb r blank_rank e) refl

pub lacks_some : (r : ℕ) → r ≢ blank_rank → lacks r ≡ 0
lacks_some r ne = rw (ne_eqb r blank_rank ne) refl

module _ (leads : ℕ → ℕ → Type 0) (top : ℕ) where
  module _ (q q' rs rs' : List ℕ) (led seen x a : ℕ) (h : IsRanking leads top q rs led seen) (add : IsAdded q q' rs rs' x (a + 1))
      (early : a < seen) (inside : a < length q) (lead : leads (get_or q a 0) x) (small : a + 1 < blank_rank) (first : led ≤ a) where
    long : length q' ≡ length q + 1
    long = ap (λ (v : List ℕ). length v) add.queue ∙ length-append q (x ∷ [])

    long_ranks : length rs' ≡ length rs
    long_ranks = ap (λ (v : List ℕ). length v) add.ranks ∙ length-set rs x (a + 1)

    old_place : (j : ℕ) → j < length q → get_or q' j 0 ≡ get_or q j 0
    old_place j l = ap (λ v. get_or v j 0) add.queue ∙ get_or_append_left q (x ∷ []) 0 j l

    new_place : get_or q' (length q) 0 ≡ x
    new_place = ap (λ v. get_or v (length q) 0) add.queue ∙ get_or_push q x 0 (length q) refl

    old_rank : (y : ℕ) → y ≢ x → get_or rs' y 0 ≡ get_or rs y 0
    old_rank y ne = ap (λ v. get_or v y 0) add.ranks ∙ get_or-set_other rs x y (a + 1) 0 ne

    new_rank : get_or rs' x 0 ≡ a + 1
    new_rank = ap (λ v. get_or v x 0) add.ranks ∙ get_or-set_same rs x (a + 1) 0 add.lacked.0

    apart : (y : ℕ) → HasRank rs y → y ≢ x
    apart y r e = r.some (ap (λ v. get_or rs v 0) e ∙ add.lacked.1)

    ranked_new : HasRank rs' x
    ranked_new = record { inside = omega (arith, long_ranks, add.lacked.0); some = λ e. absurd (omega (arith, new_rank, e, small)) }

    pub ranked-still : (y : ℕ) → HasRank rs y → HasRank rs' y
    ranked-still y r = record {
      inside = omega (arith, long_ranks, r.inside);
      some = λ e. r.some (sym (old_rank y (apart y r)) ∙ e);
    }

    ranked_before : (y : ℕ) → y ≢ x → HasRank rs' y → HasRank rs y
    ranked_before y ne r = record {
      inside = omega (arith, long_ranks, r.inside);
      some = λ e. r.some (old_rank y ne ∙ e);
    }

    pub added-keeps : IsRanking leads top q' rs' led seen
    added-keeps =
        record {
          origin = λ y r. elim (cases_eq y x) [
            | inl e ↦ inr (
              a,
              early,
              omega (arith, long, inside),
              subst (λ v. leads v y) (sym (old_place a inside)) (subst (leads (get_or q a 0)) (sym e) lead),
              ap (λ v. get_or rs' v 0) e ∙ new_rank,
            )
            | inr ne ↦ elim (h.origin y (ranked_before y ne r)) [
              | inl t ↦ inl t
              | inr o ↦ inr (
                o.0,
                o.1,
                omega (arith, long, o.2),
                subst (λ v. leads v y) (sym (old_place o.0 o.2)) o.3,
                old_rank y ne ∙ o.4,
              )
            ]
          ];
          queued = λ j l. elim (cases_lt j (length q)) [
            | inl m ↦ subst (HasRank rs') (sym (old_place j m)) (ranked-still (get_or q j 0) (h.queued j m))
            | inr m ↦ subst (HasRank rs') (sym (last j l m)) ranked_new
          ];
          low = λ j l. elim (cases_lt j (length q)) [
            | inl m ↦ omega (
              arith,
              ap (λ v. get_or rs' v 0) (old_place j m),
              old_rank (get_or q j 0) (apart (get_or q j 0) (h.queued j m)),
              h.low j m,
            )
            | inr m ↦ omega (arith, ap (λ v. get_or rs' v 0) (last j l m), new_rank, m, inside)
          ];
          found = λ y r. elim (cases_eq y x) [
            | inl e ↦ (length q, omega (arith, long), new_place ∙ sym e)
            | inr ne ↦
                let f = h.found y (ranked_before y ne r) in
                (f.0, omega (arith, long, f.1), old_place f.0 f.1 ∙ f.2)
          ];
          done = λ j y d l lead_y m. elim (cases_lt j (length q)) [
            | inl b ↦ elim (cases_eq y x) [
              | inl e ↦ subst (HasRank rs') (sym e) ranked_new
              | inr ne ↦ ranked-still y (h.done j y d b (subst (λ v. leads v y) (old_place j b) lead_y)
                  (omega (arith, long_ranks, m)))
            ]
            | inr b ↦ absurd (omega (arith, d, b, inside, first))
          ];
          few = omega (
            arith,
            h.few,
            long,
            long_ranks,
            ap unranked add.ranks,
            sum_by-set lacks rs x (a + 1) 0 add.lacked.0,
            lacks_none (get_or rs x 0) add.lacked.1,
            lacks_some (a + 1) (λ e. absurd (omega (arith, e, small))),
          );
        }
      where
        last : (j : ℕ) → j < length q' → length q ≤ j → get_or q' j 0 ≡ x
        last j l m = let e : j ≡ length q = omega (arith, long) in ap (λ v. get_or q' v 0) e ∙ new_place

  -- The next place of the queue was looked at.
  pub looked-at : (q rs : List ℕ) (i : ℕ) → IsRanking leads top q rs i (i + 1)
      → ((x : ℕ) → leads (get_or q i 0) x → x < length rs → HasRank rs x) → IsRanking leads top q rs (i + 1) (i + 1)
  looked-at q rs i h all = record {
    origin = h.origin;
    queued = h.queued;
    low = h.low;
    found = h.found;
    done = λ j x d l lead m. elim (cases_eq j i) [
      | inl e ↦ all x (subst (λ v. leads (get_or q v 0) x) e lead) m
      | inr ne ↦ h.done j x (omega arith) l lead m
    ];
    few = h.few;
  }

  pub looks-on : (q rs : List ℕ) (i : ℕ) → IsRanking leads top q rs i i → IsRanking leads top q rs i (i + 1)
  looks-on q rs i h = record {
    origin = λ x r. elim (h.origin x r) [
      | inl t ↦ inl t
      | inr o ↦ inr (o.0, omega (arith, o.1), o.2, o.3, o.4)
    ];
    queued = h.queued;
    low = h.low;
    found = h.found;
    done = h.done;
    few = h.few;
  }

  -- Where all of the queue was looked at, ranks fall from each slot to what leads to it.
  module _ (q rs : List ℕ) (i seen : ℕ) (h : IsRanking leads top q rs i seen) (all : length q ≤ i) where
    pub led-ranked : (a x : ℕ) → HasRank rs a → leads a x → x < length rs → HasRank rs x
    led-ranked a x r lead l =
        let f = h.found a r in
        h.done f.0 x (omega (arith, f.1, all)) f.1 (subst (λ v. leads v x) (sym f.2) lead) l

    pub rank-falls : (b x : ℕ) → HasRank rs x → x ≢ top → ((a : ℕ) → leads a x → HasRank rs a → a ≡ b)
        → get_or rs b 0 < get_or rs x 0
    rank-falls b x r nt only = elim (h.origin x r) [
      | inl t ↦ absurd (nt t)
      | inr o ↦
          let e : get_or q o.0 0 ≡ b = only (get_or q o.0 0) o.3 (h.queued o.0 o.2) in
          omega (arith, h.low o.0 o.2, ap (λ v. get_or rs v 0) e, o.4)
    ]
