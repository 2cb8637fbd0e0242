-- The best of the boxes that a search was shown.
use Rattle.std.proofs.Common.{◌≡◌, ℕ, ◌-◌, ◌<◌, ◌≤◌, ◌⊎◌, min, append_assoc, not, Bool, true, false, List, [], ◌∷◌, ◌++◌, ℤ, pos}
use Rattle.std.proofs.Common.{◌<ℤ◌, ◌≤ℤ◌, ◌↔◌, negsuc, FitsSigned, w32, refl, ap, sym, ◌∙◌, subst, inl, inr, arith}
use Rattle.std.specs.List.{Contains}
use Rattle.std.proofs.lemmas.Int.{ints}
use Rattle.std.proofs.lemmas.List.Elements.{Contains-append_left, Contains-append_right, Contains-append_cases}
use Rattle.atlas_search.specs.declared.best.Best.{Best}
use Rattle.atlas_model.specs.declared.geometry.Rectangle.{Rectangle}
use Rattle.atlas_search.specs.Bests.{IsAhead, IsFarther, IsKeptOf, HasSeen}
use Rattle.atlas_model.specs.Boxes.{Sides, Box, box_sides, Fits}
use Rattle.atlas_model.specs.Choice.{least_margin, HasEqualSide, ComesFirst}
use Rattle.atlas_model.specs.Pixels.{natural, box_of, rectangle_of, sides_of}
use Rattle.atlas_model.proofs.ChoiceLemmas.PickExistence.{first-then}
use Rattle.atlas_search.specs.Ranks.{corner_of, rank_of, no_rank, IsReach}
use Rattle.atlas_search.specs.Requests.{IsBefore, IsBetterMargin, PrecedesBox}
use Rattle.atlas_search.specs.Searches.{Shown, shown_at, IsAsGood, IsBestShown}
use Rattle.atlas_search.proofs.SearchLemmas.BestMargins.{precedes-good, not_precedes-good, none_more, best_kept, best_replaced, best_only}
use Rattle.atlas_search.proofs.SearchLemmas.BestMargins.{margin-equal_side, equal_side-margin}

-- Ranks and margins.

pub rank-equal : (l : Bool) (m : ℕ) → m ≡ 0 → rank_of l m ≡ 0
rank-equal l m z = grind arith

rank-large : (m : ℕ) → (m ≡ 0 → ⊥) → rank_of true m ≡ 2147483647 - m
rank-large m nz = grind arith

pub rank-below : (l : Bool) (m : ℕ) → m < no_rank → rank_of l m < no_rank
rank-below false m h = h
rank-below true m h = grind (arith, rank-equal, rank-large)

rank-better : (l : Bool) (m n : ℕ) → m < no_rank → n < no_rank → rank_of l m < rank_of l n
    → IsBetterMargin l (pos m) (pos n)
rank-better false m n a b h = omega (arith, ints)
rank-better true m n a b h = grind (arith, rank-equal, rank-large)

better-rank : (l : Bool) (m n : ℕ) → m < no_rank → n < no_rank → IsBetterMargin l (pos m) (pos n)
    → rank_of l m < rank_of l n
better-rank false m n a b h = omega (arith, ints)
better-rank true m n a b h = grind (arith, rank-equal, rank-large)

rank-same : (l : Bool) (m n : ℕ) → m < no_rank → n < no_rank → rank_of l m ≡ rank_of l n → m ≡ n
rank-same false m n a b e = e
rank-same true m n a b e = grind (arith, rank-equal, rank-large)

pub rank-zero : (l : Bool) (m : ℕ) → m < no_rank → rank_of l m ≡ 0 → m ≡ 0
rank-zero l m h e = rank-same l m 0 h (omega arith) (e ∙ sym (rank-equal l 0 refl))

pub natural-most : (x : ℤ) → FitsSigned w32 x → natural x ≤ 2147483647
natural-most (pos n) h = omega (arith, ints)
natural-most (negsuc n) h = omega arith

-- The order of corners is that of the boxes.
corner-before : (b c : Box) → b.min.x < 4294967296 → c.min.x < 4294967296 → corner_of b < corner_of c →
    IsBefore (rectangle_of b).min (rectangle_of c).min
corner-before b c hb hc h = grind (arith, ints)

before-corner : (b c : Box) → b.min.x < 4294967296 → c.min.x < 4294967296
    → IsBefore (rectangle_of b).min (rectangle_of c).min → corner_of b < corner_of c
before-corner b c hb hc (inl l) = let h : b.min.y < c.min.y = omega (arith, ints, l) in omega (arith, h, hb, hc)
before-corner b c hb hc (inr e) = let h : b.min.x < c.min.x = omega (arith, ints, e.1) in let s : b.min.y ≡ c.min.y =
    omega (arith, ints, e.0) in omega (arith, h, s)

-- A box that is ahead of the best one, and one that isn't.

module _ (s : Best) (is_large : Bool) (r : Sides) (shown : List Shown) (seen : HasSeen s is_large r shown) where
  pub asked : sides_of s.size ≡ r
  asked = ap sides_of seen.size

  kept-more : (at : ℕ) (c : Shown) (k : IsKeptOf is_large r shown s.rank s.corner at)
      → (Fits r (box_sides c.box) → IsAsGood is_large r k.box c.box × (IsAsGood is_large r c.box k.box → ComesFirst k.box c.box))
      → IsKeptOf is_large r (shown ++ c ∷ []) s.rank s.corner at
  kept-more at c k worse =
      record {
        box = k.box;
        narrow = k.narrow;
        below = k.below;
        ranked = k.ranked;
        cornered = k.cornered;
        best = best_kept is_large r shown (shown_at k.box at) c k.best worse;
      }

  -- It does not fit.
  pub seen-unfit : (c : Shown) → (Fits r (box_sides c.box) → ⊥) → HasSeen s is_large r (shown ++ c ∷ [])
  seen-unfit c misfit =
      record {
        positive = seen.positive;
        size = seen.size;
        large = seen.large;
        best = elim seen.best [
          | inl n ↦ inl (n.0, none_more r shown c n.1 misfit)
          | inr k ↦ inr (k.0, kept-more s.at.number c k.1 (λ fits. absurd (misfit fits)))
        ];
      }

  module _ (b : Box) (rank corner : ℕ) (narrow : b.min.x < 4294967296) (below : least_margin r b < no_rank)
      (ranked : rank ≡ rank_of is_large (least_margin r b)) (cornered : corner ≡ corner_of b) (fits : Fits r (box_sides b)) where
    precedes : (at : ℕ) (k : IsKeptOf is_large r shown s.rank s.corner at) → IsAhead rank corner s
        → PrecedesBox is_large (pos (least_margin r b)) (pos (least_margin r k.box)) (rectangle_of b).min (rectangle_of k.box).min
    precedes at k first = grind (arith, rank-better, rank-same, corner-before)

    ahead : (at : ℕ) (k : IsKeptOf is_large r shown s.rank s.corner at)
        → PrecedesBox is_large (pos (least_margin r b)) (pos (least_margin r k.box)) (rectangle_of b).min (rectangle_of k.box).min
        → IsAhead rank corner s
    ahead at k first = grind (arith, better-rank, before-corner)

    -- The best one is kept.
    seen-behind : (at : ℕ) → (IsAhead rank corner s → ⊥) → HasSeen s is_large r (shown ++ shown_at b at ∷ [])
    seen-behind at behind =
        record {
          positive = seen.positive;
          size = seen.size;
          large = seen.large;
          best = elim seen.best [
            | inl n ↦ absurd (behind (inl (omega (arith, n.0, ranked, rank-below is_large _ below))))
            | inr k ↦ inr (
              k.0,
              kept-more s.at.number (shown_at b at) k.1 (λ _. not_precedes-good is_large r b k.1.box fits k.1.best.fits
                  (λ h. behind (ahead _ k.1 h))),
            )
          ];
        }

    -- It is the best one from now on.
    kept-ahead : (at : ℕ) → IsAhead rank corner s
        → (rank < no_rank) × IsKeptOf is_large r (shown ++ shown_at b at ∷ []) rank corner at
    kept-ahead at first = (
      omega (arith, ranked, rank-below is_large _ below),
      record {
        box = b;
        narrow = narrow;
        below = below;
        ranked = ranked;
        cornered = cornered;
        best = elim seen.best [
          | inl n ↦ best_only is_large r shown (shown_at b at) n.1 fits
          | inr k ↦
              best_replaced is_large r shown (shown_at k.1.box s.at.number) (shown_at b at) k.1.best fits
              (precedes-good is_large r b k.1.box fits k.1.best.fits (precedes _ k.1 first))
        ];
      },
    )

  -- A rectangle with this corner.
  module _ (a : Rectangle) (corner : ℕ) (left : FitsSigned w32 a.min.x) (right : FitsSigned w32 a.max.x)
      (cornered : corner ≡ corner_of (box_of a)) where
    in_sight : (box_of a).min.x ≤ 2147483647
    in_sight = natural-most a.min.x left

    small_margin : least_margin r (box_of a) < no_rank
    small_margin = let most = natural-most a.max.x right in omega (arith, seen.positive.0, most)

    module _ (m : ℤ) (rank : ℕ) (fits : Fits (sides_of s.size) (box_sides (box_of a)))
        (margin : m ≡ pos (least_margin (sides_of s.size) (box_of a)))
        (ranked : rank ≡ rank_of s.is_large (natural m)) where
      rank_is : rank ≡ rank_of is_large (least_margin r (box_of a))
      rank_is = grind (arith, asked)

      fits_asked : Fits r (box_sides (box_of a))
      fits_asked = subst (λ (q : Sides). Fits q (box_sides (box_of a))) asked fits

      pub ranked-behind : (at : ℕ) → (IsAhead rank corner s → ⊥)
          → HasSeen s is_large r (shown ++ shown_at (box_of a) at ∷ [])
      ranked-behind = seen-behind (box_of a) rank corner (omega (arith, in_sight)) small_margin rank_is cornered fits_asked

      pub ranked-ahead : (at : ℕ) → IsAhead rank corner s
          → (rank < no_rank) × IsKeptOf is_large r (shown ++ shown_at (box_of a) at ∷ []) rank corner at
      ranked-ahead = kept-ahead (box_of a) rank corner (omega (arith, in_sight)) small_margin rank_is cornered fits_asked

    -- It is longer on both sides than the request.
    module _ (larger : IsFarther r (box_sides (box_of a))) (m : ℤ) (rank : ℕ)
        (fits : (pos 0 ≤ℤ m) ↔ Fits (sides_of s.size) (box_sides (box_of a)))
        (margin : pos 0 ≤ℤ m → m ≡ pos (least_margin (sides_of s.size) (box_of a)))
        (ranked : pos 0 <ℤ m → rank ≡ rank_of s.is_large (natural m)) where
      fits_larger : Fits (sides_of s.size) (box_sides (box_of a))
      fits_larger = subst (λ (q : Sides). Fits q (box_sides (box_of a))) (sym asked) (omega (arith, larger.0), omega (arith, larger.1))

      margin_larger : m ≡ pos (least_margin (sides_of s.size) (box_of a))
      margin_larger = margin (fits.1 fits_larger)

      rank_larger : rank ≡ rank_of s.is_large (natural m)
      rank_larger =
          let wide = ap (λ (q : Sides). q.width) asked in
          let tall = ap (λ (q : Sides). q.height) asked in
          ranked (omega (arith, ints, margin_larger, larger.0, larger.1, wide, tall))

      pub larger-behind : (at : ℕ) → (IsAhead rank corner s → ⊥) → HasSeen s is_large r (shown ++ shown_at (box_of a) at ∷ [])
      larger-behind = ranked-behind m rank fits_larger margin_larger rank_larger

      pub larger-ahead : (at : ℕ) → IsAhead rank corner s
          → (rank < no_rank) × IsKeptOf is_large r (shown ++ shown_at (box_of a) at ∷ []) rank corner at
      larger-ahead = ranked-ahead m rank fits_larger margin_larger rank_larger

-- Boxes that are passed over: those with an equal side come after the best, which has an equal side too.
pub seen-over : (s : Best) (is_large : Bool) (r : Sides) (shown more : List Shown) → HasSeen s is_large r shown
    → s.rank ≡ 0
    → ((b : Box) → b.min.x < 4294967296 → s.corner ≡ corner_of b → (c : Shown) → Contains more c → HasEqualSide r c.box
    → ComesFirst b c.box)
    → HasSeen s is_large r (shown ++ more)
seen-over s is_large r shown more seen zero below =
    record {
      positive = seen.positive;
      size = seen.size;
      large = seen.large;
      best = elim seen.best [
        | inl n ↦ absurd (omega (arith, zero, n.0))
        | inr k ↦ inr (
          k.0,
          record { box = k.1.box; narrow = k.1.narrow; below = k.1.below; ranked = k.1.ranked; cornered = k.1.cornered; best = still k.1 },
        )
      ];
    }
  where
    equal : (l : Bool) (b c : Box) → Fits r (box_sides b) → Fits r (box_sides c) → HasEqualSide r b → IsAsGood l r c b
        → HasEqualSide r c
    equal l b c fb fc e h = grind (arith, equal_side-margin, margin-equal_side)

    still : (k : IsKeptOf is_large r shown s.rank s.corner s.at.number)
        → IsBestShown is_large r (shown ++ more) (shown_at k.box s.at.number)
    still k =
        let b = k.box in
        let e : HasEqualSide r b = equal_side-margin r b k.best.fits (rank-zero is_large _ k.below (sym k.ranked ∙ zero)) in
        record {
          is_shown = Contains-append_left shown more _ k.best.is_shown;
          fits = k.best.fits;
          best = grind (arith, Contains-append_cases);
          first = λ d has fits h. elim (Contains-append_cases shown more d has) [
            | inl earlier ↦ k.best.first d earlier fits h
            | inr later ↦ below b k.narrow k.cornered d later (equal is_large b d.box k.best.fits fits e h)
          ];
        }

-- So are boxes with no equal side.
pub seen-passed : (s : Best) (is_large : Bool) (r : Sides) (shown more : List Shown) → HasSeen s is_large r shown
    → s.rank ≡ 0 → ((c : Shown) → Contains more c → HasEqualSide r c.box → ⊥) → HasSeen s is_large r (shown ++ more)
seen-passed s is_large r shown more seen zero none =
    seen-over s is_large r shown more seen zero (λ b narrow cornered c has e. absurd (none c has e))

-- The best's least margin is its rank, and 0 where the request is large.
margin-reached : (s : Best) (r : Sides) (l : Bool) (b : Box) → least_margin r b < no_rank → s.rank ≡ rank_of l (least_margin r b)
    → (l ≡ true → s.rank ≡ 0) → (least_margin r b ≡ s.rank) × (l ≡ true → least_margin r b ≡ 0)
margin-reached s r false b below ranked ends = (sym ranked, λ e. sym ranked ∙ ends e)
margin-reached s r true b below ranked ends =
    let z = rank-zero true _ below (sym ranked ∙ ends refl) in (z ∙ sym (ends refl), λ _. z)

-- So are boxes that leave over more than the best does.
pub seen-worse : (s : Best) (is_large : Bool) (r : Sides) (shown more : List Shown) → HasSeen s is_large r shown
    → IsReach s.reach s.rank s.is_large
    → ((c : Shown) → Contains more c → s.reach < least_margin r c.box) → HasSeen s is_large r (shown ++ more)
seen-worse s is_large r shown more seen reach worse = record {
  positive = seen.positive;
  size = seen.size;
  large = seen.large;
  best = elim seen.best [
    | inl n ↦ absurd (omega (arith, n.0, reach.below))
    | inr k ↦ inr (
      k.0,
      record {
        box = k.1.box;
        narrow = k.1.narrow;
        below = k.1.below;
        ranked = k.1.ranked;
        cornered = k.1.cornered;
        best = record {
          is_shown = Contains-append_left shown more _ k.1.best.is_shown;
          fits = k.1.best.fits;
          best = λ c has fits. elim (Contains-append_cases shown more c has) [
            | inl x ↦ k.1.best.best c x fits
            | inr y ↦ (less k.1 c (worse c y) fits).0
          ];
          first = λ c has fits good. elim (Contains-append_cases shown more c has) [
            | inl x ↦ k.1.best.first c x fits good
            | inr y ↦ absurd ((less k.1 c (worse c y) fits).1 good)
          ];
        };
      },
    )
  ];
}
  where
    far : (l : Bool) (b c : Box) → Fits r (box_sides b) → Fits r (box_sides c) → (l ≡ true → least_margin r b ≡ 0)
        → least_margin r b < least_margin r c → IsAsGood l r b c × (IsAsGood l r c b → ⊥)
    far false b c fb fc e h = (omega (arith, h), λ g. omega (arith, h, g))
    far true b c fb fc e h =
        let equal : HasEqualSide r b = equal_side-margin r b fb (e refl) in
        let none : HasEqualSide r c → ⊥ = λ q. let m = margin-equal_side r c fc q in omega (arith, h, m) in
        (inl equal, λ g. elim g [ inl q ↦ none q | inr q ↦ q.0 equal ])

    less : (k : IsKeptOf is_large r shown s.rank s.corner s.at.number) (c : Shown) → s.reach < least_margin r c.box
        → Fits r (box_sides c.box) → IsAsGood is_large r k.box c.box × (IsAsGood is_large r c.box k.box → ⊥)
    less k c h fits =
        let m = margin-reached s r is_large k.box k.below k.ranked (λ e. reach.ends (seen.large ∙ e)) in
        let e = reach.same in
        far is_large k.box c.box k.best.fits fits m.1 (omega (arith, h, m.0, e))

-- So are boxes that leave over as much as the best does or more, and come no earlier.
pub seen-later : (s : Best) (is_large : Bool) (r : Sides) (shown more : List Shown) → HasSeen s is_large r shown
    → IsReach s.reach s.rank s.is_large
    → ((b : Box) → b.min.x < 4294967296 → s.corner ≡ corner_of b → (c : Shown) → Contains more c → ComesFirst b c.box)
    → ((c : Shown) → Contains more c → s.reach ≤ least_margin r c.box) → HasSeen s is_large r (shown ++ more)
seen-later s is_large r shown more seen reach later most = record {
  positive = seen.positive;
  size = seen.size;
  large = seen.large;
  best = elim seen.best [
    | inl n ↦ absurd (omega (arith, n.0, reach.below))
    | inr k ↦ inr (
      k.0,
      record {
        box = k.1.box;
        narrow = k.1.narrow;
        below = k.1.below;
        ranked = k.1.ranked;
        cornered = k.1.cornered;
        best = record {
          is_shown = Contains-append_left shown more _ k.1.best.is_shown;
          fits = k.1.best.fits;
          best = λ c has fits. elim (Contains-append_cases shown more c has) [
            | inl x ↦ k.1.best.best c x fits
            | inr y ↦
                let m = margin-reached s r is_large k.1.box k.1.below k.1.ranked (λ e. reach.ends (seen.large ∙ e)) in
                no_less r is_large k.1.box c.box k.1.best.fits m.1 (omega (arith, most c y, m.0, reach.same))
          ];
          first = λ c has fits good. elim (Contains-append_cases shown more c has) [
            | inl x ↦ k.1.best.first c x fits good
            | inr y ↦ later k.1.box k.1.narrow k.1.cornered c y
          ];
        };
      },
    )
  ];
}
  where
    no_less : (r : Sides) (l : Bool) (b c : Box) → Fits r (box_sides b) → (l ≡ true → least_margin r b ≡ 0)
        → least_margin r b ≤ least_margin r c → IsAsGood l r b c
    no_less r false b c fb z h = h
    no_less r true b c fb z h = inl (equal_side-margin r b fb (z refl))

pub not-out : (b : Bool) → not b ≡ false → b ≡ true
not-out true e = refl
not-out false e = sym e

-- So are boxes that the request doesn't fit.
pub seen-misfits : (s : Best) (is_large : Bool) (r : Sides) (shown more : List Shown) → HasSeen s is_large r shown
    → ((c : Shown) → Contains more c → Fits r (box_sides c.box) → ⊥) → HasSeen s is_large r (shown ++ more)
seen-misfits s is_large r shown more seen none = record {
  positive = seen.positive;
  size = seen.size;
  large = seen.large;
  best = elim seen.best [
    | inl n ↦ inl (n.0, λ c has fits. elim (Contains-append_cases shown more c has) [ inl x ↦ n.1 c x fits | inr y ↦ none c y fits ])
    | inr k ↦ inr (
      k.0,
      record {
        box = k.1.box;
        narrow = k.1.narrow;
        below = k.1.below;
        ranked = k.1.ranked;
        cornered = k.1.cornered;
        best = record {
          is_shown = Contains-append_left shown more _ k.1.best.is_shown;
          fits = k.1.best.fits;
          best = λ c has fits. elim (Contains-append_cases shown more c has)
              [ inl x ↦ k.1.best.best c x fits | inr y ↦ absurd (none c y fits) ];
          first = λ c has fits good. elim (Contains-append_cases shown more c has)
              [ inl x ↦ k.1.best.first c x fits good | inr y ↦ absurd (none c y fits) ];
        };
      },
    )
  ];
}

good-alike : (l : Bool) (r : Sides) (a b c : Box) → box_sides b ≡ box_sides c → IsAsGood l r a b → IsAsGood l r a c
good-alike true r a b c e h = subst (λ (s : Sides). HasEqualSide r a
    ⊎ ((((s.width ≡ r.width) ⊎ (s.height ≡ r.height)) → ⊥) × (min (s.width - r.width) (s.height - r.height) ≤ least_margin r a))) e h
good-alike false r a b c e h = subst (λ (s : Sides). least_margin r a ≤ min (s.width - r.width) (s.height - r.height)) e h

alike-good : (l : Bool) (r : Sides) (a b c : Box) → box_sides b ≡ box_sides c → IsAsGood l r b a → IsAsGood l r c a
alike-good true r a b c e h = subst (λ (s : Sides). ((s.width ≡ r.width) ⊎ (s.height ≡ r.height))
    ⊎ ((HasEqualSide r a → ⊥) × (least_margin r a ≤ min (s.width - r.width) (s.height - r.height)))) e h
alike-good false r a b c e h = subst (λ (s : Sides). min (s.width - r.width) (s.height - r.height) ≤ least_margin r a) e h

-- Boxes of the size of one that was shown last, which come no earlier, are passed over.
pub seen-alike : (s : Best) (is_large : Bool) (r : Sides) (shown more : List Shown) (d : Shown)
    → HasSeen s is_large r (shown ++ d ∷ [])
    → ((c : Shown) → Contains more c → (box_sides c.box ≡ box_sides d.box) × ComesFirst d.box c.box)
    → HasSeen s is_large r (shown ++ (d ∷ more))
seen-alike s is_large r shown more d seen alike =
    subst (λ (all : List Shown). HasSeen s is_large r all) (append_assoc shown (d ∷ []) more) (record {
      positive = seen.positive;
      size = seen.size;
      large = seen.large;
      best = elim seen.best [
        | inl n ↦ inl (
          n.0,
          λ c has fits. elim (Contains-append_cases (shown ++ d ∷ []) more c has) [
            | inl x ↦ n.1 c x fits
            | inr y ↦ n.1 d here (as-fits c y fits)
          ],
        )
        | inr k ↦ inr (
          k.0,
          record {
            box = k.1.box;
            narrow = k.1.narrow;
            below = k.1.below;
            ranked = k.1.ranked;
            cornered = k.1.cornered;
            best = still (shown_at k.1.box s.at.number) k.1.best;
          },
        )
      ];
    })
  where
    here : Contains (shown ++ d ∷ []) d
    here = Contains-append_right shown (d ∷ []) d (0, omega arith, refl)

    as-fits : (c : Shown) → Contains more c → Fits r (box_sides c.box) → Fits r (box_sides d.box)
    as-fits c has fits = subst (λ (q : Sides). Fits r q) (alike c has).0 fits

    still : (f : Shown) → IsBestShown is_large r (shown ++ d ∷ []) f → IsBestShown is_large r ((shown ++ d ∷ []) ++ more) f
    still f k = record {
      is_shown = Contains-append_left (shown ++ d ∷ []) more f k.is_shown;
      fits = k.fits;
      best = λ c has fits. elim (Contains-append_cases (shown ++ d ∷ []) more c has) [
        | inl x ↦ k.best c x fits
        | inr y ↦ good-alike is_large r f.box d.box c.box (sym (alike c y).0) (k.best d here (as-fits c y fits))
      ];
      first = λ c has fits good. elim (Contains-append_cases (shown ++ d ∷ []) more c has) [
        | inl x ↦ k.first c x fits good
        | inr y ↦ first-then f.box d.box c.box
            (k.first d here (as-fits c y fits) (alike-good is_large r f.box c.box d.box (alike c y).0 good)) (alike c y).1
      ];
    }
