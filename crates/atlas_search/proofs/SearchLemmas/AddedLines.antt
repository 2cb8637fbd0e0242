-- What a search knows once it was shown lists of a row or of a column, one by one.
use Rattle.std.proofs.Common.{◌≡◌, ℕ, ◌+◌, ◌*◌, ◌<◌, ◌≤◌, ◌⊎◌, ◌==◌, ◌&&◌, Bool, true, false, not, List, refl, sym, ◌∙◌, subst, inl, inr}
use Rattle.std.proofs.Common.{arith}
use Rattle.std.proofs.lemmas.Bool.{cases_eq, ne_eqb, true≢false}
use Rattle.atlas_search.specs.declared.best.Best.{Best}
use Rattle.atlas_search.specs.declared.masks.Mask.{Mask}
use Rattle.atlas_search.specs.declared.link.Link.{Link}
use Rattle.atlas_model.specs.Boxes.{Sides}
use Rattle.atlas_model.specs.Choice.{Options}
use Rattle.atlas_search.specs.Items.{Item}
use Rattle.atlas_search.specs.Lookups.{AreListed, HasAdded, IsInRow, IsInColumn, IsBeyond}
use Rattle.atlas_search.specs.Masks.{has, IsMarked}
use Rattle.atlas_search.specs.Tables.{is_used_at}
use Rattle.atlas_search.proofs.SearchLemmas.AddedLists.{added-nothing, added-next, added-weaker}

and_left : (a b : Bool) → (a && b) ≡ true → a ≡ true
and_left true b e = refl
and_left false b e = e

and_true : (a : Bool) → (a && true) ≡ a
and_true true = refl
and_true false = refl

-- A mask without one of its numbers.
abbrev pub IsRest : (old new : Mask) (k : ℕ) → Type 0
IsRest old new k = (j : ℕ) → has new j ≡ (has old j && not (j == k))

pub rest-marked : (old new : Mask) (k j : ℕ) → IsRest old new k → IsMarked new j → IsMarked old j
rest-marked old new k j rest h = and_left (has old j) (not (j == k)) (sym (rest j) ∙ h)

rest-other : (old new : Mask) (k j : ℕ) → IsRest old new k → (j ≡ k → ⊥) → has new j ≡ false → has old j ≡ false
rest-other old new k j rest ne h = grind (arith, and_true, ne_eqb)

pub rest-cases : (old new : Mask) (k j : ℕ) → IsRest old new k → has new j ≡ false → (has old j ≡ false) ⊎ (j ≡ k)
rest-cases old new k j rest h = elim (cases_eq j k) [ inl e ↦ inr e | inr ne ↦ inl (rest-other old new k j rest ne h) ]

module _ (o : Options) (es : List Item) (end : ℕ) (r : Sides) where
  -- Before the first.
  pub row-begins : (row : ℕ) (columns : Mask) (s : Best)
      → HasAdded o es end r (λ i j. IsInRow row columns i j × (has columns j ≡ false)) s s
  row-begins row columns s = added-nothing o es end r _ s (λ i j w. true≢false (sym w.0.1 ∙ w.1))

  pub column-begins : (column : ℕ) (rows : Mask) (s : Best)
      → HasAdded o es end r (λ i j. IsInColumn column rows i j × (has rows i ≡ false)) s s
  column-begins column rows s = added-nothing o es end r _ s (λ i j w. true≢false (sym w.0.1 ∙ w.1))

  pub rows-begin : (first : ℕ) (rows : Mask) (s : Best)
      → HasAdded o es end r (λ i j. IsBeyond rows first end i j × (has rows i ≡ false)) s s
  rows-begin first rows s = added-nothing o es end r _ s (λ i j v. true≢false (sym v.0.0 ∙ v.1))

  -- One more.
  pub row-goes_on : (row k : ℕ) (columns old new : Mask) (s t u : Best) → IsRest old new k
      → HasAdded o es end r (λ i j. IsInRow row columns i j × (has old j ≡ false)) s t
      → HasAdded o es end r (λ i j. (i ≡ row) × (j ≡ k)) t u
      → HasAdded o es end r (λ i j. IsInRow row columns i j × (has new j ≡ false)) s u
  row-goes_on row k columns old new s t u rest a b =
      added-next o es end r _ _ _ s t u (λ i j w.
      elim (rest-cases old new k j rest w.1) [ inl h ↦ inl (w.0, h) | inr e ↦ inr (w.0.0, e) ]) a b

  pub column-goes_on : (column k : ℕ) (rows old new : Mask) (s t u : Best) → IsRest old new k
      → HasAdded o es end r (λ i j. IsInColumn column rows i j × (has old i ≡ false)) s t
      → HasAdded o es end r (λ i j. (i ≡ k) × (j ≡ column)) t u
      → HasAdded o es end r (λ i j. IsInColumn column rows i j × (has new i ≡ false)) s u
  column-goes_on column k rows old new s t u rest a b =
      added-next o es end r _ _ _ s t u (λ i j w.
      elim (rest-cases old new k i rest w.1) [ inl h ↦ inl (w.0, h) | inr e ↦ inr (e, w.0.0) ]) a b

  pub rows-go_on : (heads : List Link) (row first : ℕ) (rows old new columns : Mask) (s t u : Best) → AreListed o heads es
      → IsRest old new row
      → ((j : ℕ) → first ≤ j → j < end → is_used_at heads (52 * row + j) ≡ true → IsMarked columns j)
      → HasAdded o es end r (λ i j. IsBeyond rows first end i j × (has old i ≡ false)) s t
      → HasAdded o es end r (IsInRow row columns) t u
      → HasAdded o es end r (λ i j. IsBeyond rows first end i j × (has new i ≡ false)) s u
  rows-go_on heads row first rows old new columns s t u listed rest each a b =
      let V : ℕ → ℕ → Type 0 = λ i j. (i ≡ row) × (first ≤ j) × (j < end) in
      added-next o es end r _ V _ s t u
      (λ i j w. elim (rest-cases old new row i rest w.1) [ inl h ↦ inl (w.0, h) | inr e ↦ inr (e, w.0.1, w.0.2) ]) a
      (added-weaker o es end r heads listed (IsInRow row columns) V t u
      (λ i j hi hj used v. (v.0, each j v.1 v.2 (subst (λ k. is_used_at heads (52 * k + j) ≡ true) v.0 used))) b)
