-- Columns of a row that can't hold a better box than the best.
use Rattle.std.proofs.Common.{◌≡◌, ℕ, ◌<◌, ◌==◌, ◌&&◌, ◌⊎◌, Bool, true, false, not, List, length, refl, sym, ◌∙◌, subst, inl, inr}
use Rattle.std.proofs.Common.{arith}
use Rattle.std.proofs.lemmas.Bool.{true≢false, and_from, cases_Bool, eq-eqb, eqb-true, not-true, not_from_false, and_parts}
use Rattle.atlas_search.specs.declared.best.Best.{Best}
use Rattle.atlas_search.specs.declared.link.Link.{Link}
use Rattle.atlas_search.specs.declared.masks.Mask.{Mask}
use Rattle.atlas_search.specs.Bands.{band_of, list_of}
use Rattle.atlas_model.specs.Boxes.{Sides, box_sides}
use Rattle.atlas_model.specs.Choice.{Options}
use Rattle.atlas_search.specs.Items.{Item, item_at, item_sides, shown_item, shown_items}
use Rattle.atlas_search.specs.Numbers.{occurs}
use Rattle.atlas_search.specs.Lookups.{AreBelow, AreListed, AreNear, HasAdded, IsFarIn, IsInRow, IsItemBelow}
use Rattle.atlas_search.specs.Masks.{has, IsMarked}
use Rattle.atlas_search.specs.Searches.{Shown}
use Rattle.atlas_search.proofs.SearchLemmas.AddedLists.{added-of, added-then}
use Rattle.atlas_search.proofs.SearchLemmas.BandLaws.{list_of-most}
use Rattle.atlas_search.proofs.SearchLemmas.Bests.{seen-misfits}
use Rattle.atlas_search.proofs.SearchLemmas.Heaps.{listed-inside}
use Rattle.atlas_search.proofs.SearchLemmas.SearchesBefore.{numbers_where, where-has, where-only}
use Rattle.atlas_search.proofs.SearchLemmas.ShownItems.{shown_items-has, shown_items-in}

-- All of them are near.
pub all-near : (o : Options) (row : ℕ) (columns : Mask) (s : Best) → AreNear o row columns columns s
all-near o row columns s = record {
  inside = λ j h. h;
  others = λ is_large r shown more seen far. seen-misfits s is_large r shown more seen
      (λ d has fits. let f = far d has in true≢false (sym f.in_column ∙ f.is_far));
}

module _ (o : Options) (heads : List Link) (es : List Item) (a : AreListed o heads es) (end : ℕ) (r : Sides) (row : ℕ)
    (columns near : Mask) (s : Best) (is : AreNear o row columns near s) (below : (j : ℕ) → IsMarked columns j → AreBelow end row j) where
  -- A free entry of the row in a column that isn't near.
  is_far : ℕ → Bool
  is_far i =
      ((item_at es i).is_free && (band_of o (item_sides (item_at es i)).width == row)) &&
      (has columns (band_of o (item_sides (item_at es i)).height) && not (has near (band_of o (item_sides (item_at es i)).height)))

  inside : (i : ℕ) → (item_at es i).is_free ≡ true → i < length es
  inside i free =
      let k = list_of o (item_sides (item_at es i)) in
      listed-inside es k _ (a.free_lists k) (a.lists k (list_of-most o (item_sides (item_at es i)))) i (a.each i free)

  has-far : (i : ℕ) → (item_at es i).is_free ≡ true → IsFarIn o row columns near (item_sides (item_at es i)) → is_far i ≡ true
  unfolding is_far
  has-far i free v =
      and_from _ _ (and_from _ _ free (eq-eqb _ _ v.in_row)) (and_from _ _ v.in_column (not_from_false _ v.is_far))

  -- They needn't be shown.
  added-far : HasAdded o es end r (λ i j. (i ≡ row) × IsMarked columns j × (has near j ≡ false)) s s
  unfolding is_far
  added-far =
      let xs = numbers_where is_far (length es) in
      let only : (i : ℕ) → 0 < occurs i xs → is_far i ≡ true = λ i h. where-only is_far (length es) i h in
      let far : (i : ℕ) → 0 < occurs i xs → ((item_at es i).is_free ≡ true) × IsFarIn o row columns near (item_sides (item_at es i)) =
      λ i h. let p = and_parts _ _ (only i h) in
      let q = and_parts _ _ p.0 in
      let w = and_parts _ _ p.1 in
      (q.0, record { in_row = eqb-true _ _ q.1; in_column = w.0; is_far = not-true _ w.1 }) in
      record {
        more = shown_items es xs;
        of_lists = λ c h.
            let t = shown_items-in es xs c h in
            let f = far t.0 t.1 in
            let P : Shown → Type 0 = λ d. ((item_at es d.at).is_free ≡ true) × (d ≡ shown_item es d.at) × IsItemBelow o es end d.at in
            let b = below _ f.1.in_column in
            subst P (sym t.2) (f.0, refl, (omega (arith, f.1.in_row, b.0), b.1));
        each = λ i free v.
            let far = has-far i free (record { in_row = v.0; in_column = v.1; is_far = v.2 }) in
            shown_items-has es xs i (where-has is_far (length es) i (inside i free) far);
        seen = λ is_large shown h. is.others is_large r shown (shown_items es xs) h (λ c has.
            let t = shown_items-in es xs c has in
            subst (λ (d : Shown). IsFarIn o row columns near (box_sides d.box)) (sym t.2) (far t.0 t.1).1);
      }

  near-or-far : (i j : ℕ) → IsInRow row columns i j
      → ((i ≡ row) × IsMarked columns j × (has near j ≡ false)) ⊎ IsInRow row near i j
  near-or-far i j v = elim (cases_Bool (has near j)) [ inl t ↦ inr (v.0, t) | inr f ↦ inl (v.0, v.1, f) ]

  -- So the row is seen once the columns that are near are.
  pub added-row : (t : Best) → HasAdded o es end r (IsInRow row near) s t → HasAdded o es end r (IsInRow row columns) s t
  added-row t h =
      added-of o es end r _ (IsInRow row columns) s t
      near-or-far
      (added-then o es end r (λ i j. (i ≡ row) × IsMarked columns j × (has near j ≡ false)) (IsInRow row near) s s t added-far h)
