-- A search before a row and a column: the request's own row and column first, and the rest only if no equal side was found.
use Rattle.std.proofs.Common.{◌≡◌, ℕ, zero, suc, ◌+◌, ◌*◌, ◌<◌, ◌≤◌, ◌⊎◌, ◌==◌, ◌&&◌, ◌||◌, nat_lt, nat_le, Bool, true, false, cond, List}
use Rattle.std.proofs.Common.{[], ◌∷◌, length, refl, ap, sym, ◌∙◌, subst, inl, inr, arith}
use Rattle.std.proofs.lemmas.Bool.{cases_eq, cond_both, true≢false, and_from, or_left, or_right, or_parts, and_parts}
use Rattle.std.proofs.lemmas.Bool.Decides.{nat_tests}
use Rattle.atlas_search.specs.declared.bands.Place.{Place}
use Rattle.atlas_search.specs.declared.best.Best.{Best}
use Rattle.atlas_search.specs.declared.link.Link.{Link}
use Rattle.atlas_search.specs.declared.masks.Mask.{Mask}
use Rattle.atlas_search.specs.Bands.{band_of}
use Rattle.atlas_search.specs.Bests.{HasSeen}
use Rattle.atlas_model.specs.Boxes.{Sides}
use Rattle.atlas_model.specs.Choice.{Options, class_of, HasEqualSide}
use Rattle.atlas_search.specs.Items.{Item, item_at, item_box, item_sides, shown_item, shown_items}
use Rattle.atlas_search.specs.Numbers.{occurs}
use Rattle.atlas_search.specs.Lookups.{AreAfter, AreBelow, AreListed, HasAdded, HasSearched, IsBeyond, IsInColumn, IsInRow}
use Rattle.atlas_search.specs.Lookups.{IsItemBelow, IsSearch}
use Rattle.atlas_search.specs.Masks.{KeepsBelow, has, IsMarked}
use Rattle.atlas_search.specs.Searches.{Shown}
use Rattle.atlas_search.specs.Tables.{is_used_at}
use Rattle.atlas_search.proofs.SearchLemmas.AddedLines.{IsRest, rest-cases}
use Rattle.atlas_search.proofs.SearchLemmas.AddedLists.{added-nothing, added-of, added-then, added-weaker}
use Rattle.atlas_search.proofs.SearchLemmas.BandLaws.{band_mono, list_of-most}
use Rattle.atlas_search.proofs.SearchLemmas.Bests.{seen-passed}
use Rattle.atlas_search.proofs.Occurrences.{same-self, same-ne}
use Rattle.atlas_search.proofs.SearchLemmas.Heaps.{listed-inside}
use Rattle.atlas_search.proofs.SearchLemmas.ShownItems.{shown_items-has, shown_items-in}

-- The numbers below n that pass a test.
pub numbers_where : (ℕ → Bool) → ℕ → List ℕ
numbers_where p zero = []
numbers_where p (suc n) = cond (p n) (n ∷ numbers_where p n) (numbers_where p n)

pub where-has : (p : ℕ → Bool) (n i : ℕ) → i < n → p i ≡ true → 0 < occurs i (numbers_where p n)
unfolding numbers_where
where-has p zero i l h = absurd (omega arith)
where-has p (suc n) i l h =
    cond_both (p n) (n ∷ numbers_where p n) (numbers_where p n) (λ xs. 0 < occurs i xs)
    (λ t. elim (cases_eq i n) [
      | inl e ↦ omega (arith, same-self n, ap (λ k. occurs k (n ∷ numbers_where p n)) e)
      | inr ne ↦ omega
          (arith, where-has p n i (omega arith) h)
    ])
    (λ f. elim (cases_eq i n) [ inl e ↦ absurd (true≢false (sym h ∙ ap p e ∙ f)) | inr ne ↦ where-has p n i (omega arith) h ])

pub where-only : (p : ℕ → Bool) (n i : ℕ) → 0 < occurs i (numbers_where p n) → p i ≡ true
unfolding numbers_where
where-only p zero i h = absurd (omega arith)
where-only p (suc n) i h = grind (arith, numbers_where, where-only p n i, same-ne)

lt_true : (m n : ℕ) → m < n → nat_lt m n ≡ true
lt_true m n h = grind (arith, nat_tests)

true_lt : (m n : ℕ) → nat_lt m n ≡ true → m < n
true_lt m n h = grind (arith, nat_tests)

le_true : (m n : ℕ) → m ≤ n → nat_le m n ≡ true
le_true m n h = grind (arith, nat_tests)

true_le : (m n : ℕ) → nat_le m n ≡ true → m ≤ n
true_le m n h = grind (arith, nat_tests)

-- The numbers of a mask from one on.
abbrev pub KeepsFrom : (all from : Mask) → ℕ → Type 0
KeepsFrom all from k = (j : ℕ) → has from j ≡ (has all j && nat_le k j)

pub marked-from : (all from : Mask) (k j : ℕ) → KeepsFrom all from k → IsMarked all j → k ≤ j → IsMarked from j
marked-from all from k j is h l = is j ∙ and_from _ _ h (le_true k j l)

pub marked-below : (all below : Mask) (k j : ℕ) → KeepsBelow all below k → IsMarked all j → j < k → IsMarked below j
marked-below all below k j is h l = is j ∙ and_from _ _ h (lt_true j k l)

pub below-marked : (all below : Mask) (k j : ℕ) → KeepsBelow all below k → IsMarked below j → IsMarked all j × (j < k)
below-marked all below k j is h = let p = and_parts _ _ (sym (is j) ∙ h) in (p.0, true_lt j k p.1)

pub from-marked : (all from : Mask) (k j : ℕ) → KeepsFrom all from k → IsMarked from j → IsMarked all j × (k ≤ j)
from-marked all from k j is h = let p = and_parts _ _ (sym (is j) ∙ h) in (p.0, true_le k j p.1)

-- A column more, of those that the marked rows have a list in.
pub rows-next : (heads : List Link) (first column : ℕ) (rows here more : Mask)
    → ((i : ℕ) → i < 52 → is_used_at heads (52 * i + column) ≡ true → IsMarked here i)
    → ((i : ℕ) → has more i ≡ (has rows i || has here i))
    → ((i j : ℕ) → i < 52 → first ≤ j → j < column → is_used_at heads (52 * i + j) ≡ true → IsMarked rows i)
    → (i j : ℕ) → i < 52 → first ≤ j → j < column + 1 → is_used_at heads (52 * i + j) ≡ true → IsMarked more i
rows-next heads first column rows here more each either known i j h from below used = grind (arith, or_right, or_left)

module _ (o : Options) (heads : List Link) (es : List Item) (own : Place) (r : Sides) (least : ℕ) (columns rows : Mask)
    (search : IsSearch o heads es own r least columns rows) (end : ℕ) where
  abbrev a : AreListed o heads es
  a = search.listed

  abbrev row_of : ℕ → ℕ
  row_of i = band_of o (item_sides (item_at es i)).width

  abbrev column_of : ℕ → ℕ
  column_of i = band_of o (item_sides (item_at es i)).height

  -- The lists to the right and below.
  abbrev pub IsApart : ℕ → ℕ → Type 0
  IsApart i j = (own.row < i) × (own.column < j) × AreBelow end i j

  is_apart : ℕ → Bool
  is_apart i =
      ((item_at es i).is_free && (nat_lt (row_of i) end && nat_lt (column_of i) end)) &&
      (nat_lt own.row (row_of i) && nat_lt own.column (column_of i))

  inside-free : (i : ℕ) → (item_at es i).is_free ≡ true → i < length es
  inside-free i free =
      let k = 52 * row_of i + column_of i in
      listed-inside es k _ (a.free_lists k) (a.lists k (list_of-most o (item_sides (item_at es i)))) i (a.each i free)

  -- Once an equal side is found, no list to the right and below holds the best.
  pub added-apart : (s : Best) → s.rank ≡ 0 → HasAdded o es end r IsApart s s
  unfolding is_apart
  added-apart s best_is =
      let xs = numbers_where is_apart (length es) in
      let only : (i : ℕ) → 0 < occurs i xs → is_apart i ≡ true = λ i h. where-only is_apart (length es) i h in
      record {
        more = shown_items es xs;
        of_lists = λ c h.
            let t = shown_items-in es xs c h in
            let p = and_parts _ _ (only t.0 t.1) in
            let q = and_parts _ _ p.0 in
            let below = and_parts _ _ q.1 in
            let P : Shown → Type 0 = λ d. ((item_at es d.at).is_free ≡ true) × (d ≡ shown_item es d.at) × IsItemBelow o es end d.at in
            subst P (sym t.2) (q.0, refl, (true_lt _ _ below.0, true_lt _ _ below.1));
        each = grind (arith, is_apart, lt_true, shown_items-has, where-has, inside-free);
        seen = λ is_large shown h. seen-passed s is_large r shown (shown_items es xs) h best_is (λ c has e.
            let t = shown_items-in es xs c has in
            let p = and_parts _ _ (and_parts _ _ (only t.0 t.1)).1 in
            let right : own.row < row_of t.0 = true_lt own.row (row_of t.0) p.0 in
            let under : own.column < column_of t.0 = true_lt own.column (column_of t.0) p.1 in
            let equal : HasEqualSide r (item_box (item_at es t.0)) = subst (λ (d : Shown). HasEqualSide r d.box) t.2 e in
            absurd (elim equal [
              | inl w ↦ let same : row_of t.0 ≡ band_of o r.width = ap (band_of o) w in omega (arith, right, search.row, same)
              | inr w ↦ let same : column_of t.0 ≡ band_of o r.height = ap (band_of o) w in omega (arith, under, search.column, same)
            ]));
      }

  -- And else they are shown.
  pub added-beyond : (used from below : Mask) (s t : Best)
      → ((i j : ℕ) → i < 52 → own.column + 1 ≤ j → j < 52 → is_used_at heads (52 * i + j) ≡ true → IsMarked used i)
      → KeepsFrom used from (own.row + 1) → KeepsBelow from below end
      → (((i : ℕ) → IsMarked below i → AreAfter o r i (own.column + 1)) → HasAdded o es end r (IsBeyond below (own.column + 1) end) s t)
      → HasAdded o es end r IsApart s t
  added-beyond used from below s t each f b h =
      added-weaker o es end r heads a (IsBeyond below (own.column + 1) end) IsApart s t
      (λ i j hi hj full v.
      let marked = marked-from used from (own.row + 1) i f (each i j hi (omega (arith, v.1)) hj full) (omega (arith, v.0)) in
      (marked-below from below end i b marked v.2.0, omega (arith, v.1), v.2.1))
      (h (λ i m.
      let past = (from-marked used from (own.row + 1) i f (below-marked from below end i b m).0).1 in
      (omega (arith, past, search.row), omega (arith, search.column))))

  -- All of them.
  added-all : (in_row in_column : Mask) (s t u v : Best) → KeepsBelow columns in_row end → KeepsBelow rows in_column end
      → HasAdded o es end r (IsInRow own.row in_row) s t
      → HasAdded o es end r (IsInColumn own.column in_column) t u
      → HasAdded o es end r IsApart u v
      → HasAdded o es end r (λ i j. (own.row ≤ i) × (own.column ≤ j) × AreBelow end i j × ((least ≤ i) ⊎ (least ≤ j))) s v
  added-all in_row in_column s t u v bc br x y z =
      added-weaker o es end r heads a (λ i j. (IsInRow own.row in_row i j ⊎ IsInColumn own.column in_column i j) ⊎ IsApart i j) _ s v
      (λ i j hi hj full at.
      elim (cases_eq i own.row) [
        | inl e ↦
            let reaches = subst (λ k. (least ≤ k) ⊎ (least ≤ j)) e at.3 in
            let marked = search.left.in_row j at.1 hj (subst (λ k. is_used_at heads (52 * k + j) ≡ true) e full) reaches in
            inl (inl (e, marked-below columns in_row end j bc marked at.2.1))
        | inr ne ↦ elim (cases_eq j own.column) [
          | inl e ↦
              let reaches = subst (λ k. (least ≤ i) ⊎ (least ≤ k)) e at.3 in
              let marked = search.left.in_column i (omega (arith, at.0, ne)) hi (subst (λ k. is_used_at heads (52 * i + k) ≡ true) e full)
              reaches in
              inl (inr (e, marked-below rows in_column end i br marked at.2.0))
          | inr ne' ↦ inr (omega (arith, at.0, ne), omega (arith, at.1, ne'), at.2)
        ]
      ])
      (added-then o es end r _ IsApart s u v (added-then o es end r (IsInRow own.row in_row) (IsInColumn own.column in_column) s t u x y) z)

  -- A search that knew of none has seen them.
  pub searched : (in_row in_column : Mask) (s t u v : Best) → own.row < end → own.column < end
      → KeepsBelow columns in_row end → KeepsBelow rows in_column end
      → HasSeen s (class_of o r == 2) r []
      → (((j : ℕ) → IsMarked in_row j → AreBelow end own.row j) → HasAdded o es end r (IsInRow own.row in_row) s t)
      → (((i : ℕ) → IsMarked in_column i → AreBelow end i own.column) → HasAdded o es end r (IsInColumn own.column in_column) t u)
      → HasAdded o es end r IsApart u v → HasSearched o es end r v
  searched in_row in_column s t u v lr lc bc br begun x y z =
      let h = added-all in_row in_column s t u v bc br
      (x (λ j m. (lr, (below-marked columns in_row end j bc m).1))) (y (λ i m. ((below-marked rows in_column end i br m).1, lc))) z in
      record {
        shown = h.more;
        are_shown = record {
          of_lists = h.of_lists;
          each = λ i free below fits. h.each i free (
            omega (arith, search.row, band_mono o _ _ fits.0),
            omega (arith, search.column, band_mono o _ _ fits.1),
            below,
            search.from i free fits,
          );
        };
        seen = h.seen (class_of o r == 2) [] begun;
      }

  -- So has one of which one list alone is left in the row and the column, whose first entry has an equal side.
  pub searched-alone : (in_row in_column rest both : Mask) (column : ℕ) (s t : Best) → own.row < end → own.column < end
      → KeepsBelow columns in_row end → KeepsBelow rows in_column end → IsRest in_row rest column
      → ((j : ℕ) → has both j ≡ (has rest j || has in_column j)) → ((j : ℕ) → has both j ≡ false)
      → HasSeen s (class_of o r == 2) r [] → HasAdded o es end r (λ i j. (i ≡ own.row) × (j ≡ column)) s t → t.rank ≡ 0
      → HasSearched o es end r t
  searched-alone in_row in_column rest both column s t lr lc bc br is_rest either none begun list equal =
      let empty : (j : ℕ) → (has rest j ≡ false) × (has in_column j ≡ false) = λ j. or_parts _ _ (sym (either j) ∙ none j) in
      searched in_row in_column s t t t lr lc bc br begun
      (λ _. added-of o es end r _ (IsInRow own.row in_row) s t
      (λ i j v. (
        v.0,
        elim (rest-cases in_row rest column j is_rest (empty j).0) [
          | inl past ↦ absurd (true≢false (sym v.1 ∙ past))
          | inr e ↦ e
        ],
      )) list)
      (λ _. added-nothing o es end r (IsInColumn own.column in_column) t (λ i j v. true≢false (sym v.1 ∙ (empty i).1)))
      (added-apart t equal)
