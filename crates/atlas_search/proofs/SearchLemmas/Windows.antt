-- From turn to turn of a search: what is left of the lists of a request's own row and column, and which free entries it may still fit.
use Rattle.std.proofs.Common.{◌≡◌, ℕ, ◌+◌, ◌*◌, ◌<◌, ◌≤◌, ◌⊎◌, ◌||◌, ◌==◌, max, nat_le, true, false, List, sym, ◌∙◌, subst, refl, inl, inr}
use Rattle.std.proofs.Common.{arith}
use Rattle.std.proofs.lemmas.Bool.{cases_eq, cases_lt, eq-eqb, ne_eqb, true≢false, or_left, or_right}
use Rattle.std.proofs.lemmas.Bool.Decides.{nat_tests}
use Rattle.atlas_search.specs.declared.bands.Place.{Place}
use Rattle.atlas_search.specs.declared.masks.Mask.{Mask}
use Rattle.atlas_search.specs.declared.link.Link.{Link}
use Rattle.atlas_search.specs.Bands.{band_of, start_of, IsInWindow}
use Rattle.atlas_model.specs.Boxes.{Sides, Fits, IsPositive}
use Rattle.atlas_model.specs.Choice.{Options, AreValid, class_of}
use Rattle.atlas_search.specs.Items.{Item, item_at, item_sides}
use Rattle.atlas_search.specs.Lookups.{AreLeft, AreListed, AreNoneApart, FitsItemsFrom, IsItemBelow, IsSearch, IsSearchBefore}
use Rattle.atlas_search.specs.Masks.{KeepsBelow, has, IsMarked}
use Rattle.atlas_search.specs.Tables.{is_used_at}
use Rattle.atlas_search.proofs.SearchLemmas.AddedLists.{positive-at, used-at}
use Rattle.atlas_search.proofs.SearchLemmas.BandLaws.{band_below, band_mono, class_of-most, start_mono, window_law}
use Rattle.atlas_search.proofs.SearchLemmas.SearchesBefore.{KeepsFrom, marked-from}

-- Each used list from a place on reaches this row or column.
abbrev pub AreReaching : List Link → (own : Place) → (least : ℕ) → Type 0
AreReaching heads own least =
    (i j : ℕ) → i < 52 → j < 52 → own.row ≤ i → own.column ≤ j → is_used_at heads (52 * i + j) ≡ true → (least ≤ i) ⊎ (least ≤ j)

-- Each reaches the least of the columns marked in its row and of the rows marked later.
pub least-reached : (heads : List Link) (own : Place) (least : ℕ) (columns used rows both : Mask)
    → ((j : ℕ) → own.column ≤ j → j < 52 → is_used_at heads (52 * own.row + j) ≡ true → IsMarked columns j)
    → ((i j : ℕ) → i < 52 → j < 52 → is_used_at heads (52 * i + j) ≡ true → IsMarked used i)
    → KeepsFrom used rows (own.row + 1)
    → ((k : ℕ) → has both k ≡ (has columns k || has rows k))
    → ((k : ℕ) → IsMarked both k → least ≤ k)
    → AreReaching heads own least
least-reached heads own least columns used rows both each_column each_row later either first i j hi hj past under full =
    elim (cases_eq i own.row) [
      | inl e ↦ inr (first j (either j ∙ or_left _ (has rows j) (each_column j under hj
          (subst (λ k. is_used_at heads (52 * k + j) ≡ true) e full))))
      | inr ne ↦
          let marked = marked-from used rows (own.row + 1) i later (each_row i j hi hj full) (omega (arith, past, ne)) in
          inl (first i (either i ∙ or_right (has columns i) _ marked))
    ]

-- The own row and column before the first turn.
left-begin : (heads : List Link) (own : Place) (least : ℕ) (in_row columns in_column rows : Mask)
    → ((j : ℕ) → j < 52 → is_used_at heads (52 * own.row + j) ≡ true → IsMarked in_row j)
    → KeepsFrom in_row columns own.column
    → ((i : ℕ) → i < 52 → is_used_at heads (52 * i + own.column) ≡ true → IsMarked in_column i)
    → KeepsFrom in_column rows (own.row + 1)
    → AreLeft heads own least columns rows
left-begin heads own least in_row columns in_column rows used_row right used_column under =
    record {
      in_row = λ j l hj full _. marked-from in_row columns own.column j right (used_row j hj full) l;
      in_column = λ i l hi full _. marked-from in_column rows (own.row + 1) i under (used_column i hi full) (omega (arith, l));
    }

-- After a turn up to `end`.
pub left-next : (heads : List Link) (own : Place) (first end least : ℕ)
    (columns rows later_columns later_rows : Mask)
    → own.row < end → own.column < end → first < end → end ≤ least → KeepsFrom columns later_columns end
    → KeepsFrom rows later_rows end
    → AreLeft heads own first columns rows → AreLeft heads own least later_columns later_rows
left-next heads own first end least columns rows later_columns later_rows lr lc begins from fc fr left =
    record {
      in_row = λ j l hj full reaches. elim reaches [
        | inl h ↦ absurd (omega (arith, h, lr, from))
        | inr h ↦ marked-from columns later_columns end j fc (left.in_row j l hj full (inr (omega (arith, h, from, begins))))
            (omega (arith, h, from))
      ];
      in_column = λ i l hi full reaches. elim reaches [
        | inl h ↦ marked-from rows later_rows end i fr (left.in_column i l hi full (inl (omega (arith, h, from, begins))))
            (omega (arith, h, from))
        | inr h ↦ absurd (omega (arith, h, lc, from))
      ];
    }

module _ (o : Options) (heads : List Link) (es : List Item) (r : Sides) (a : AreListed o heads es) where
  -- The class of a free entry, by its bands.
  class-window : (i : ℕ) → (item_at es i).is_free ≡ true
      → IsInWindow o (class_of o (item_sides (item_at es i))) (band_of o (item_sides (item_at es i)).width)
      (band_of o (item_sides (item_at es i)).height)
  class-window i free = (window_law o (item_sides (item_at es i)) _ a.valid (positive-at o es 0 r heads a i free) (class_of-most o _)).0
      refl

  -- Those that reach the first row or column of a class have it or a later one.
  pub class-from : (class least : ℕ) → class < 3 → start_of o class ≤ least → FitsItemsFrom o es least r
      → (i : ℕ) → (item_at es i).is_free ≡ true → Fits r (item_sides (item_at es i))
      → class ≤ class_of o (item_sides (item_at es i))
  class-from class least few begins from i free fits =
      let within = class-window i free in
      elim (cases_lt (class_of o (item_sides (item_at es i))) class) [
        | inl l ↦
            let far = start_mono o (class_of o (item_sides (item_at es i)) + 1) class a.valid (omega (arith, l)) (omega (arith, few)) in
            absurd (elim (from i free fits) [
              | inl h ↦ omega (arith, h, far, begins, within.row_ends)
              | inr h ↦ omega (arith, h, far, begins, within.column_ends)
            ])
        | inr g ↦ g
      ]

  -- And those before the first of the next class have it or a lower one.
  pub class-below : (class end i : ℕ) → class < 3 → end ≡ start_of o (class + 1) → (item_at es i).is_free ≡ true
      → IsItemBelow o es end i
      → class_of o (item_sides (item_at es i)) ≤ class
  class-below class end i few ends free below =
      let within = class-window i free in
      elim (cases_lt class (class_of o (item_sides (item_at es i)))) [
        | inl l ↦
            let far = start_mono o (class + 1) (class_of o (item_sides (item_at es i))) a.valid (omega (arith, l))
            (omega (arith, class_of-most o (item_sides (item_at es i)))) in
            absurd (elim within.begins [ inl h ↦ omega (arith, h, far, ends, below.0) | inr h ↦ omega (arith, h, far, ends, below.1) ])
        | inr g ↦ g
      ]

  pub below-class : (class end i : ℕ) → end ≡ start_of o (class + 1) → (item_at es i).is_free ≡ true
      → class_of o (item_sides (item_at es i)) ≡ class
      → IsItemBelow o es end i
  below-class class end i ends free e =
      let within = subst (λ k. IsInWindow o k (band_of o (item_sides (item_at es i)).width) (band_of o (item_sides (item_at es i)).height))
      e (class-window i free) in
      (omega (arith, ends, within.row_ends), omega (arith, ends, within.column_ends))

  module _ (own : Place) (er : own.row ≡ band_of o r.width) (ec : own.column ≡ band_of o r.height) where
    -- Where all used lists reach a row or column, so do the entries that the request fits.
    pub fits-reaching : (least : ℕ) → AreReaching heads own least → FitsItemsFrom o es least r
    fits-reaching least reach i free fits =
        reach _ _ (band_below o _) (band_below o _) (omega (arith, er, band_mono o _ _ fits.0)) (omega (arith, ec, band_mono o _ _ fits.1))
        (used-at o es 0 r heads a i free)

    -- A search before its first turn.
    pub search-begins : (least : ℕ) (in_row columns in_column rows : Mask) → AreReaching heads own least
        → ((j : ℕ) → j < 52 → is_used_at heads (52 * own.row + j) ≡ true → IsMarked in_row j)
        → KeepsFrom in_row columns own.column
        → ((i : ℕ) → i < 52 → is_used_at heads (52 * i + own.column) ≡ true → IsMarked in_column i)
        → KeepsFrom in_column rows (own.row + 1)
        → IsSearch o heads es own r least columns rows
    search-begins least in_row columns in_column rows reach used_row right used_column under =
        record {
          listed = a;
          row = er;
          column = ec;
          from = fits-reaching least reach;
          left = left-begin heads own least in_row columns in_column rows used_row right used_column under;
        }

    -- Where no list to the right and below is used, and none is left in the own row and column, the request fits no entry.
    pub none-left : (end : ℕ) (columns rows both : Mask) → AreLeft heads own end columns rows → AreNoneApart heads own
        → ((k : ℕ) → has both k ≡ (has columns k || has rows k)) → ((k : ℕ) → has both k ≡ false)
        → FitsItemsFrom o es end r
        → (i : ℕ) → (item_at es i).is_free ≡ true → Fits r (item_sides (item_at es i)) → ⊥
    none-left end columns rows both left apart either empty from i free fits =
        let row = band_of o (item_sides (item_at es i)).width in
        let column = band_of o (item_sides (item_at es i)).height in
        let past : own.row ≤ row = omega (arith, er, band_mono o _ _ fits.0) in
        let under : own.column ≤ column = omega (arith, ec, band_mono o _ _ fits.1) in
        let full = used-at o es 0 r heads a i free in
        elim (cases_eq row own.row) [
          | inl e ↦
              let marked = left.in_row column under (band_below o _) (subst (λ k. is_used_at heads (52 * k + column) ≡ true) e full)
              (subst (λ k. (end ≤ k) ⊎ (end ≤ column)) e (from i free fits)) in
              true≢false (sym (or_left _ (has rows column) marked) ∙ sym (either column) ∙ empty column)
          | inr ne ↦ elim (cases_eq column own.column) [
            | inl e ↦
                let marked = left.in_column row (omega (arith, past, ne)) (band_below o _)
                (subst (λ k. is_used_at heads (52 * row + k) ≡ true) e full)
                (subst (λ k. (end ≤ row) ⊎ (end ≤ k)) e (from i free fits)) in
                true≢false (sym (or_right (has columns row) _ marked) ∙ sym (either row) ∙ empty row)
            | inr ne' ↦ apart row column (omega (arith, past, ne)) (band_below o _) (omega (arith, under, ne')) (band_below o _) full
          ]
        ]

-- What is left before `end`, of what is left.
pub before-of : (o : Options) (heads : List Link) (es : List Item) (own : Place) (r : Sides) (end : ℕ) (in_row in_column : Mask) (least : ℕ)
    (columns rows : Mask) → IsSearch o heads es own r least columns rows → KeepsBelow columns in_row end → KeepsBelow rows in_column end
    → IsSearchBefore o heads es own r end in_row in_column
before-of o heads es own r end in_row in_column least columns rows search of_row of_column =
    record { least = least; columns = columns; rows = rows; search = search; of_row = of_row; of_column = of_column }

-- A size is large where its greater band is one of large sizes.
pub large-law : (o : Options) (r : Sides) (row column greater large : ℕ) → AreValid o → IsPositive r
    → row ≡ band_of o r.width → column ≡ band_of o r.height
    → greater ≡ max row column → large ≡ start_of o 2 → nat_le large greater ≡ (class_of o r == 2)
large-law o r row column greater large valid positive er ec eg el =
    let law = window_law o r 2 valid positive (omega arith) in
    grind (arith, law, nat_tests, eq-eqb, ne_eqb, band_below)
