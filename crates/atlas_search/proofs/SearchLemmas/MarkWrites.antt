-- The marks of rows and columns after one of them is written.
use Rattle.std.proofs.Common.{◌≡◌, ◌≢◌, ℕ, ◌<◌, ◌≤◌, ◌⊎◌, inl, inr, Bool, true, false, List, length, slice_set, replicate, refl, sym, ap}
use Rattle.std.proofs.Common.{◌∙◌, arith, rules}
use Rattle.std.proofs.lemmas.List.{get_or-set_same, get_or-set_other, get_or-replicate, length-set, length-replicate}
use Rattle.std.proofs.Math.ListN.{get_or-eq_default}
use Rattle.std.proofs.lemmas.Bool.{cases_lt, cases_eq, both_ways}
use Rattle.atlas_search.specs.declared.masks.Mask.{Mask}
use Rattle.atlas_search.proofs.SearchLemmas.MaskBits.{none-has}
use Rattle.atlas_search.specs.Masks.{has, IsMarked, mask_at, is_marked_at, AreMarks}

-- The new mask says `b` of k, and of each other number what the old one says.
pub record IsWritten (old new : Mask) (k : ℕ) (b : Bool) : Type 0 where
  pub this : has new k ≡ b
  pub others : (j : ℕ) → j ≢ k → has new j ≡ has old j

pub set_this : (rows : List Mask) (i j : ℕ) (m : Mask) (b : Bool) → i < length rows → IsWritten (mask_at rows i) m j b
    → is_marked_at (slice_set rows i m) i j ≡ b
set_this rows i j m b l w = ap (λ x. has x j) (get_or-set_same rows i m (record { bits = 0 }) l) ∙ w.this

pub set_others : (rows : List Mask) (i j k l : ℕ) (m : Mask) (b : Bool) → i < length rows
    → IsWritten (mask_at rows i) m j b → (k ≢ i) ⊎ (l ≢ j)
    → is_marked_at (slice_set rows i m) k l ≡ is_marked_at rows k l
set_others rows i j k l m b within w (inl apart) = ap (λ x. has x l) (get_or-set_other rows i k m (record { bits = 0 }) apart)
set_others rows i j k l m b within w (inr apart) = grind (arith, get_or-set_same, get_or-set_other)

-- Two places are the same, or differ in one of their numbers.
pub cases_place : (i j k l : ℕ) → ((k ≡ i) × (l ≡ j)) ⊎ ((k ≢ i) ⊎ (l ≢ j))
cases_place i j k l = grind arith

turned : (i j k l : ℕ) → (k ≢ i) ⊎ (l ≢ j) → (l ≢ j) ⊎ (k ≢ i)
turned i j k l p = grind arith

module _ (rows columns : List Mask) (any : Mask) (are : AreMarks rows columns any) (i j : ℕ) (row_inside : i < 52) (column_inside : j < 52)
    (row column : Mask) (b : Bool) (in_row : IsWritten (mask_at rows i) row j b) (in_column : IsWritten (mask_at columns j) column i b)
  where
    in_rows : i < length rows
    in_rows = omega (arith, are.row_count)

    in_columns : j < length columns
    in_columns = omega (arith, are.column_count)

    row_this : is_marked_at (slice_set rows i row) i j ≡ b
    row_this = set_this rows i j row b in_rows in_row

    row_others : (k l : ℕ) → (k ≢ i) ⊎ (l ≢ j) → is_marked_at (slice_set rows i row) k l ≡ is_marked_at rows k l
    row_others k l = set_others rows i j k l row b in_rows in_row

    inside_by : (k l : ℕ) → ((k ≡ i) × (l ≡ j)) ⊎ ((k ≢ i) ⊎ (l ≢ j)) → is_marked_at (slice_set rows i row) k l ≡ true
        → (k < 52) × (l < 52)
    inside_by k l (inl e) h = (omega (arith, e.0, row_inside), omega (arith, e.1, column_inside))
    inside_by k l (inr apart) h = are.inside k l (sym (row_others k l apart) ∙ h)

    same_by : (k l : ℕ) → ((k ≡ i) × (l ≡ j)) ⊎ ((k ≢ i) ⊎ (l ≢ j))
        → is_marked_at (slice_set columns j column) l k ≡ is_marked_at (slice_set rows i row) k l
    same_by k l (inl e) = search (rules, set_this, in_columns, row_this)
    same_by k l (inr apart) = set_others columns j i l k column b in_columns in_column (turned i j k l apart) ∙ are.same k l ∙
        sym (row_others k l apart)

    pub written-marks : (any' : Mask)
        → ((k l : ℕ) → is_marked_at (slice_set rows i row) k l ≡ true → IsMarked any' k)
        → ((k : ℕ) → IsMarked any' k → (l : ℕ) × (is_marked_at (slice_set rows i row) k l ≡ true))
        → AreMarks (slice_set rows i row) (slice_set columns j column) any'
    written-marks any' each only = grind (arith, length-set, inside_by, cases_place, same_by)

    row_is : (l : ℕ) → is_marked_at (slice_set rows i row) i l ≡ has row l
    row_is l = ap (λ x. has x l) (get_or-set_same rows i row (record { bits = 0 }) in_rows)

    used_where : (any' : Mask) → ((k : ℕ) → k ≢ i → has any' k ≡ has any k) → ((l : ℕ) → IsMarked row l → IsMarked any' i)
        → (k l : ℕ) → (k ≡ i) ⊎ (k ≢ i) → is_marked_at (slice_set rows i row) k l ≡ true → IsMarked any' k
    used_where any' others own k l (inl e) h =
        ap (has any') e ∙ own l (sym (row_is l) ∙ ap (λ n. is_marked_at (slice_set rows i row) n l) (sym e) ∙ h)
    used_where any' others own k l (inr apart) h = others k apart ∙ are.used k l (sym (row_others k l (inl apart)) ∙ h)

    marked_where : (any' : Mask) → ((k : ℕ) → k ≢ i → has any' k ≡ has any k) → (IsMarked any' i → (l : ℕ) × IsMarked row l)
        → (k : ℕ) → (k ≡ i) ⊎ (k ≢ i) → IsMarked any' k → (l : ℕ) × (is_marked_at (slice_set rows i row) k l ≡ true)
    marked_where any' others own k (inl e) h =
        let its = own (sym (ap (has any') e) ∙ h) in
        (its.0, ap (λ n. is_marked_at (slice_set rows i row) n its.0) e ∙ row_is its.0 ∙ its.1)
    marked_where any' others own k (inr apart) h =
        let its = are.used_only k (sym (others k apart) ∙ h) in
        (its.0, row_others k its.0 (inl apart) ∙ its.1)

    -- The row is used where it has a mark, and each other row as before.
    used-marks : (any' : Mask) → ((k : ℕ) → k ≢ i → has any' k ≡ has any k) → ((l : ℕ) → IsMarked row l → IsMarked any' i)
        → (IsMarked any' i → (l : ℕ) × IsMarked row l)
        → AreMarks (slice_set rows i row) (slice_set columns j column) any'
    used-marks any' others own only =
        written-marks any' (λ k l. used_where any' others own k l (cases_eq k i)) (λ k. marked_where any' others only k (cases_eq k i))

    -- A place is marked.
    pub marked-marks : b ≡ true → (any' : Mask) → IsWritten any any' i true
        → AreMarks (slice_set rows i row) (slice_set columns j column) any'
    marked-marks is any' w = used-marks any' w.others (λ l h. w.this) (λ h. (j, in_row.this ∙ is))

    -- A place is no longer marked, and its row has a mark still, or none.

    still_used : b ≡ false → (l : ℕ) → IsMarked row l → (l ≡ j) ⊎ (l ≢ j) → IsMarked any i
    still_used is l h (inl e) = absurd (both_ways _ (ap (has row) e ∙ in_row.this ∙ is) h)
    still_used is l h (inr apart) = are.used i l (sym (in_row.others l apart) ∙ h)

    pub left-marks : b ≡ false → (l : ℕ) × IsMarked row l → AreMarks (slice_set rows i row) (slice_set columns j column) any
    left-marks is left = used-marks any (λ k apart. refl) (λ l h. still_used is l h (cases_eq l j)) (λ h. left)

    pub emptied-marks : ((l : ℕ) → has row l ≡ false) → (any' : Mask) → IsWritten any any' i false
        → AreMarks (slice_set rows i row) (slice_set columns j column) any'
    emptied-marks none any' w = used-marks any' w.others (λ l h. absurd (both_ways _ (none l) h)) (λ h. absurd (both_ways _ w.this h))

-- ---- no mark

pub no_mark : (m : Mask) → ((k : ℕ) → has m k ≡ false) → (i j : ℕ) → is_marked_at (replicate 52 m) i j ≡ false
no_mark m none i j =
    elim (cases_lt i 52) [
      | inl l ↦ ap (λ x. has x j) (get_or-replicate 52 i m (record { bits = 0 }) l) ∙ none j
      | inr g ↦
          let past : length (replicate 52 m) ≤ i = omega (arith, length-replicate 52 m) in
          ap (λ x. has x j) (get_or-eq_default (replicate 52 m) (record { bits = 0 }) past) ∙ none-has j
    ]

pub no-marks : (m : Mask) → ((k : ℕ) → has m k ≡ false) → AreMarks (replicate 52 m) (replicate 52 m) m
no-marks m none =
    record {
      row_count = length-replicate 52 m;
      column_count = length-replicate 52 m;
      inside = λ i j h. absurd (both_ways _ (no_mark m none i j) h);
      same = λ i j. no_mark m none j i ∙ sym (no_mark m none i j);
      used = λ i j h. absurd (both_ways _ (no_mark m none i j) h);
      used_only = λ i h. absurd (both_ways _ (none i) h);
    }
