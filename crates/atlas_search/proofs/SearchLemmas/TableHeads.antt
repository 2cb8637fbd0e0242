-- A table after one of its heads is written.
use Rattle.std.proofs.Common.{◌≡◌, ◌≢◌, ℕ, ◌+◌, ◌*◌, ◌/◌, ◌%◌, ◌<◌, ◌≤◌, ◌⊎◌, inl, inr, Bool, true, false, not, ◌||◌, ◌==◌, List}
use Rattle.std.proofs.Common.{length, get_or, slice_set, replicate, refl, ap, sym, ◌∙◌, arith}
use Rattle.std.proofs.lemmas.List.{get_or-set_same, get_or-set_other, get_or-replicate, get_or_read, length-set, length-replicate}
use Rattle.std.proofs.Math.ListN.{get_or-eq_default}
use Rattle.std.proofs.lemmas.Bool.{cases_eq, cases_lt, ne_eqb, eq-eqb, or_from, or_left, or_right}
use Rattle.atlas_search.specs.declared.masks.Mask.{Mask}
use Rattle.atlas_search.specs.declared.link.Link.{Link}
use Rattle.atlas_search.specs.Numbers.{no_slot}
use Rattle.atlas_search.specs.Masks.{is_marked_at}
use Rattle.atlas_search.specs.Tables.{no_link, head_of, is_used_at, IsTable}

-- What an index reads.
pub read-head : (heads : List Link) (k : ℕ) (e : Link) → k < length heads → e ≡ get_or heads k e → e ≡ head_of heads k
unfolding head_of
read-head heads k e within read = get_or_read heads k e within read no_link

module _ (heads : List Link) (k : ℕ) (e : Link) where
  pub head_of-same : k < length heads → head_of (slice_set heads k e) k ≡ e
  unfolding head_of
  head_of-same l = get_or-set_same heads k e no_link l

  pub head_of-other : (j : ℕ) → j ≢ k → head_of (slice_set heads k e) j ≡ head_of heads j
  unfolding head_of
  head_of-other j apart = get_or-set_other heads k j e no_link apart

-- Whether a link is a slot.
abbrev pub is_slot : Link → Bool
is_slot link = not (link.number == no_slot)

pub slot-is : (link : Link) → link.number ≢ no_slot → is_slot link ≡ true
slot-is link some = ap not (ne_eqb link.number no_slot some)

pub no_slot-is : (link : Link) → link.number ≡ no_slot → is_slot link ≡ false
no_slot-is link none = ap not (eq-eqb link.number no_slot none)

or_both : (a b c d : Bool) → a ≡ c → b ≡ d → (a || b) ≡ (c || d)
or_both a b c d p q = ap (λ t. t || b) p ∙ ap (λ t. c || t) q

or_none : (a b : Bool) → b ≡ false → a ≡ (a || b)
or_none true b e = refl
or_none false b e = sym e

-- The row and the column of a list by its number.

row-part : (i j k : ℕ) → j < 52 → 52 * i + j ≡ k → i ≡ k / 52
row-part i j k q h = omega (arith, q, h)

column-part : (i j k : ℕ) → j < 52 → 52 * i + j ≡ k → j ≡ k % 52
column-part i j k q h = omega (arith, q, h)

parts-differ : (i j k : ℕ) → 52 * i + j ≢ k → (i ≢ k / 52) ⊎ (j ≢ k % 52)
parts-differ i j k ne = elim (cases_eq i (k / 52)) [ inl e ↦ inr (λ h. ne (omega (arith, e, h))) | inr apart ↦ inl apart ]

-- A head is written.
module _ (heads : List Link) (rows : List Mask) (emptied k : ℕ) (e : Link) (is : IsTable heads rows emptied) (below : k < 2704) where
  abbrev new : List Link
  new = slice_set heads k e

  within : k < length heads
  within = omega (arith, is.count, below)

  used-same : is_used_at new k ≡ is_slot e
  used-same = ap is_slot (head_of-same heads k e within)

  used-other : (n : ℕ) → n ≢ k → is_used_at new n ≡ is_used_at heads n
  used-other n apart = ap is_slot (head_of-other heads k e n apart)

  used-any : is_slot e ≡ is_used_at heads k → (n : ℕ) → is_used_at new n ≡ is_used_at heads n
  used-any same n = elim (cases_eq n k) [
    | inl here ↦ ap (is_used_at new) here ∙ used-same ∙ same ∙ sym (ap (is_used_at heads) here)
    | inr apart ↦ used-other n apart
  ]

  -- The list stays as empty as it was.
  pub kept-table : is_slot e ≡ is_used_at heads k → IsTable new rows emptied
  kept-table same = record {
    count = length-set heads k e ∙ is.count;
    marked = λ i j p q. is.marked i j p q ∙ or_both _ _ _ _ (sym (used-any same (52 * i + j))) refl;
  }

  -- It is the one that was emptied last, and so is marked in any case.
  pub kept-mark : emptied ≡ k → IsTable new rows emptied
  kept-mark last = record {
    count = length-set heads k e ∙ is.count;
    marked = λ i j p q. is.marked i j p q ∙ elim (cases_eq (52 * i + j) k) [
      | inl here ↦ let same = eq-eqb (52 * i + j) emptied (here ∙ sym last) in or_right _ _ same ∙ sym (or_right _ _ same)
      | inr apart ↦ or_both _ _ _ _ (sym (used-other (52 * i + j) apart)) refl
    ];
  }

  -- It gets its first slot and is marked.
  pub marked-table : (rows' : List Mask) (i j : ℕ) → j < 52 → 52 * i + j ≡ k → is_slot e ≡ true
      → is_marked_at rows' i j ≡ true
      → ((a b : ℕ) → (a ≢ i) ⊎ (b ≢ j) → is_marked_at rows' a b ≡ is_marked_at rows a b) → IsTable new rows' emptied
  marked-table rows' i j l here some this others = record {
    count = length-set heads k e ∙ is.count;
    marked = λ a b p q. elim (cases_eq (52 * a + b) k) [
      | inl same ↦
          ap (λ n. is_marked_at rows' n b) (row-part a b k q same ∙ sym (row-part i j k l here))
          ∙ ap (is_marked_at rows' i) (column-part a b k q same ∙ sym (column-part i j k l here)) ∙ this
          ∙ sym (or_left _ _ (ap (is_used_at new) same ∙ used-same ∙ some))
      | inr ne ↦
          others a b (elim (cases_eq a i) [ inl r ↦ inr (λ h. ne (omega (arith, r, h, here))) | inr differ ↦ inl differ ])
          ∙ is.marked a b p q ∙ or_both _ _ _ _ (sym (used-other (52 * a + b) ne)) refl
    ];
  }

  -- It loses its last slot and stays marked; the one that did so before stays marked if it has a slot.
  module _ (used : is_used_at heads k ≡ true) (apart : emptied ≢ k) where
    emptied-table : (rows' : List Mask)
        → ((i j : ℕ) → i < 52 → j < 52 → 52 * i + j ≡ emptied → is_marked_at rows' i j ≡ is_used_at new emptied)
        → ((i j : ℕ) → i < 52 → j < 52 → 52 * i + j ≢ emptied → is_marked_at rows' i j ≡ is_marked_at rows i j)
        → IsTable new rows' k
    emptied-table rows' this others = record {
      count = length-set heads k e ∙ is.count;
      marked = λ i j p q. elim (cases_eq (52 * i + j) emptied) [
        | inl before ↦
            this i j p q before ∙ or_none (is_used_at new emptied) (52 * i + j == k) (ne_eqb _ _ (λ h. apart (sym before ∙ h)))
            ∙ ap (λ n. is_used_at new n || (52 * i + j == k)) (sym before)
        | inr ne ↦ others i j p q ne ∙ is.marked i j p q ∙ elim (cases_eq (52 * i + j) k) [
          | inl here ↦ or_left _ _ (ap (is_used_at heads) here ∙ used) ∙ sym (or_right _ _ (eq-eqb _ _ here))
          | inr differ ↦ or_both _ _ _ _ (sym (used-other (52 * i + j) differ)) (ne_eqb _ _ ne ∙ sym (ne_eqb _ _ differ))
        ]
      ];
    }

    -- There was none.
    pub first-emptied : 2704 ≤ emptied → IsTable new rows k
    first-emptied past = emptied-table rows (λ i j p q h. absurd (omega (arith, past, h, p, q))) (λ i j p q ne. refl)

    pub later-emptied : is_used_at new emptied ≡ true → IsTable new rows k
    later-emptied full =
        emptied-table rows (λ i j p q h. is.marked i j p q ∙ or_right _ _ (eq-eqb _ _ h) ∙ sym full) (λ i j p q ne. refl)

    pub unmarked-table : (rows' : List Mask) → is_used_at new emptied ≡ false
        → is_marked_at rows' (emptied / 52) (emptied % 52) ≡ false
        → ((i j : ℕ) → (i ≢ emptied / 52) ⊎ (j ≢ emptied % 52) → is_marked_at rows' i j ≡ is_marked_at rows i j)
        → IsTable new rows' k
    unmarked-table rows' empty this others =
        emptied-table rows'
        (λ i j p q h. ap (λ n. is_marked_at rows' n j) (row-part i j emptied q h)
        ∙ ap (is_marked_at rows' (emptied / 52)) (column-part i j emptied q h) ∙ this ∙ sym empty)
        (λ i j p q ne. others i j (parts-differ i j emptied ne))

-- ---- no list has a slot

pub head_of-blank : (k : ℕ) → head_of (replicate 2704 no_link) k ≡ record { number = no_slot }
unfolding head_of
head_of-blank k =
    elim (cases_lt k 2704) [
      | inl l ↦ get_or-replicate 2704 k no_link no_link l
      | inr g ↦
          let past : length (replicate 2704 no_link) ≤ k = omega (arith, length-replicate 2704 no_link) in
          get_or-eq_default (replicate 2704 no_link) no_link past
    ]

pub used-blank : (k : ℕ) → is_used_at (replicate 2704 no_link) k ≡ false
used-blank k = ap is_slot (head_of-blank k)

-- A head that is written as that of an empty list.
module _ (heads : List Link) (k : ℕ) (within : k < length heads) where
  pub blank-same : is_used_at (slice_set heads k no_link) k ≡ false
  blank-same = ap is_slot (head_of-same heads k no_link within)

  pub blank-kept : (j : ℕ) → is_used_at heads j ≡ false → is_used_at (slice_set heads k no_link) j ≡ false
  blank-kept j h = elim (cases_eq j k) [
    | inl here ↦ ap (is_used_at (slice_set heads k no_link)) here ∙ blank-same
    | inr apart ↦ ap is_slot (head_of-other heads k no_link j apart) ∙ h
  ]

-- Past the end there is no list.
pub used-past : (heads : List Link) (k : ℕ) → length heads ≤ k → is_used_at heads k ≡ false
unfolding head_of
used-past heads k past = ap is_slot (get_or-eq_default heads no_link past)

pub empty-table : (heads : List Link) (rows : List Mask) → length heads ≡ 2704
    → ((k : ℕ) → is_used_at heads k ≡ false) → ((i j : ℕ) → is_marked_at rows i j ≡ false) → IsTable heads rows 2704
empty-table heads rows long empty none = record {
  count = long;
  marked = λ i j p q. none i j ∙ sym (or_from _ _ (empty (52 * i + j)) (ne_eqb (52 * i + j) 2704 (λ h. omega (arith, h, p, q))));
}

pub blank-table : (rows : List Mask) → ((i j : ℕ) → is_marked_at rows i j ≡ false)
    → IsTable (replicate 2704 no_link) rows 2704
blank-table rows none = empty-table (replicate 2704 no_link) rows (length-replicate 2704 no_link) used-blank none
