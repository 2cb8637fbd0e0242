-- The heads of marked lists, written one after another as those of empty lists.
use Rattle.std.proofs.Common.{◌≡◌, ℕ, ◌+◌, ◌*◌, ◌/◌, ◌%◌, ◌<◌, ◌∙◌, inl, inr, true, false, List, length, slice_set, sym}
use Rattle.std.proofs.Common.{ap, arith}
use Rattle.std.proofs.lemmas.Bool.{cases_lt, true≢false, false_from_ne_true, cases_Bool}
use Rattle.std.proofs.lemmas.List.{length-set}
use Rattle.atlas_search.specs.declared.masks.Mask.{Mask}
use Rattle.atlas_search.specs.declared.link.Link.{Link}
use Rattle.atlas_search.specs.Masks.{has, IsMarked, is_marked_at}
use Rattle.atlas_search.specs.Tables.{no_link, is_used_at}
use Rattle.atlas_search.proofs.SearchLemmas.AddedLines.{IsRest, rest-cases}
use Rattle.atlas_search.proofs.SearchLemmas.TableHeads.{blank-same, blank-kept, used-past}

-- Of these columns those that aren't left are empty, and what was empty is.
pub record IsBlanked (old new : List Link) (row : ℕ) (columns left : Mask) : Type 0 where
  pub long : length new ≡ 2704
  pub blank : (j : ℕ) → IsMarked columns j → has left j ≡ false → is_used_at new (52 * row + j) ≡ false
  pub kept : (k : ℕ) → is_used_at old k ≡ false → is_used_at new k ≡ false

pub blanking-begins : (heads : List Link) (row : ℕ) (columns : Mask) → length heads ≡ 2704
    → IsBlanked heads heads row columns columns
blanking-begins heads row columns long = record {
  long = long;
  blank = λ j h none. absurd (true≢false (sym h ∙ none));
  kept = λ k h. h;
}

pub blanking-goes_on : (old new : List Link) (row k : ℕ) (columns left rest : Mask) → IsRest left rest k
    → 52 * row + k < 2704 → IsBlanked old new row columns left
    → IsBlanked old (slice_set new (52 * row + k) no_link) row columns rest
blanking-goes_on old new row k columns left rest is below b =
    let at = 52 * row + k in
    let within : at < length new = omega (arith, b.long, below) in
    record {
      long = length-set new at no_link ∙ b.long;
      blank = λ j h none. elim (rest-cases left rest k j is none) [
        | inl before ↦ blank-kept new at within (52 * row + j) (b.blank j h before)
        | inr here ↦ ap (λ n. is_used_at (slice_set new at no_link) (52 * row + n)) here ∙ blank-same new at within
      ];
      kept = λ n h. blank-kept new at within n (b.kept n h);
    }

-- The lists of the rows that aren't left are empty, and what was empty is.
pub record AreBlanked (old new : List Link) (left : Mask) : Type 0 where
  pub long : length new ≡ 2704
  pub blank : (i j : ℕ) → i < 52 → j < 52 → has left i ≡ false → is_used_at new (52 * i + j) ≡ false
  pub kept : (k : ℕ) → is_used_at old k ≡ false → is_used_at new k ≡ false

-- Each list with a slot is marked.
abbrev pub AreUsedMarked : List Link → List Mask → Type 0
AreUsedMarked heads rows =
    (i j : ℕ) → i < 52 → j < 52 → is_used_at heads (52 * i + j) ≡ true → is_marked_at rows i j ≡ true

pub rows-begin-blank : (heads : List Link) (rows : List Mask) (used : Mask) → length heads ≡ 2704
    → AreUsedMarked heads rows → ((i j : ℕ) → is_marked_at rows i j ≡ true → IsMarked used i) → AreBlanked heads heads used
rows-begin-blank heads rows used long marked each = record {
  long = long;
  blank = λ i j p q none.
      false_from_ne_true (is_used_at heads (52 * i + j)) (λ u. true≢false (sym (each i j (marked i j p q u)) ∙ none));
  kept = λ k h. h;
}

pub rows-go_on-blank : (old new newer : List Link) (rows : List Mask) (row : ℕ) (columns left rest : Mask)
    → AreUsedMarked old rows → IsRest left rest row
    → ((j : ℕ) → has columns j ≡ is_marked_at rows row j) → AreBlanked old new left → length newer ≡ 2704
    → ((j : ℕ) → IsMarked columns j → is_used_at newer (52 * row + j) ≡ false)
    → ((k : ℕ) → is_used_at new k ≡ false → is_used_at newer k ≡ false) → AreBlanked old newer rest
rows-go_on-blank old new newer rows row columns left rest marked is same b long blank kept = record {
  long = long;
  blank = λ i j p q none. elim (rest-cases left rest row i is none) [
    | inl before ↦ kept (52 * i + j) (b.blank i j p q before)
    | inr here ↦ elim (cases_Bool (is_used_at old (52 * i + j))) [
      | inl u ↦
          ap (λ n. is_used_at newer (52 * n + j)) here
          ∙ blank j (same j ∙ ap (λ n. is_marked_at rows n j) (sym here) ∙ marked i j p q u)
      | inr e ↦ kept (52 * i + j) (b.kept (52 * i + j) e)
    ]
  ];
  kept = λ k h. kept k (b.kept k h);
}

pub rows-end-blank : (old new : List Link) (left : Mask) → ((i : ℕ) → has left i ≡ false) → AreBlanked old new left
    → (k : ℕ) → is_used_at new k ≡ false
rows-end-blank old new left none b k = elim (cases_lt k 2704) [
  | inl l ↦
      ap (is_used_at new) (omega arith)
      ∙ b.blank (k / 52) (k % 52) (omega (arith, l)) (omega arith) (none (k / 52))
  | inr past ↦ used-past new k (omega (arith, b.long, past))
]
