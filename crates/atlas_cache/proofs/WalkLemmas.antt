-- Entries in their order, found by their numbers.
use Rattle.std.proofs.Common.{ℕ, ◌≡◌, inl, inr, false, eqb, List, [], ◌∷◌, ◌++◌, None, Some, length, refl, sym, ap, ◌∙◌}
use Rattle.std.proofs.Common.{append_assoc, arith}
use Rattle.std.proofs.lemmas.{Bool.Decides.{eqb_tells}}
use Rattle.std.proofs.lemmas.Map.Keys.{IsDistinct-head, IsDistinct-tail}
use Rattle.std.specs.List.{IsDistinct}
use Rattle.atlas_entries.specs.declared.entries.Entry.{Entry}
use Rattle.atlas_cache.specs.Caches.{entries_of}
use Rattle.atlas_entries.specs.Entries.{entry_at, numbers, without_number}
use Rattle.atlas_entries.specs.Orders.{newest_of}
use Rattle.atlas_cache.specs.Walking.{first_entry, last_entry, IsNext}
use Rattle.atlas_entries.proofs.AppendedLists.{each-here}

module _ {K : Type 0} where
  pub first-none : (es : List (ℕ × Entry K)) → newest_of (numbers es) ≡ None → first_entry (entries_of es) ≡ None
  first-none [] is = refl
  first-none (x ∷ es) is = absurd (let some : Some x.0 ≡ None = is in cc)

  pub first-some : (n : ℕ) (e : Entry K) (es : List (ℕ × Entry K)) → newest_of (numbers es) ≡ Some n
      → entry_at n es ≡ Some e
      → first_entry (entries_of es) ≡ Some e
  first-some n e [] is at = absurd (let none : None ≡ Some n = is in cc)
  first-some n e (x ∷ es) is at = elim (eqb_tells n x.0) [
    | inl same ↦ rw same.0 at at
    | inr other ↦ absurd (other.1 (let some : Some x.0 ≡ Some n = is in cc))
  ]

  pub first-rest : (n : ℕ) (e : Entry K) (es : List (ℕ × Entry K)) → newest_of (numbers es) ≡ Some n
      → entry_at n es ≡ Some e
      → entries_of es ≡ e ∷ entries_of (without_number n es)
  first-rest n e [] is at = absurd (let none : None ≡ Some n = is in cc)
  first-rest n e (x ∷ es) is at = elim (eqb_tells n x.0) [
    | inl same ↦ let here = rw same.0 at at in rw same.0 (let is_e : x.1 ≡ e = cc in ap (λ y. y ∷ entries_of es) is_e)
    | inr other ↦ absurd (other.1 (let some : Some x.0 ≡ Some n = is in cc))
  ]

  pub last-some : (xs : List (Entry K)) (e : Entry K) → last_entry (xs ++ e ∷ []) ≡ Some e
  last-some [] e = refl
  last-some (x ∷ []) e = refl
  last-some (x ∷ (y ∷ xs)) e = last-some (y ∷ xs) e

  -- An entry of a list with its number, and what stands before and after.
  pub record Split (n : ℕ) (e : Entry K) (es : List (ℕ × Entry K)) : Type 0 where
    pub newer : List (ℕ × Entry K)
    pub older : List (ℕ × Entry K)
    pub was : es ≡ newer ++ (n, e) ∷ older

  pub split : (n : ℕ) (e : Entry K) (es : List (ℕ × Entry K)) → entry_at n es ≡ Some e → Split n e es
  split n e [] at = absurd (let none : None ≡ Some e = at in cc)
  split n e (x ∷ es) at = elim (eqb_tells n x.0) [
    | inl same ↦ let here = rw same.0 at at in record {
      newer = [];
      older = es;
      was = let is : x.1 ≡ e = cc in let num : x.0 ≡ n = sym same.1 in ap (λ (m : ℕ). (m, x.1) ∷ es) num ∙
          ap (λ (f : Entry K). (n, f) ∷ es) is;
    }
    | inr other ↦
        let there = rw other.0 at at in
        let more = split n e es there in
        record { newer = x ∷ more.newer; older = more.older; was = ap (λ ys. x ∷ ys) more.was }
  ]

  pub numbers-append : (xs : List (ℕ × Entry K)) (x : ℕ × Entry K) (ys : List (ℕ × Entry K))
      → numbers (xs ++ x ∷ ys) ≡ numbers xs ++ x.0 ∷ numbers ys
  numbers-append [] x ys = refl
  numbers-append (z ∷ xs) x ys = ap (λ ns. z.0 ∷ ns) (numbers-append xs x ys)

  pub entries-append : (xs : List (ℕ × Entry K)) (x : ℕ × Entry K) (ys : List (ℕ × Entry K))
      → entries_of (xs ++ x ∷ ys) ≡ entries_of xs ++ x.1 ∷ entries_of ys
  entries-append [] x ys = refl
  entries-append (z ∷ xs) x ys = ap (λ es. z.1 ∷ es) (entries-append xs x ys)

  -- Where no number stands twice, that of an entry leads to it.
  pub at-number : (xs : List (ℕ × Entry K)) (m : ℕ) (f : Entry K) (ys : List (ℕ × Entry K))
      → IsDistinct eqb (numbers (xs ++ (m, f) ∷ ys))
      → entry_at m (xs ++ (m, f) ∷ ys) ≡ Some f
  at-number [] m f ys apart = elim (eqb_tells m m) [
    | inl same ↦ rw same.0 refl
    | inr other ↦ absurd (other.1 refl)
  ]
  at-number (x ∷ xs) m f ys apart = elim (eqb_tells m x.0) [
    | inl same ↦
        let all = IsDistinct-head eqb x.0 (numbers (xs ++ (m, f) ∷ ys)) apart in
        let here = each-here (λ y. eqb x.0 y ≡ false) (numbers xs) m (numbers ys) (rw (numbers-append xs (m, f) ys) at all) in
        absurd (let self = rw same.1 at same.0 in let differs = rw same.1 at here in cc)
    | inr other ↦ rw other.0 (at-number xs m f ys (IsDistinct-tail eqb x.0 (numbers (xs ++ (m, f) ∷ ys)) apart))
  ]

  module _ (n : ℕ) (e : Entry K) (es : List (ℕ × Entry K)) (p : Split n e es) where
    pub numbers-split : numbers es ≡ numbers p.newer ++ n ∷ numbers p.older
    numbers-split = ap numbers p.was ∙ numbers-append p.newer (n, e) p.older

    entries-split : entries_of es ≡ entries_of p.newer ++ e ∷ entries_of p.older
    entries-split = ap entries_of p.was ∙ entries-append p.newer (n, e) p.older

    pub no-next : newest_of (numbers p.older) ≡ None → IsNext e None (entries_of es)
    no-next none = record {
      newer = entries_of p.newer;
      older = entries_of p.older;
      was = entries-split;
      first = sym (first-none p.older none);
    }

    pub next-some : (m : ℕ) (f : Entry K) → IsDistinct eqb (numbers es) → newest_of (numbers p.older) ≡ Some m
        → entry_at m es ≡ Some f
        → IsNext e (Some f) (entries_of es)
    next-some m f apart is at = record {
      newer = entries_of p.newer;
      older = entries_of p.older;
      was = entries-split;
      first = go p.older p.was is;
    }
      where
        go : (older : List (ℕ × Entry K)) → es ≡ p.newer ++ (n, e) ∷ older → newest_of (numbers older) ≡ Some m
            → Some f ≡ first_entry (entries_of older)
        go [] was none = absurd (let some : None ≡ Some m = none in cc)
        go (x ∷ rest) was some =
            let num : x.0 ≡ m = (let h : Some x.0 ≡ Some m = some in cc) in
            let whole : es ≡ (p.newer ++ (n, e) ∷ []) ++ (m, x.1) ∷ rest =
            was ∙ ap (λ (k : ℕ). p.newer ++ (n, e) ∷ (k, x.1) ∷ rest) num ∙ sym (append_assoc p.newer ((n, e) ∷ []) ((m, x.1) ∷ rest)) in
            let there = at-number (p.newer ++ (n, e) ∷ []) m x.1 rest (rw whole at apart) in
            sym at ∙ rw whole there

-- A list whose first has no number is empty.
pub no-first : {K : Type 0} (rest : List (ℕ × Entry K)) → None ≡ newest_of (numbers rest) → rest ≡ []
no-first [] is = refl
no-first (x ∷ xs) is = absurd (let some : None ≡ Some x.0 = is in cc)

pub no-length : {K : Type 0} (rest : List (ℕ × Entry K)) → length rest ≡ 0 → rest ≡ []
no-length [] is = refl
no-length (x ∷ xs) is = absurd (omega (arith, is))
