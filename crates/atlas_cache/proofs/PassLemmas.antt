-- A walk from the oldest entry over blank ones.
use Rattle.std.proofs.Common.{ℕ, ◌+◌, ◌≤◌, ◌≡◌, true, false, eqb, List, [], ◌∷◌, ◌++◌, length, Option, None, Some, refl, sym, ap, ◌∙◌}
use Rattle.std.proofs.Common.{arith, append_assoc}
use Rattle.std.specs.List.{IsDistinct}
use Rattle.atlas_entries.specs.declared.entries.Entry.{Entry}
use Rattle.atlas_cache.specs.Caches.{entries_of, IsOldestLying}
use Rattle.atlas_entries.specs.Entries.{entry_at, is_blank, lying, numbers, without_number, AreBlank, EndsBlank, IsBeforeBlanks, IsNumber}
use Rattle.atlas_entries.specs.Orders.{oldest_of}
use Rattle.atlas_cache.proofs.BlankLemmas.{lying-past}
use Rattle.atlas_cache.proofs.RelocateLemmas.{without-at}
use Rattle.atlas_cache.proofs.WalkLemmas.{at-number, entries-append, numbers-append, no-length}

module _ {K : Type 0} where
  -- The entries up to one are still to be looked at; those that were used before it are blank.
  pub record Passed (es : List (ℕ × Entry K)) (last : Option ℕ) (count : ℕ) : Type 0 where
    pub newer : List (ℕ × Entry K)
    pub older : List (ℕ × Entry K)
    pub was : es ≡ newer ++ older
    pub next : last ≡ oldest_of (numbers newer)
    pub blank : AreBlank older
    pub counted : length newer + count ≤ length es

  pub longer : (xs ys : List (ℕ × Entry K)) → length xs ≤ length (xs ++ ys)
  longer [] ys = omega arith
  longer (x ∷ xs) ys = omega (arith, longer xs ys)

  pub none-passed : (es : List (ℕ × Entry K)) (next : Option ℕ) → IsBeforeBlanks next es → Passed es next 0
  none-passed es next b = record {
    newer = b.newer;
    older = b.older;
    was = b.was;
    next = b.last;
    blank = b.blank;
    counted = omega (arith, longer b.newer b.older, ap length b.was);
  }

  none-lie : (es : List (ℕ × Entry K)) → AreBlank es → lying (entries_of es) ≡ []
  none-lie [] blank = refl
  none-lie (x ∷ es) blank = lying-past x.1 (entries_of es) blank.0 ∙ none-lie es blank.1

  pub no-last : (xs : List (ℕ × Entry K)) → None ≡ oldest_of (numbers xs) → xs ≡ []
  no-last [] is = refl
  no-last (x ∷ []) is = absurd (let some : None ≡ Some x.0 = is in cc)
  no-last (x ∷ (y ∷ xs)) is = absurd (let none = no-last (y ∷ xs) is in cc)

  all-blank : (es newer older : List (ℕ × Entry K)) → es ≡ newer ++ older → newer ≡ [] → AreBlank older
      → lying (entries_of es) ≡ []
  all-blank es newer older was none blank = rw (was, none) (none-lie older blank)

  -- Where none is left, all are blank.
  pub passed-none : (es : List (ℕ × Entry K)) (count : ℕ) → Passed es None count → lying (entries_of es) ≡ []
  passed-none es count p = all-blank es p.newer p.older p.was (no-last p.newer p.next) p.blank

  pub passed-all : (es : List (ℕ × Entry K)) (next : Option ℕ) (count : ℕ) → Passed es next count → length es ≤ count
      → lying (entries_of es) ≡ []
  passed-all es next count p le =
      let counted = p.counted in
      all-blank es p.newer p.older p.was (no-length p.newer (omega (arith, counted, le))) p.blank

  -- A list and its last entry, with its number.
  pub record Last (n : ℕ) (xs : List (ℕ × Entry K)) : Type 0 where
    pub rest : List (ℕ × Entry K)
    pub entry : Entry K
    pub was : xs ≡ rest ++ (n, entry) ∷ []

  pub last-of : (n : ℕ) (xs : List (ℕ × Entry K)) → Some n ≡ oldest_of (numbers xs) → Last n xs
  last-of n [] is = absurd (let none : Some n ≡ None = is in cc)
  last-of n (x ∷ []) is = record {
    rest = [];
    entry = x.1;
    was = let num : x.0 ≡ n = (let h : Some n ≡ Some x.0 = is in cc) in ap (λ (m : ℕ). (m, x.1) ∷ []) num;
  }
  last-of n (x ∷ (y ∷ xs)) is =
      let more = last-of n (y ∷ xs) is in
      record { rest = x ∷ more.rest; entry = more.entry; was = ap (λ ys. x ∷ ys) more.was }

  -- The same, with the entry that is looked at.
  pub record Looked (es : List (ℕ × Entry K)) (n : ℕ) (e : Entry K) (count : ℕ) : Type 0 where
    pub newer : List (ℕ × Entry K)
    pub older : List (ℕ × Entry K)
    pub was : es ≡ newer ++ (n, e) ∷ older
    pub blank : AreBlank older
    pub counted : length newer + (count + 1) ≤ length es

  whole : (es : List (ℕ × Entry K)) (n count : ℕ) (p : Passed es (Some n) count) (l : Last n p.newer)
      → es ≡ l.rest ++ (n, l.entry) ∷ p.older
  whole es n count p l =
      p.was ∙ ap (λ xs. xs ++ p.older) l.was ∙ append_assoc l.rest ((n, l.entry) ∷ []) p.older

  found : (es : List (ℕ × Entry K)) (n count : ℕ) (p : Passed es (Some n) count) (l : Last n p.newer)
      → IsDistinct eqb (numbers es) → entry_at n es ≡ Some l.entry
  found es n count p l apart =
      let is = whole es n count p l in
      ap (entry_at n) is ∙ at-number l.rest n l.entry p.older (rw is at apart)

  pub next-number : (es : List (ℕ × Entry K)) (n count : ℕ) → Passed es (Some n) count → IsDistinct eqb (numbers es)
      → IsNumber n es
  next-number es n count p apart =
      let there = found es n count p (last-of n p.newer p.next) apart in rw there refl

  pub last-counted : (xs rest : List (ℕ × Entry K)) (x : ℕ × Entry K) → xs ≡ rest ++ x ∷ [] → length xs ≡ length rest + 1
  last-counted xs [] x is = ap length is
  last-counted xs (y ∷ rest) x is = omega (arith, ap length is, last-counted (rest ++ x ∷ []) rest x refl)

  pub looked : (es : List (ℕ × Entry K)) (n : ℕ) (e : Entry K) (count : ℕ) → Passed es (Some n) count
      → IsDistinct eqb (numbers es) → entry_at n es ≡ Some e → Looked es n e count
  looked es n e count p apart at =
      let l = last-of n p.newer p.next in
      let one : Some e ≡ Some l.entry = sym at ∙ found es n count p l apart in
      let same : l.entry ≡ e = cc in
      let counted = p.counted in
      record {
        newer = l.rest;
        older = p.older;
        was = whole es n count p l ∙ ap (λ (f : Entry K). l.rest ++ (n, f) ∷ p.older) same;
        blank = p.blank;
        counted = omega (arith, counted, last-counted p.newer l.rest (n, l.entry) l.was);
      }

  -- A blank entry is passed.
  pub passed-one : (es : List (ℕ × Entry K)) (n : ℕ) (e : Entry K) (next : Option ℕ) (count : ℕ)
      (l : Looked es n e count)
      → is_blank e ≡ true → next ≡ oldest_of (numbers l.newer) → Passed es next (count + 1)
  passed-one es n e next count l blank is = record {
    newer = l.newer;
    older = (n, e) ∷ l.older;
    was = l.was;
    next = is;
    blank = (blank, l.blank);
    counted = l.counted;
  }

  -- A blank entry can be marked.
  pub can-pass : (es : List (ℕ × Entry K)) (n : ℕ) (e : Entry K) (count : ℕ) → Looked es n e count → is_blank e ≡ true
      → EndsBlank n es
  can-pass es n e count l blank =
      record { newer = l.newer; older = (n, e) ∷ l.older; was = l.was; first = refl; blank = (blank, l.blank) }

  pub looked-numbers : (es : List (ℕ × Entry K)) (n : ℕ) (e : Entry K) (count : ℕ) (l : Looked es n e count)
      → numbers es ≡ numbers l.newer ++ n ∷ numbers l.older
  looked-numbers es n e count l = ap numbers l.was ∙ numbers-append l.newer (n, e) l.older

  pub entries-both : (xs ys : List (ℕ × Entry K)) → entries_of (xs ++ ys) ≡ entries_of xs ++ entries_of ys
  entries-both [] ys = refl
  entries-both (x ∷ xs) ys = ap (λ es. x.1 ∷ es) (entries-both xs ys)

  -- Another one is the oldest that lies on a page.
  pub oldest-looked : (es : List (ℕ × Entry K)) (n : ℕ) (e : Entry K) (count : ℕ) → Looked es n e count
      → IsDistinct eqb (numbers es) → entry_at n es ≡ Some e → is_blank e ≡ false → IsOldestLying n e es
  oldest-looked es n e count l apart at lies = record {
    at = at;
    newer = entries_of l.newer;
    older = entries_of l.older;
    was = ap entries_of l.was ∙ entries-append l.newer (n, e) l.older;
    others = ap (λ xs. entries_of (without_number n xs)) l.was
        ∙ ap entries_of (without-at n e l.newer l.older (rw l.was at apart)) ∙ entries-both l.newer l.older;
    lies = lies;
    blank = none-lie l.older l.blank;
  }
