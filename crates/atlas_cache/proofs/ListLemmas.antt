-- Lists of a cache's entries, with their numbers and without.
use Rattle.std.proofs.Common.{ℕ, ◌≤◌, ◌≡◌, inl, inr, Bool, false, eqb, List, [], ◌∷◌, ◌++◌, None, Some, refl, ap, arith, length}
use Rattle.std.proofs.lemmas.{Bool.{cases_Bool}, Bool.Decides.{eqb_tells}}
use Rattle.std.proofs.lemmas.Map.Keys.{IsDistinct-head, IsDistinct-tail}
use Rattle.std.specs.List.{AllByRecursion, IsDistinct}
use Rattle.atlas_entries.specs.declared.entries.Entry.{Entry}
use Rattle.atlas_cache.specs.Caches.{entries_of, entry_for, FramesFall}
use Rattle.atlas_entries.specs.Entries.{entry_at, number_of, numbers, without_number}
use Rattle.atlas_entries.specs.Orders.{oldest_of}

last-among : (m n : ℕ) (ns : List ℕ) → oldest_of ns ≡ Some n → AllByRecursion (λ y. eqb m y ≡ false) ns
    → eqb m n ≡ false
last-among m n [] is all = cc
last-among m n (x ∷ []) is all = let first = all.0 in cc
last-among m n (x ∷ (y ∷ ns)) is all = last-among m n (y ∷ ns) is all.1

module _ {K : Type 0} where
  pub falls-later : (f g : ℕ) (es : List (Entry K)) → f ≤ g → FramesFall f es → FramesFall g es
  falls-later f g [] le h = tt
  falls-later f g (e ∷ es) le h = let least = h.0 in (omega (arith, le, least), h.1)

  pub falls-without : (f : ℕ) (xs : List (Entry K)) (e : Entry K) (ys : List (Entry K)) → FramesFall f (xs ++ e ∷ ys)
      → FramesFall f (xs ++ ys)
  falls-without f [] e ys h = falls-later e.frame f ys h.0 h.1
  falls-without f (x ∷ xs) e ys h = (h.0, falls-without x.frame xs e ys h.1)

  pub falls-last : (f : ℕ) (xs : List (Entry K)) (e : Entry K) → FramesFall f (xs ++ e ∷ []) → e.frame ≤ f
  falls-last f [] e h = h.0
  falls-last f (x ∷ xs) e h = let here = h.0 in omega (arith, here, falls-last x.frame xs e h.1)

  -- Where the last is used in this frame, all are.
  pub falls-all : (f now : ℕ) (xs : List (Entry K)) (e : Entry K) → FramesFall f (xs ++ e ∷ []) → f ≤ now
      → e.frame ≡ now
      → AllByRecursion (λ x. x.frame ≡ now) (xs ++ e ∷ [])
  falls-all f now [] e h le same = (same, tt)
  falls-all f now (x ∷ xs) e h le same =
      let here = h.0 in
      let least = falls-last x.frame xs e h.1 in
      (omega (arith, here, least, le, same), falls-all x.frame now xs e h.1 (omega (arith, here, le)) same)

  -- An entry of a list, and the others.
  pub record Parts (e : Entry K) (es rest : List (Entry K)) : Type 0 where
    pub newer : List (Entry K)
    pub older : List (Entry K)
    pub was : es ≡ newer ++ e ∷ older
    pub rests : rest ≡ newer ++ older

  pub parts : (n : ℕ) (es : List (ℕ × Entry K)) (e : Entry K) → entry_at n es ≡ Some e
      → Parts e (entries_of es) (entries_of (without_number n es))
  parts n [] e at = absurd (let none : None ≡ Some e = at in cc)
  parts n (x ∷ es) e at = elim (eqb_tells n x.0) [
    | inl same ↦ let here = rw same.0 at at in record {
      newer = [];
      older = entries_of es;
      was = let is : x.1 ≡ e = cc in ap (λ y. y ∷ entries_of es) is;
      rests = rw same.0 refl;
    }
    | inr other ↦
        let there = rw other.0 at at in
        let more = parts n es e there in
        record {
          newer = x.1 ∷ more.newer;
          older = more.older;
          was = ap (λ ys. x.1 ∷ ys) more.was;
          rests = rw other.0 (ap (λ ys. x.1 ∷ ys) more.rests);
        }
  ]

  module _ (eq : K → K → Bool) (k : K) where
    number-among : (m n : ℕ) (es : List (ℕ × Entry K)) → number_of eq k es ≡ Some n
        → AllByRecursion (λ y. eqb m y ≡ false) (numbers es) → eqb m n ≡ false
    number-among m n [] is all = cc
    number-among m n (x ∷ es) is all = elim (cases_Bool (eq k x.1.key)) [
      | inl hit ↦ let here = rw hit at is in let first = all.0 in cc
      | inr miss ↦ let there = rw miss at is in number-among m n es there all.1
    ]

    pub found : (n : ℕ) (e : Entry K) (es : List (ℕ × Entry K)) → IsDistinct eqb (numbers es)
        → number_of eq k es ≡ Some n
        → entry_at n es ≡ Some e → entry_for eq k (entries_of es) ≡ Some e
    found n e [] apart is at = cc
    found n e (x ∷ es) apart is at = elim (cases_Bool (eq k x.1.key)) [
      | inl hit ↦ rw hit (elim (eqb_tells n x.0) [
        | inl same ↦ rw same.0 at at
        | inr other ↦ let here = rw hit at is in absurd (other.1 (let there : Some x.0 ≡ Some n = here in cc))
      ])
      | inr miss ↦ rw miss (elim (eqb_tells n x.0) [
        | inl same ↦
            let there = rw miss at is in
            let differs = number-among x.0 n es there (IsDistinct-head eqb x.0 (numbers es) apart) in
            absurd (let self = rw same.1 at same.0 in let differs2 = rw same.1 at differs in cc)
        | inr other ↦ let there = rw miss at is in let deep = rw other.0 at at in
            found n e es (IsDistinct-tail eqb x.0 (numbers es) apart) there deep
      ])
    ]

    pub not-found : (es : List (ℕ × Entry K)) → number_of eq k es ≡ None → entry_for eq k (entries_of es) ≡ None
    not-found [] is = refl
    not-found (x ∷ es) is = elim (cases_Bool (eq k x.1.key)) [
      | inl hit ↦ let here = rw hit at is in absurd (let some : Some x.0 ≡ None = here in cc)
      | inr miss ↦ let there = rw miss at is in rw miss (not-found es there)
    ]

    pub not-numbered : (es : List (ℕ × Entry K)) → entry_for eq k (entries_of es) ≡ None → number_of eq k es ≡ None
    not-numbered [] is = refl
    not-numbered (x ∷ es) is = elim (cases_Bool (eq k x.1.key)) [
      | inl hit ↦ let here = rw hit at is in absurd (let some : Some x.1 ≡ None = here in cc)
      | inr miss ↦ let there = rw miss at is in rw miss (not-numbered es there)
    ]

  -- The entry of the last number is the last.
  pub record IsLast (e : Entry K) (es rest : List (Entry K)) : Type 0 where
    pub was : es ≡ rest ++ e ∷ []

  pub last : (n : ℕ) (e : Entry K) (es : List (ℕ × Entry K)) → IsDistinct eqb (numbers es)
      → oldest_of (numbers es) ≡ Some n
      → entry_at n es ≡ Some e → IsLast e (entries_of es) (entries_of (without_number n es))
  last n e [] apart is at = absurd (let none : None ≡ Some e = at in cc)
  last n e (x ∷ []) apart is at = elim (eqb_tells n x.0) [
    | inl same ↦ let here = rw same.0 at at in record { was = rw same.0 (let is_e : x.1 ≡ e = cc in ap (λ y. y ∷ []) is_e) }
    | inr other ↦ absurd (other.1 (let there : Some x.0 ≡ Some n = is in cc))
  ]
  last n e (x ∷ (y ∷ es)) apart is at = elim (eqb_tells n x.0) [
    | inl same ↦
        let differs = last-among x.0 n (numbers (y ∷ es)) is (IsDistinct-head eqb x.0 (numbers (y ∷ es)) apart) in
        absurd (let self = rw same.1 at same.0 in let differs2 = rw same.1 at differs in cc)
    | inr other ↦
        let deep = rw other.0 at at in
        record { was = rw other.0 (ap (λ zs. x.1 ∷ zs) (last n e (y ∷ es) (IsDistinct-tail eqb x.0 (numbers (y ∷ es)) apart) is deep).was) }
  ]

  pub none-last : (es : List (ℕ × Entry K)) → oldest_of (numbers es) ≡ None → entries_of es ≡ []
  none-last [] is = refl
  none-last (x ∷ []) is = absurd (let some : Some x.0 ≡ None = is in cc)
  none-last (x ∷ (y ∷ es)) is = absurd (let none = none-last (y ∷ es) is in cc)

  pub none-listed : (es : List (ℕ × Entry K)) → entries_of es ≡ [] → es ≡ []
  none-listed [] is = refl
  none-listed (x ∷ es) is = absurd (let some : x.1 ∷ entries_of es ≡ [] = is in cc)

  pub length-listed : (es : List (ℕ × Entry K)) → length (entries_of es) ≡ length es
  length-listed [] = refl
  length-listed (x ∷ es) = omega (arith, length-listed es)
