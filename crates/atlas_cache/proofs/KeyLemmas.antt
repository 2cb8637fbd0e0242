-- The entry of a key, where entries come and go.
use Rattle.std.proofs.Common.{ℕ, ◌≡◌, inl, inr, Bool, true, false, cond, List, [], ◌∷◌, ◌++◌, None, Some, option_map, refl, sym, ap, ◌∙◌}
use Rattle.std.proofs.lemmas.{Bool.{cases_Bool}}
use Rattle.std.proofs.lemmas.Map.Keys.{IsDistinct-head, IsDistinct-tail}
use Rattle.std.specs.List.{AllByRecursion, IsDistinct}
use Rattle.std.specs.Cmp.{IsEquivalence}
use Rattle.atlas_entries.specs.declared.entries.Entry.{Entry}
use Rattle.atlas_cache.specs.Caches.{entries_of, entry_for, HaveOwnKeys}
use Rattle.atlas_entries.specs.Entries.{keys}
use Rattle.atlas_entries.proofs.AppendedLists.{each-here, each-without}

module _ {K : Type 0} (eq : K → K → Bool) where
  differ : (k : K) (es : List (ℕ × Entry K)) → AllByRecursion (λ y. eq k y ≡ false) (keys es)
      → AllByRecursion (λ f. eq k f.key ≡ false) (entries_of es)
  differ k [] h = tt
  differ k (e ∷ es) h = (h.0, differ k es h.1)

  pub own_keys : (es : List (ℕ × Entry K)) → IsDistinct eq (keys es) → HaveOwnKeys eq (entries_of es)
  own_keys [] h = tt
  own_keys (e ∷ es) h =
      (differ e.1.key es (IsDistinct-head eq e.1.key (keys es) h), own_keys es (IsDistinct-tail eq e.1.key (keys es) h))

  pub own_without : (xs : List (Entry K)) (e : Entry K) (ys : List (Entry K)) → HaveOwnKeys eq (xs ++ e ∷ ys)
      → HaveOwnKeys eq (xs ++ ys)
  own_without [] e ys h = h.1
  own_without (x ∷ xs) e ys h = (each-without (λ f. eq x.key f.key ≡ false) xs e ys h.0, own_without xs e ys h.1)

  other_found : (q : K) (xs : List (Entry K)) (e : Entry K) (ys : List (Entry K)) → eq q e.key ≡ false
      → entry_for eq q (xs ++ e ∷ ys) ≡ entry_for eq q (xs ++ ys)
  other_found q [] e ys apart = rw apart refl
  other_found q (x ∷ xs) e ys apart = ap (λ o. cond (eq q x.key) (Some x) o) (other_found q xs e ys apart)

  pub found_named : (k : K) (e : Entry K) (es : List (Entry K)) → entry_for eq k es ≡ Some e → eq k e.key ≡ true
  found_named k e [] is = absurd (let none : None ≡ Some e = is in cc)
  found_named k e (x ∷ es) is = elim (cases_Bool (eq k x.key)) [
    | inl hit ↦
        let here = rw hit at is in
        let same : Some x ≡ Some e = here in
        let x_e : x ≡ e = cc in
        ap (λ (y : Entry K). eq k y.key) (sym x_e) ∙ hit
    | inr miss ↦ let there = rw miss at is in found_named k e es there
  ]

  module _ (laws : IsEquivalence eq) where
    others_differ : (xs : List (Entry K)) (e : Entry K) (ys : List (Entry K)) → HaveOwnKeys eq (xs ++ e ∷ ys)
        → AllByRecursion (λ f. eq e.key f.key ≡ false) (xs ++ ys)
    others_differ [] e ys h = h.0
    others_differ (x ∷ xs) e ys h =
        (laws.symm e.key x.key ∙ each-here (λ f. eq x.key f.key ≡ false) xs e ys h.0, others_differ xs e ys h.1)

    none_found : (e : Entry K) (q : K) → eq e.key q ≡ true → (es : List (Entry K))
        → AllByRecursion (λ f. eq e.key f.key ≡ false) es
        → entry_for eq q es ≡ None
    none_found e q same [] h = refl
    none_found e q same (f ∷ es) h =
        let apart = sym (laws.congr e.key q f.key same) ∙ h.0 in rw apart (none_found e q same es h.1)

    -- Without an entry its key has none, and the others have theirs.
    pub gone : (xs : List (Entry K)) (e : Entry K) (ys : List (Entry K)) → HaveOwnKeys eq (xs ++ e ∷ ys) → (q : K)
        → entry_for eq q (xs ++ ys) ≡ cond (eq e.key q) None (entry_for eq q (xs ++ e ∷ ys))
    gone xs e ys h q = elim (cases_Bool (eq e.key q)) [
      | inl same ↦ rw same (none_found e q same (xs ++ ys) (others_differ xs e ys h))
      | inr apart ↦ rw apart (sym (other_found q xs e ys (laws.symm q e.key ∙ apart)))
    ]

    pub here : (xs : List (Entry K)) (e : Entry K) (ys : List (Entry K)) → HaveOwnKeys eq (xs ++ e ∷ ys) → (q : K)
        → eq e.key q ≡ true → entry_for eq q (xs ++ e ∷ ys) ≡ Some e
    here [] e ys h q same = let at = laws.symm q e.key ∙ same in rw at refl
    here (x ∷ xs) e ys h q same =
        let x_e = each-here (λ f. eq x.key f.key ≡ false) xs e ys h.0 in
        let apart = sym (laws.congr e.key q x.key same) ∙ (laws.symm e.key x.key ∙ x_e) in
        rw apart (here xs e ys h.1 q same)

    -- An entry that comes first is that of its key.
    pub first : (e : Entry K) (es : List (Entry K)) (q : K)
        → entry_for eq q (e ∷ es) ≡ cond (eq e.key q) (Some e) (entry_for eq q es)
    first e es q = rw (laws.symm q e.key) refl

    -- Where an entry comes to the front, each key keeps its own but for the frame.
    pub fronted : {X : Type 0} (show : Entry K → X) (e f : Entry K) → f.key ≡ e.key → show f ≡ show e
        → (xs ys : List (Entry K)) → HaveOwnKeys eq (xs ++ e ∷ ys) → (q : K)
        → option_map show (entry_for eq q (f ∷ (xs ++ ys))) ≡ option_map show (entry_for eq q (xs ++ e ∷ ys))
    fronted show e f named shows xs ys h q = elim (cases_Bool (eq e.key q)) [
      | inl same ↦
          let at = ap (λ k. eq q k) named ∙ (laws.symm q e.key ∙ same) in
          rw (at, here xs e ys h q same) (ap Some shows)
      | inr apart ↦
          let off = laws.symm q e.key ∙ apart in
          let at = ap (λ k. eq q k) named ∙ off in
          rw (at, other_found q xs e ys off) refl
    ]

    differ_named : (e : Entry K) (k : K) → e.key ≡ k → (es : List (Entry K)) → entry_for eq k es ≡ None
        → AllByRecursion (λ f. eq e.key f.key ≡ false) es
    differ_named e k named [] none = tt
    differ_named e k named (f ∷ es) none = elim (cases_Bool (eq k f.key)) [
      | inl same ↦ let found = rw same at none in absurd (let some : Some f ≡ None = found in cc)
      | inr apart ↦ let rest = rw apart at none in (rw named apart, differ_named e k named es rest)
    ]
