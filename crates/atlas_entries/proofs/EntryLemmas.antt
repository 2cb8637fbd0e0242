-- Entries under their numbers: what becomes of them where the order or the list of what belongs to each number changes.
use Rattle.std.proofs.Common.{ℕ, zero, suc, ◌<◌, ◌≤◌, ◌≡◌, ◌⊎◌, inl, inr, Bool, true, false, cond, eqb, List, [], ◌∷◌, length, set}
use Rattle.std.proofs.Common.{Option, None, Some, is_some, refl, sym, ap, ◌∙◌, arith, slice_get, length-set, get_or-set_same}
use Rattle.std.proofs.Common.{get_or-set_other}
use Rattle.std.specs.Option.{option_map_or}
use Rattle.std.specs.List.{AllByRecursion, IsDistinct}
use Rattle.std.proofs.lemmas.Bool.{cases_eq, cases_lt, cond_both, cases_Bool, eqb-true, eqb-false, eq-eqb, ne_eqb, cond-true, cond-false}
use Rattle.std.proofs.lemmas.Bool.{false≢true}
use Rattle.std.proofs.lemmas.Map.Keys.{IsDistinct-cons}
use Rattle.std.proofs.lemmas.Option.{same_Some, none-some, slice_get-get_or, slice_get_past}
use Rattle.atlas_model.specs.declared.geometry.Rectangle.{Rectangle}
use Rattle.atlas_entries.specs.declared.entries.Entry.{Entry}
use Rattle.atlas_entries.specs.Entries.{IsNumber, entry_at, moved, number_of, numbers, without_number}
use Rattle.atlas_search.specs.Numbers.{occurs, same, without}
use Rattle.atlas_entries.specs.Tables.{numbered}
use Rattle.atlas_search.proofs.Occurrences.{same-self, same-ne}

module _ {A : Type 0} where
  pub option_is : (o : Option A) → (o ≡ None) ⊎ ((x : A) × (o ≡ Some x))
  option_is None = inl refl
  option_is (Some x) = inr (x, refl)

  -- An index within a list has an element.
  pub slice_get-within : (xs : List A) (k : ℕ) → k < length xs → (x : A) × (slice_get xs k ≡ Some x)
  slice_get-within [] k l = absurd (omega arith)
  slice_get-within (x ∷ xs) zero l = (x, refl)
  slice_get-within (x ∷ xs) (suc k) l = slice_get-within xs k (omega arith)

  pub slice_get-set_same : (xs : List A) (k : ℕ) (y : A) → k < length xs → slice_get (set xs k y) k ≡ Some y
  slice_get-set_same xs k y l =
      slice_get-get_or (set xs k y) k y (omega (arith, length-set xs k y)) ∙ ap Some (get_or-set_same xs k y y l)

  pub slice_get-set_other : (xs : List A) (k j : ℕ) (y : A) → (j ≡ k → ⊥) → slice_get (set xs k y) j ≡ slice_get xs j
  slice_get-set_other xs k j y ne =
      elim (cases_lt j (length xs)) [
        | inl l ↦ slice_get-get_or (set xs k y) j y (omega (arith, length-set xs k y)) ∙ ap Some (get_or-set_other xs k j y y ne) ∙
            sym (slice_get-get_or xs j y l)
        | inr l ↦ slice_get_past (set xs k y) j (omega (arith, length-set xs k y)) ∙ sym (slice_get_past xs j l)
      ]

-- The first of a list occurs in it.
pub first-occurs : (x : ℕ) (ns : List ℕ) → 0 < occurs x (x ∷ ns)
first-occurs x ns = omega (arith, same-self x)

module _ {K : Type 0} where
  -- Each number of the list has something that belongs to it.
  abbrev pub IsInside : (items : List (Entry K)) → List ℕ → Type 0
  IsInside items ns = (k : ℕ) → 0 < occurs k ns → k < length items

  module _ (items : List (Entry K)) where
    pub numbered-cons : (n : ℕ) (ns : List ℕ) (e : Entry K) → slice_get items n ≡ Some e
        → numbered items (n ∷ ns) ≡ (n, e) ∷ numbered items ns
    numbered-cons n ns e h =
        ap (λ o. option_map_or (λ x. (n, x) ∷ numbered items ns) o (numbered items ns)) h

    pub first-stored : (x : ℕ) (ns : List ℕ) → IsInside items (x ∷ ns) → (e : Entry K) × (slice_get items x ≡ Some e)
    first-stored x ns h = slice_get-within items x (h x (first-occurs x ns))

    pub inside-tail : (x : ℕ) (ns : List ℕ) → IsInside items (x ∷ ns) → IsInside items ns
    inside-tail x ns h = λ k l. h k (omega (arith, l))

    pub entry_at-numbered : (n : ℕ) (ns : List ℕ) → IsInside items ns → 0 < occurs n ns
        → entry_at n (numbered items ns) ≡ slice_get items n
    entry_at-numbered n [] h l = absurd (omega arith)
    entry_at-numbered n (x ∷ ns) h l =
        let w = first-stored x ns h in
        ap (entry_at n) (numbered-cons x ns w.0 w.1) ∙
        cond_both (eqb n x) (Some w.0) (entry_at n (numbered items ns)) (λ o. o ≡ slice_get items n)
        (λ t. sym w.1 ∙ ap (slice_get items) (sym (eqb-true n x t)))
        (λ f. entry_at-numbered n ns (inside-tail x ns h) (omega (arith, same-ne n x (eqb-false n x f), l)))

    pub entry_at-none : (n : ℕ) (ns : List ℕ) → occurs n ns ≡ 0 → entry_at n (numbered items ns) ≡ None
    entry_at-none n [] z = refl
    entry_at-none n (x ∷ ns) z =
        let rest : entry_at n (numbered items ns) ≡ None = entry_at-none n ns (omega (arith, z)) in
        let ne : n ≡ x → ⊥ = (λ q. omega (arith, same-self x, ap (λ v. same v x) q, z)) in
        elim (slice_get items x) as (λ o. entry_at n (option_map_or (λ e. (x, e) ∷ numbered items ns) o (numbered items ns)) ≡ None) [
          | None ↦ rest
          | Some e ↦ cond-false (eqb n x) (Some e) (entry_at n (numbered items ns)) (ne_eqb n x ne) ∙ rest
        ]

    -- Whatever has a number is in the order.
    pub number-occurs : (n : ℕ) (ns : List ℕ) → IsNumber n (numbered items ns) → 0 < occurs n ns
    number-occurs n ns h =
        elim (cases_eq (occurs n ns) 0) [
          | inl z ↦ absurd (false≢true (sym (ap is_some (entry_at-none n ns z)) ∙ h))
          | inr ne ↦ omega (arith, ne)
        ]

    pub numbered-without : (n : ℕ) (ns : List ℕ) → IsInside items ns
        → numbered items (without n ns) ≡ without_number n (numbered items ns)
    numbered-without n [] h = refl
    numbered-without n (x ∷ ns) h =
        let w = first-stored x ns h in
        let rest = numbered-without n ns (inside-tail x ns h) in
        let step : numbered items (without n (x ∷ ns)) ≡ without_number n ((x, w.0) ∷ numbered items ns) =
        elim (eqb n x) as (λ b. numbered items (cond b ns (x ∷ without n ns)) ≡ cond b (numbered items ns)
        ((x, w.0) ∷ without_number n (numbered items ns))) [
          | true ↦ refl
          | false ↦ numbered-cons x (without n ns) w.0 w.1 ∙ ap (λ r. (x, w.0) ∷ r) rest
        ] in
        step ∙ ap (without_number n) (sym (numbered-cons x ns w.0 w.1))

    pub numbers-numbered : (ns : List ℕ) → IsInside items ns → numbers (numbered items ns) ≡ ns
    numbers-numbered [] h = refl
    numbers-numbered (x ∷ ns) h =
        let w = first-stored x ns h in
        ap numbers (numbered-cons x ns w.0 w.1) ∙ ap (λ r. x ∷ r) (numbers-numbered ns (inside-tail x ns h))

    pub length-numbered : (ns : List ℕ) → IsInside items ns → length (numbered items ns) ≡ length ns
    length-numbered [] h = refl
    length-numbered (x ∷ ns) h =
        let w = first-stored x ns h in
        omega (arith, ap length (numbered-cons x ns w.0 w.1), length-numbered ns (inside-tail x ns h))

  -- What belongs to the numbers of a list is the same.
  pub numbered-same : (items new : List (Entry K)) (ns : List ℕ)
      → ((k : ℕ) → 0 < occurs k ns → slice_get new k ≡ slice_get items k) → numbered new ns ≡ numbered items ns
  numbered-same items new [] h = refl
  numbered-same items new (x ∷ ns) h =
      ap (λ o. option_map_or (λ e. (x, e) ∷ numbered new ns) o (numbered new ns)) (h x (first-occurs x ns)) ∙
      ap (λ r. option_map_or (λ e. (x, e) ∷ r) (slice_get items x) r) (numbered-same items new ns (λ k l. h k (omega (arith, l))))

  -- One entry of a list has another page, id and rectangle.
  pub numbered-moved : (items new : List (Entry K)) (n page id : ℕ) (rectangle : Rectangle) (e : Entry K) (ns : List ℕ)
      → IsInside items ns → slice_get items n ≡ Some e
      → slice_get new n ≡ Some (record e { page = page; id = id; rectangle = rectangle })
      → ((k : ℕ) → (k ≡ n → ⊥) → slice_get new k ≡ slice_get items k) → occurs n ns ≤ 1
      → numbered new ns ≡ moved n page id rectangle (numbered items ns)
  numbered-moved items new n page id rectangle e [] h s t o once = refl
  numbered-moved items new n page id rectangle e (x ∷ ns) h s t o once =
      let w = first-stored items x ns h in
      let step : numbered new (x ∷ ns) ≡ moved n page id rectangle ((x, w.0) ∷ numbered items ns) =
      elim (cases_eq n x) [
        | inl q ↦ (let same_entry : e ≡ w.0 = same_Some e w.0 (sym s ∙ ap (slice_get items) q ∙ w.1) in
            let at : slice_get new x ≡ Some (record w.0 { page = page; id = id; rectangle = rectangle }) = ap (slice_get new) (sym q) ∙ t ∙
            ap (λ (v : Entry K). Some (record v { page = page; id = id; rectangle = rectangle })) same_entry in
            let zero_rest : occurs n ns ≡ 0 = omega (arith, once, same-self x, ap (λ v. same v x) q) in
            numbered-cons new x ns (record w.0 { page = page; id = id; rectangle = rectangle }) at ∙
            ap (λ r. (x, record w.0 { page = page; id = id; rectangle = rectangle }) ∷ r)
            (numbered-same items new ns (λ k l. o k (λ p. omega (arith, l, zero_rest, ap (λ v. occurs v ns) p)))) ∙
            sym (cond-true (eqb n x) ((x, record w.0 { page = page; id = id; rectangle = rectangle }) ∷ numbered items ns)
            ((x, w.0) ∷ moved n page id rectangle (numbered items ns)) (eq-eqb n x q)))
        | inr ne ↦ numbered-cons new x ns w.0 (o x (λ q. ne (sym q)) ∙ w.1) ∙
            ap (λ r. (x, w.0) ∷ r)
            (numbered-moved items new n page id rectangle e ns (inside-tail items x ns h) s t o (omega (arith, once))) ∙
            sym (cond-false (eqb n x) ((x, record w.0 { page = page; id = id; rectangle = rectangle }) ∷ numbered items ns)
            ((x, w.0) ∷ moved n page id rectangle (numbered items ns)) (ne_eqb n x ne))
      ] in
      step ∙ ap (moved n page id rectangle) (sym (numbered-cons items x ns w.0 w.1))

  -- What belongs to each of them is what stands at its number.
  pub numbered-stored : (items : List (Entry K)) (ns : List ℕ)
      → AllByRecursion (λ x. slice_get items x.0 ≡ Some x.1) (numbered items ns)
  numbered-stored items [] = tt
  numbered-stored items (n ∷ ns) = by_option (slice_get items n) refl (numbered-stored items ns)
    where
      by_option : (o : Option (Entry K)) → slice_get items n ≡ o
          → AllByRecursion (λ x. slice_get items x.0 ≡ Some x.1) (numbered items ns)
          → AllByRecursion (λ x. slice_get items x.0 ≡ Some x.1)
          (option_map_or (λ e. (n, e) ∷ numbered items ns) o (numbered items ns))
      by_option None is rest = rest
      by_option (Some e) is rest = (is, rest)

  module _ (eq : K → K → Bool) (k : K) (items : List (Entry K)) where
    -- The number that is found is that of an entry with the key.
    pub number_of-some : (n : ℕ) (ns : List ℕ) → IsInside items ns → number_of eq k (numbered items ns) ≡ Some n
        → (0 < occurs n ns) × (e : Entry K) × (slice_get items n ≡ Some e) × (eq k e.key ≡ true)
    number_of-some n [] h q = absurd (none-some n q)
    number_of-some n (x ∷ ns) h q =
        let w = first-stored items x ns h in
        let at : cond (eq k w.0.key) (Some x) (number_of eq k (numbered items ns)) ≡ Some n =
        sym (ap (number_of eq k) (numbered-cons items x ns w.0 w.1)) ∙ q in
        elim (cases_Bool (eq k w.0.key)) [
          | inl t ↦ (let same_number : x ≡ n = same_Some x n (sym (cond-true (eq k w.0.key) (Some x) (number_of eq k (numbered items ns)) t)
              ∙ at) in
              (omega (arith, same-self x, ap (λ v. same v x) same_number), w.0, ap (slice_get items) (sym same_number) ∙ w.1, t))
          | inr f ↦ (let r = number_of-some n ns (inside-tail items x ns h)
              (sym (cond-false (eq k w.0.key) (Some x) (number_of eq k (numbered items ns)) f) ∙ at) in
              (omega (arith, r.0), r.1, r.2, r.3))
        ]

    -- Where none is found, no entry has the key.
    pub number_of-none : (n : ℕ) (e : Entry K) (ns : List ℕ) → IsInside items ns
        → number_of eq k (numbered items ns) ≡ None → 0 < occurs n ns → slice_get items n ≡ Some e → eq k e.key ≡ true
        → ⊥
    number_of-none n e [] h q l s t = omega (arith, l)
    number_of-none n e (x ∷ ns) h q l s t =
        let w = first-stored items x ns h in
        let at : cond (eq k w.0.key) (Some x) (number_of eq k (numbered items ns)) ≡ None =
        sym (ap (number_of eq k) (numbered-cons items x ns w.0 w.1)) ∙ q in
        elim (cases_Bool (eq k w.0.key)) [
          | inl y ↦ none-some x (sym at ∙ cond-true (eq k w.0.key) (Some x) (number_of eq k (numbered items ns)) y)
          | inr f ↦ elim (cases_eq n x) [
            | inl p ↦ (let same_entry : e ≡ w.0 = same_Some e w.0 (sym s ∙ ap (slice_get items) p ∙ w.1) in
                false≢true (sym f ∙ ap (λ (v : Entry K). eq k v.key) (sym same_entry) ∙ t))
            | inr ne ↦ number_of-none n e ns (inside-tail items x ns h)
                (sym (cond-false (eq k w.0.key) (Some x) (number_of eq k (numbered items ns)) f) ∙ at) (omega (arith, l, same-ne n x ne)) s
                t
          ]
        ]

-- Numbers that occur once are distinct.
pub absent-apart : (x : ℕ) (ns : List ℕ) → occurs x ns ≡ 0 → AllByRecursion (λ y. eqb x y ≡ false) ns
absent-apart x [] z = tt
absent-apart x (y ∷ ns) z = (
  ne_eqb x y (λ q. omega (arith, z, same-self y, ap (λ v. same v y) q)),
  absent-apart x ns (omega (arith, z)),
)

pub IsDistinct-from_once : (ns : List ℕ) → ((k : ℕ) → occurs k ns ≤ 1) → IsDistinct eqb ns
unfolding IsDistinct
IsDistinct-from_once [] once = tt
IsDistinct-from_once (x ∷ ns) once =
    IsDistinct-cons eqb x ns (absent-apart x ns (omega (arith, once x, same-self x))) (IsDistinct-from_once ns (λ k. omega (arith, once k)))
