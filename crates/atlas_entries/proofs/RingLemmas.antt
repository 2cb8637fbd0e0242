-- Entries leave and join a ring of links.
use Rattle.std.proofs.Common.{ℕ, ◌<◌, ◌≤◌, ◌≡◌, List, [], ◌∷◌, refl, sym, ap, ◌∙◌, ◌⊎◌, inl, inr, arith, length, eqb, zero, suc, Some}
use Rattle.std.proofs.lemmas.Bool.{cases_eq, cond_both, eqb-true, eqb-false, eq-eqb, ne_eqb, cond-true, cond-false}
use Rattle.atlas_entries.specs.Orders.{oldest_of}
use Rattle.atlas_search.specs.Numbers.{same, occurs, without}
use Rattle.atlas_search.proofs.Occurrences.{same-self, same-ne, ne-from_occurs}
use Rattle.atlas_entries.specs.Rings.{RunsThrough, RunsForward, line, at_once, no_entry}

pub at_once-here : (x y : ℕ) (f : ℕ → ℕ) (k : ℕ) → k ≡ x → at_once x y f k ≡ y
at_once-here x y f k e = cond-true (eqb k x) y (f k) (eq-eqb k x e)

pub at_once-there : (x y : ℕ) (f : ℕ → ℕ) (k : ℕ) → (k ≡ x → ⊥) → at_once x y f k ≡ f k
at_once-there x y f k ne = cond-false (eqb k x) y (f k) (ne_eqb k x ne)

-- A chain stands where its members' links are the same.
pub RunsThrough-same : (nx pv mx qv : ℕ → ℕ) (b : ℕ) (xs : List ℕ) → mx b ≡ nx b
    → ((k : ℕ) → 0 < occurs k xs → mx k ≡ nx k) → ((k : ℕ) → 0 < occurs k xs → qv k ≡ pv k) → qv no_entry ≡ pv no_entry
    → RunsThrough nx pv b xs → RunsThrough mx qv b xs
RunsThrough-same nx pv mx qv b [] eb en ep ez h = (eb ∙ h.0, ez ∙ h.1)
RunsThrough-same nx pv mx qv b (x ∷ xs) eb en ep ez h =
    let here : 0 < occurs x (x ∷ xs) = omega (arith, same-self x) in (
      eb ∙ h.0,
      ep x here ∙ h.1,
      RunsThrough-same nx pv mx qv x xs (en x here) (λ k l. en k (omega (arith, l))) (λ k l. ep k (omega (arith, l))) ez h.2,
    )

-- The links run through the chain forwards.
pub line-RunsThrough : (nx pv : ℕ → ℕ) (b at : ℕ) (xs : List ℕ) → RunsThrough nx pv b xs → at ≡ nx b
    → line (length xs) nx at ≡ xs
line-RunsThrough nx pv b at [] h e = refl
line-RunsThrough nx pv b at (x ∷ xs) h e =
    let a : at ≡ x = e ∙ h.0 in
    rw a (ap (λ ys. x ∷ ys) (line-RunsThrough nx pv x (nx x) xs h.2 refl))

pub length-line : (n : ℕ) (nx : ℕ → ℕ) (at : ℕ) → length (line n nx at) ≡ n
length-line zero nx at = refl
length-line (suc n) nx at = omega (arith, length-line n nx (nx at))

-- What follows a member is a member, or the end.
pub next-in_chain : (nx pv : ℕ → ℕ) (b i : ℕ) (xs : List ℕ) → RunsThrough nx pv b xs → 0 < occurs i xs
    → (nx i ≡ no_entry) ⊎ (0 < occurs (nx i) xs)
next-in_chain nx pv b i [] h l = absurd (omega arith)
next-in_chain nx pv b i (x ∷ []) h l =
    elim (cases_eq i x) [ inl e ↦ inl (ap nx e ∙ h.2.0) | inr ne ↦ absurd (omega (arith, same-ne i x ne)) ]
next-in_chain nx pv b i (x ∷ (y ∷ ys)) h l =
    elim (cases_eq i x) [
      | inl e ↦ inr (let n : nx i ≡ y = ap nx e ∙ h.2.0 in omega (arith, same-self y, ap (λ v. occurs v (x ∷ (y ∷ ys))) n))
      | inr ne ↦ elim (next-in_chain nx pv x i (y ∷ ys) h.2 (omega (arith, same-ne i x ne)))
          [ inl z ↦ inl z | inr m ↦ inr (omega (arith, m)) ]
    ]

-- What comes before a member is a member, or what comes before the chain.
pub previous-in_chain : (nx pv : ℕ → ℕ) (b i : ℕ) (xs : List ℕ) → RunsThrough nx pv b xs → 0 < occurs i xs
    → (pv i ≡ b) ⊎ (0 < occurs (pv i) xs)
previous-in_chain nx pv b i [] h l = absurd (omega arith)
previous-in_chain nx pv b i (x ∷ xs) h l =
    elim (cases_eq i x) [
      | inl e ↦ inl (ap pv e ∙ h.1)
      | inr ne ↦ inr (elim (previous-in_chain nx pv x i xs h.2 (omega (arith, same-ne i x ne))) [
        | inl z ↦ omega (arith, same-self x, ap (λ v. same v x) z)
        | inr m ↦ omega (arith, m)
      ])
    ]

-- mx and qv are nx and pv once the neighbours of i let it go.
pub record IsUnlinked (nx pv mx qv : ℕ → ℕ) (i : ℕ) : Type 0 where
  pub before : mx (pv i) ≡ nx i
  pub after : qv (nx i) ≡ pv i
  pub next : (k : ℕ) → (k ≡ pv i → ⊥) → mx k ≡ nx k
  pub previous : (k : ℕ) → (k ≡ nx i → ⊥) → qv k ≡ pv k

module _ (nx pv mx qv : ℕ → ℕ) (i : ℕ) (w : IsUnlinked nx pv mx qv i) where
  rest_after : (b : ℕ) (xs : List ℕ) → pv i ≡ b → occurs b xs ≡ 0 → occurs no_entry xs ≡ 0 → ((k : ℕ) → occurs k xs ≤ 1)
      → RunsThrough nx pv i xs → RunsThrough mx qv b xs
  rest_after b [] e zb none once h =
      (ap mx (sym e) ∙ w.before ∙ h.0, ap qv (sym h.0) ∙ w.after ∙ e)
  rest_after b (y ∷ ys) e zb none once h =
      let zy : occurs y ys ≡ 0 = omega (arith, once y, same-self y) in
      let next : (k : ℕ) → 0 < occurs k (y ∷ ys) → mx k ≡ nx k = (λ k l. w.next k (λ q. ne-from_occurs b k (y ∷ ys) zb l (q ∙ e))) in (
        ap mx (sym e) ∙ w.before ∙ h.0,
        ap qv (sym h.0) ∙ w.after ∙ e,
        RunsThrough-same nx pv mx qv y ys (next y (omega (arith, same-self y))) (λ k l. next k (omega (arith, l)))
            (λ k l. w.previous k (λ q. ne-from_occurs y k ys zy l (q ∙ h.0)))
            (w.previous no_entry (λ q. ne-from_occurs no_entry y (y ∷ ys) none (omega (arith, same-self y)) (sym h.0 ∙ sym q))) h.2,
      )

  pub RunsThrough-unlinked : (b : ℕ) (xs : List ℕ) → ((k : ℕ) → occurs k xs ≤ 1) → occurs b xs ≡ 0
      → occurs no_entry xs ≡ 0 → 0 < occurs i xs → RunsThrough nx pv b xs → RunsThrough mx qv b (without i xs)
  RunsThrough-unlinked b [] once zb none l h = absurd (omega arith)
  RunsThrough-unlinked b (x ∷ xs) once zb none l h =
      cond_both (eqb i x) xs (x ∷ without i xs) (λ ys. RunsThrough mx qv b ys) (λ t.
      let q : x ≡ i = sym (eqb-true i x t) in
      let h2 : RunsThrough nx pv b (i ∷ xs) = rw q at h in
      rest_after b xs h2.1 (omega (arith, zb)) (omega (arith, none)) (λ k. omega (arith, once k)) h2.2) (λ f.
      let lx : 0 < occurs i xs = omega (arith, same-ne i x (eqb-false i x f)) in
      let zx : occurs x xs ≡ 0 = omega (arith, once x, same-self x) in
      let here : 0 < occurs x (x ∷ xs) = omega (arith, same-self x) in
      let apart_b : b ≡ pv i → ⊥ = (λ q. elim (previous-in_chain nx pv x i xs h.2 lx) [
        | inl z ↦ ne-from_occurs b x (x ∷ xs) zb here (sym z ∙ sym q)
        | inr m ↦ ne-from_occurs b (pv i) (x ∷ xs) zb (omega (arith, m)) (sym q)
      ]) in
      let apart_x : x ≡ nx i → ⊥ = (λ q. elim (next-in_chain nx pv x i xs h.2 lx) [
        | inl z ↦ ne-from_occurs no_entry x (x ∷ xs) none here (q ∙ z)
        | inr m ↦ ne-from_occurs x (nx i) xs zx m (sym q)
      ]) in (
        w.next b apart_b ∙ h.0,
        w.previous x apart_x ∙ h.1,
        RunsThrough-unlinked x xs (λ k. omega (arith, once k)) zx (omega (arith, none)) lx h.2,
      ))

-- The entry i comes in front.
pub RunsThrough-pushed : (nx pv mx qv : ℕ → ℕ) (i : ℕ) (xs : List ℕ) → ((k : ℕ) → occurs k xs ≤ 1) → occurs i xs ≡ 0
    → occurs no_entry xs ≡ 0 → (i ≡ no_entry → ⊥) → mx no_entry ≡ i → mx i ≡ nx no_entry → qv i ≡ no_entry
    → qv (nx no_entry) ≡ i → ((k : ℕ) → (k ≡ i → ⊥) → (k ≡ no_entry → ⊥) → mx k ≡ nx k)
    → ((k : ℕ) → (k ≡ i → ⊥) → (k ≡ nx no_entry → ⊥) → qv k ≡ pv k) → RunsThrough nx pv no_entry xs
    → RunsThrough mx qv no_entry (i ∷ xs)
RunsThrough-pushed nx pv mx qv i [] once zi none ni first mi qi qf next previous h =
    (first, qi, (mi ∙ h.0, ap qv (sym h.0) ∙ qf))
RunsThrough-pushed nx pv mx qv i (y ∷ ys) once zi none ni first mi qi qf next previous h =
    let zy : occurs y ys ≡ 0 = omega (arith, once y, same-self y) in
    let move : (k : ℕ) → 0 < occurs k (y ∷ ys) → mx k ≡ nx k = (λ k l. next k (ne-from_occurs i k (y ∷ ys) zi l)
    (ne-from_occurs no_entry k (y ∷ ys) none l)) in (
      first,
      qi,
      (
        mi ∙ h.0,
        ap qv (sym h.0) ∙ qf,
        RunsThrough-same nx pv mx qv y ys (move y (omega (arith, same-self y))) (λ k l. move k (omega (arith, l)))
            (λ k l. previous k (ne-from_occurs i k (y ∷ ys) zi (omega (arith, l))) (λ q. ne-from_occurs y k ys zy l (q ∙ h.0)))
            (previous no_entry (λ q. ni (sym q)) (λ q. ne-from_occurs no_entry y (y ∷ ys) none (omega (arith, same-self y))
            (sym h.0 ∙ sym q))) h.2,
      ),
    )

-- A line stands where its members' links are the same.
pub RunsForward-same : (nx mx : ℕ → ℕ) (at : ℕ) (xs : List ℕ) → ((k : ℕ) → 0 < occurs k xs → mx k ≡ nx k)
    → RunsForward nx at xs → RunsForward mx at xs
RunsForward-same nx mx at [] en h = h
RunsForward-same nx mx at (x ∷ xs) en h =
    let step : nx x ≡ mx x = sym (en x (omega (arith, same-self x))) in
    (h.0, RunsForward-same nx mx (mx x) xs (λ k l. en k (omega (arith, l))) (rw (← step) h.1))

-- The last of a chain comes before the end.
pub last-RunsThrough : (nx pv : ℕ → ℕ) (b x : ℕ) (xs : List ℕ) → RunsThrough nx pv b (x ∷ xs)
    → oldest_of (x ∷ xs) ≡ Some (pv no_entry)
last-RunsThrough nx pv b x [] h = ap (λ (v : ℕ). Some v) (sym h.2.1)
last-RunsThrough nx pv b x (y ∷ ys) h = last-RunsThrough nx pv x y ys h.2
