-- What the calls on a ring of links make of it.
use Rattle.std.proofs.Common.{ℕ, ◌<◌, ◌≤◌, ◌≡◌, List, [], ◌∷◌, refl, sym, ap, ◌∙◌, ◌⊎◌, inl, inr, arith, length}
use Rattle.std.proofs.lemmas.Bool.{cases_eq}
use Rattle.atlas_entries.specs.declared.recency.links.Link.{Link}
use Rattle.atlas_search.specs.Numbers.{same, occurs, without}
use Rattle.atlas_entries.specs.Rings.{RunsThrough, IsRing, IsInRing, at_once, no_entry, next_at, previous_at}
use Rattle.atlas_entries.proofs.RingLemmas.{IsUnlinked, RunsThrough-unlinked, RunsThrough-pushed, at_once-here, at_once-there}
use Rattle.atlas_entries.proofs.RingLemmas.{next-in_chain, previous-in_chain}
use Rattle.atlas_search.proofs.Occurrences.{same-self, same-ne, ne-from_occurs, occurs-without}

-- No entry has the number of none.
pub none-occurs : (links : List Link) (ends : Link) (xs : List ℕ) → length links ≤ 4294967295 → IsRing links ends xs
    → occurs no_entry xs ≡ 0
none-occurs links ends xs short h =
    elim (cases_eq (occurs no_entry xs) 0) [
      | inl e ↦ e
      | inr ne ↦ let l = h.inside no_entry (omega (arith, ne)) in absurd (omega (arith, l, short))
    ]

unlinked-from : (nx pv n1 p1 mx qv : ℕ → ℕ) (i p n : ℕ) → p ≡ pv i → n ≡ nx i → ((k : ℕ) → n1 k ≡ at_once p n nx k)
    → ((k : ℕ) → p1 k ≡ pv k) → ((k : ℕ) → mx k ≡ n1 k) → ((k : ℕ) → qv k ≡ at_once n p p1 k) → IsUnlinked nx pv mx qv i
unlinked-from nx pv n1 p1 mx qv i p n ep en e1 e2 e3 e4 =
    record {
      before = e3 (pv i) ∙ e1 (pv i) ∙ at_once-here p n nx (pv i) (sym ep) ∙ en;
      after = e4 (nx i) ∙ at_once-here n p p1 (nx i) (sym en) ∙ ep;
      next = λ k ne. e3 k ∙ e1 k ∙ at_once-there p n nx k (λ q. ne (q ∙ ep));
      previous = λ k ne. e4 k ∙ at_once-there n p p1 k (λ q. ne (q ∙ en)) ∙ e2 k;
    }

pub unlinked-by : (l0 l1 l2 : List Link) (e0 e1 e2 : Link) (i p n : ℕ) → p ≡ previous_at l0 e0 i → n ≡ next_at l0 e0 i
    → ((k : ℕ) → next_at l1 e1 k ≡ at_once p n (next_at l0 e0) k)
    → ((k : ℕ) → previous_at l1 e1 k ≡ previous_at l0 e0 k) → ((k : ℕ) → next_at l2 e2 k ≡ next_at l1 e1 k)
    → ((k : ℕ) → previous_at l2 e2 k ≡ at_once n p (previous_at l1 e1) k)
    → IsUnlinked (next_at l0 e0) (previous_at l0 e0) (next_at l2 e2) (previous_at l2 e2) i
unlinked-by l0 l1 l2 e0 e1 e2 i p n =
    unlinked-from (next_at l0 e0) (previous_at l0 e0) (next_at l1 e1) (previous_at l1 e1) (next_at l2 e2) (previous_at l2 e2) i p n

module _ (links : List Link) (ends : Link) (new : List Link) (last : Link) (short : length links ≤ 4294967295)
    (same_length : length new ≡ length links) where
  pub IsRing-unlinked : (i : ℕ)
      → IsUnlinked (next_at links ends) (previous_at links ends) (next_at new last) (previous_at new last) i
      → (xs : List ℕ) → IsRing links ends xs → 0 < occurs i xs → IsRing new last (without i xs)
  IsRing-unlinked i w xs h l =
      let none = none-occurs links ends xs short h in
      record {
        chain = RunsThrough-unlinked _ _ _ _ i w no_entry xs h.once none none l h.chain;
        once = λ k. omega (arith, occurs-without i xs l k, h.once k);
        inside = λ k m. omega (arith, same_length, h.inside k (omega (arith, occurs-without i xs l k, m)));
      }

  pub others-unlinked : (i : ℕ)
      → IsUnlinked (next_at links ends) (previous_at links ends) (next_at new last) (previous_at new last) i
      → (xs : List ℕ) (k : ℕ) → IsRing links ends xs → 0 < occurs i xs → (k ≡ no_entry → ⊥) → occurs k xs ≡ 0
      → next_at new last k ≡ next_at links ends k
  others-unlinked i w xs k h l nk z =
      w.next k (λ q. elim (previous-in_chain (next_at links ends) (previous_at links ends) no_entry i xs h.chain l) [
        | inl e ↦ nk (q ∙ e)
        | inr m ↦ ne-from_occurs k (previous_at links ends i) xs z m (sym q)
      ])

pub neighbours-inside : (links : List Link) (ends : Link) (i : ℕ) → IsInRing links ends i
    → ((previous_at links ends i ≡ no_entry) ⊎ (previous_at links ends i < length links))
    × ((next_at links ends i ≡ no_entry) ⊎ (next_at links ends i < length links))
neighbours-inside links ends i w = (
  elim (previous-in_chain (next_at links ends) (previous_at links ends) no_entry i w.0 w.1.chain w.2)
      [ inl e ↦ inl e | inr m ↦ inr (w.1.inside _ m) ],
  elim (next-in_chain (next_at links ends) (previous_at links ends) no_entry i w.0 w.1.chain w.2)
      [ inl e ↦ inl e | inr m ↦ inr (w.1.inside _ m) ],
)

-- What the three writes of a push make of a ring.
pub record IsPushed (l0 l1 l2 l3 : List Link) (e0 e2 e3 : Link) (i : ℕ) : Type 0 where
  pub next1 : (k : ℕ) → next_at l1 e0 k ≡ at_once i (next_at l0 e0 no_entry) (next_at l0 e0) k
  pub previous1 : (k : ℕ) → previous_at l1 e0 k ≡ at_once i no_entry (previous_at l0 e0) k
  pub next2 : (k : ℕ) → next_at l2 e2 k ≡ at_once no_entry i (next_at l1 e0) k
  pub previous2 : (k : ℕ) → previous_at l2 e2 k ≡ previous_at l1 e0 k
  pub next3 : (k : ℕ) → next_at l3 e3 k ≡ next_at l2 e2 k
  pub previous3 : (k : ℕ) → previous_at l3 e3 k ≡ at_once (next_at l0 e0 no_entry) i (previous_at l2 e2) k

-- What stands first isn't an entry that the ring doesn't hold.
pub first-apart : (links : List Link) (ends : Link) (i : ℕ) (xs : List ℕ)
    → RunsThrough (next_at links ends) (previous_at links ends) no_entry xs → occurs i xs ≡ 0 → (i ≡ no_entry → ⊥)
    → i ≡ next_at links ends no_entry → ⊥
first-apart links ends i [] h z ni e = ni (e ∙ h.0)
first-apart links ends i (x ∷ xs) h z ni e = ne-from_occurs i x (x ∷ xs) z (omega (arith, same-self x)) (sym h.0 ∙ sym e)

-- What stands first is an entry, or none.
pub first-inside : (links : List Link) (ends : Link) (xs : List ℕ) → IsRing links ends xs
    → (next_at links ends no_entry ≡ no_entry) ⊎ (next_at links ends no_entry < length links)
first-inside links ends [] h = inl h.chain.0
first-inside links ends (x ∷ xs) h =
    let e : next_at links ends no_entry ≡ x = h.chain.0 in
    inr (rw e (h.inside x (omega (arith, same-self x))))

module _ (l0 l1 l2 l3 : List Link) (e0 e2 e3 : Link) (i : ℕ) (w : IsPushed l0 l1 l2 l3 e0 e2 e3 i) (ni : i ≡ no_entry → ⊥) where
  pub others-pushed : (k : ℕ) → (k ≡ no_entry → ⊥) → (k ≡ i → ⊥) → next_at l3 e3 k ≡ next_at l0 e0 k
  others-pushed k nk ki =
      w.next3 k ∙ w.next2 k ∙ at_once-there no_entry i (next_at l1 e0) k nk ∙ w.next1 k ∙
      at_once-there i (next_at l0 e0 no_entry) (next_at l0 e0) k ki

  pub IsRing-pushed : length l0 ≤ 4294967295 → length l3 ≡ length l0 → i < length l0 → (xs : List ℕ) → IsRing l0 e0 xs
      → occurs i xs ≡ 0 → IsRing l3 e3 (i ∷ xs)
  IsRing-pushed short same_length inside xs h z =
      let none = none-occurs l0 e0 xs short h in
      let f = next_at l0 e0 no_entry in
      let apart = first-apart l0 e0 i xs h.chain z ni in
      let first : next_at l3 e3 no_entry ≡ i = w.next3 no_entry ∙ w.next2 no_entry ∙
      at_once-here no_entry i (next_at l1 e0) no_entry refl in
      let own_next : next_at l3 e3 i ≡ f = w.next3 i ∙ w.next2 i ∙ at_once-there no_entry i (next_at l1 e0) i ni ∙ w.next1 i ∙
      at_once-here i f (next_at l0 e0) i refl in
      let own_previous : previous_at l3 e3 i ≡ no_entry = w.previous3 i ∙ at_once-there f i (previous_at l2 e2) i apart ∙ w.previous2 i ∙
      w.previous1 i ∙ at_once-here i no_entry (previous_at l0 e0) i refl in
      let after : previous_at l3 e3 f ≡ i = w.previous3 f ∙ at_once-here f i (previous_at l2 e2) f refl in
      let previous : (k : ℕ) → (k ≡ i → ⊥) → (k ≡ f → ⊥) → previous_at l3 e3 k ≡ previous_at l0 e0 k =
      (λ k ki kf. w.previous3 k ∙ at_once-there f i (previous_at l2 e2) k kf ∙ w.previous2 k ∙ w.previous1 k ∙
      at_once-there i no_entry (previous_at l0 e0) k ki) in
      record {
        chain = RunsThrough-pushed (next_at l0 e0) (previous_at l0 e0) (next_at l3 e3) (previous_at l3 e3) i xs h.once z none ni first
            own_next own_previous after (λ k ki kn. others-pushed k kn ki) previous h.chain;
        once = λ k. elim (cases_eq k i) [
          | inl e ↦ omega (arith, same-self i, z, ap (λ v. same v i) e, ap (λ v. occurs v xs) e)
          | inr ne ↦
              omega (arith, same-ne k i ne, h.once k)
        ];
        inside = λ k m. elim (cases_eq k i) [
          | inl e ↦ omega (arith, e, inside, same_length)
          | inr ne ↦ omega
              (arith, same_length, h.inside k (omega (arith, same-ne k i ne, m)))
        ];
      }
