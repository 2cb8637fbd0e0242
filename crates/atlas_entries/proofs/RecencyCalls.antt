-- What the calls on stored links keep.
use Rattle.std.proofs.Common.{ℕ, ◌+◌, ◌-◌, ◌<◌, ◌≤◌, ◌≡◌, max, List, ◌∷◌, refl, ap, ◌∙◌, arith, length}
use Rattle.atlas_entries.specs.declared.recency.links.Link.{Link}
use Rattle.atlas_entries.specs.Orders.{Order, IsFreshNumber, used, gone, with_newest}
use Rattle.atlas_search.specs.Numbers.{same, occurs, without}
use Rattle.atlas_entries.specs.Rings.{HasSpare, IsRecency, IsRing, run, no_entry, next_at}
use Rattle.atlas_entries.proofs.RingLemmas.{length-line}
use Rattle.atlas_search.proofs.Occurrences.{same-self, occurs-without, length-without}
use Rattle.atlas_entries.proofs.SpareLemmas.{IsRecency-made, order-is, HasSpare-same, HasSpare-given, new-free, none-spare}

-- The stored order.
abbrev pub stored : List Link → (ends : Link) → (count reserved : ℕ) → Order
stored links ends count reserved = record { entries = run links ends count; made = length links; reserved = reserved }

pub record IsTouched (links : List Link) (ends : Link) (new : List Link) (last : Link) (i : ℕ) : Type 0 where
  pub ring : (xs : List ℕ) → IsRing links ends xs → 0 < occurs i xs → IsRing new last (i ∷ without i xs)
  pub others : (xs : List ℕ) (k : ℕ) → IsRing links ends xs → 0 < occurs i xs → k < length links → occurs k xs ≡ 0
      → next_at new last k ≡ next_at links ends k
  pub size : length new ≡ length links

pub record IsGiven (links : List Link) (ends : Link) (new : List Link) (last : Link) (i u : ℕ) : Type 0 where
  pub ring : (xs : List ℕ) → IsRing links ends xs → 0 < occurs i xs → IsRing new last (without i xs)
  pub own : next_at new last i ≡ u
  pub others : (xs : List ℕ) (k : ℕ) → IsRing links ends xs → 0 < occurs i xs → k < length links → occurs k xs ≡ 0
      → next_at new last k ≡ next_at links ends k
  pub size : length new ≡ length links

module _ (links new : List Link) (ends last : Link) (u n i : ℕ) (h : IsRecency links ends u n) (l : 0 < occurs i (run links ends n)) where
  length-run : length (run links ends n) ≡ n
  length-run = length-line n (next_at links ends) ends.next

  pub IsRecency-touched : IsTouched links ends new last i → IsRecency new last u n
  IsRecency-touched w =
      let xs = run links ends n in
      IsRecency-made new last u n (i ∷ without i xs) (omega (arith, h.short, w.size)) (w.ring xs h.ring l)
      (HasSpare-same links new ends last u xs (i ∷ without i xs) w.size (λ k. omega (arith, occurs-without i xs l k))
      (omega (arith, length-without i xs l)) (λ k m z. w.others xs k h.ring l m z) h.rest)
      (omega (arith, length-run, length-without i xs l))

  pub touched-is : (reserved : ℕ) → IsTouched links ends new last i
      → stored new last n reserved ≡ used i (stored links ends n reserved)
  touched-is reserved w =
      let xs = run links ends n in
      order-is new last n (length links) reserved (i ∷ without i xs) (w.ring xs h.ring l) (omega (arith, length-run, length-without i xs l))
      w.size

  pub IsRecency-given : IsGiven links ends new last i u → IsRecency new last i (n - 1)
  IsRecency-given w =
      let xs = run links ends n in
      IsRecency-made new last i (n - 1) (without i xs) (omega (arith, h.short, w.size)) (w.ring xs h.ring l)
      (HasSpare-given links new ends last u i xs w.size l (h.ring.once i) w.own (λ k m z _. w.others xs k h.ring l m z) h.rest)
      (omega (arith, length-run, length-without i xs l))

  pub given-is : (reserved : ℕ) → IsGiven links ends new last i u
      → stored new last (n - 1) reserved ≡ gone i (stored links ends n reserved)
  given-is reserved w =
      let xs = run links ends n in
      order-is new last (n - 1) (length links) reserved (without i xs) (w.ring xs h.ring l)
      (omega (arith, length-run, length-without i xs l)) w.size

pub count-fits : (links : List Link) (ends : Link) (u n : ℕ) → IsRecency links ends u n → n ≤ 4294967295
count-fits links ends u n h =
    omega (arith, h.short, h.rest.all, length-line n (next_at links ends) ends.next)

-- A number is taken, and joins in front.
pub record IsJoined (links : List Link) (mid : List Link) (ends : Link) (new : List Link) (last : Link) (u v i : ℕ) : Type 0 where
  pub ring : (xs : List ℕ) → IsRing links ends xs → IsRing mid ends xs
  pub rest : (xs : List ℕ) → HasSpare links ends u xs → HasSpare mid ends v (i ∷ xs)
  pub made : length mid ≡ max (length links) (i + 1)
  pub short : length mid ≤ no_entry
  pub pushed : (xs : List ℕ) → IsRing mid ends xs → occurs i xs ≡ 0 → IsRing new last (i ∷ xs)
  pub others : (k : ℕ) → (k ≡ no_entry → ⊥) → (k ≡ i → ⊥) → next_at new last k ≡ next_at mid ends k
  pub size : length new ≡ length mid

module _ (links mid new : List Link) (ends last : Link) (u v n i : ℕ) (h : IsRecency links ends u n)
    (w : IsJoined links mid ends new last u v i) where
  length-old : length (run links ends n) ≡ n
  length-old = length-line n (next_at links ends) ends.next

  free : occurs i (run links ends n) ≡ 0
  free = new-free mid ends v i (run links ends n) (w.rest (run links ends n) h.rest)

  joined-ring : IsRing new last (i ∷ run links ends n)
  joined-ring = w.pushed (run links ends n) (w.ring (run links ends n) h.ring) free

  pub IsRecency-joined : IsRecency new last v (n + 1)
  IsRecency-joined =
      let xs = run links ends n in
      IsRecency-made new last v (n + 1) (i ∷ xs) (omega (arith, w.short, w.size)) joined-ring
      (HasSpare-same mid new ends last v (i ∷ xs) (i ∷ xs) w.size (λ k. refl) refl
      (λ k m z. w.others k (λ q. omega (arith, q, m, w.short)) (λ q. omega (arith, z, same-self i, ap (λ x. same x i) q)))
      (w.rest xs h.rest)) (omega (arith, length-old))

  pub joined-is : (reserved : ℕ) → stored new last (n + 1) (reserved - 1) ≡ with_newest i (stored links ends n reserved)
  joined-is reserved =
      order-is new last (n + 1) (max (length links) (i + 1)) (reserved - 1) (i ∷ run links ends n) joined-ring (omega (arith, length-old))
      (w.size ∙ w.made)

  pub joined-new : (reserved : ℕ) → i ≤ length links → (i ≡ length links → u ≡ no_entry)
      → IsFreshNumber i (stored links ends n reserved)
  joined-new reserved e last = record {
    free = free;
    next = e;
    dense = λ is. none-spare links ends u (run links ends n) h.rest (last is) h.short;
  }
