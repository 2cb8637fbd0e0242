-- Sums over the slots, and over the members of a tree that they hold.
use Rattle.std.proofs.Common.{ℕ, suc, ◌+◌, ◌*◌, ◌<◌, ◌≤◌, ◌≡◌, List, [], ◌∷◌, length, refl, sym, ap, ◌∙◌, inl, inr, arith}
use Rattle.std.proofs.lemmas.Bool.{cases_eq}
use Rattle.atlas_store.specs.declared.slots.Node.{Node}
use Rattle.atlas_store.specs.Slots.{node_at, use_count}
use Rattle.atlas_store.specs.Slots.Numbered.{Numbered, weigh, tally, End, Free, Alloc, Seq}
use Rattle.atlas_search.specs.Numbers.{same}
use Rattle.atlas_store.specs.Slots.Standing.{Sequence, Stands}
use Rattle.atlas_store.proofs.SlotLemmas.Frames.{same-self, same-ne}
use Rattle.atlas_store.proofs.SlotLemmas.JoinWrites.{used-inside}

-- The sum of w over slots that are numbered from i on.
abbrev pub slot_sum : (ℕ → Node → ℕ) → ℕ → List Node → ℕ
slot_sum w i [] = 0
slot_sum w i (n ∷ ns) = w i n + slot_sum w (i + 1) ns

slot_sum-none : (t f : ℕ → ℕ) (i : ℕ) (ns : List Node) → ((k : ℕ) → i ≤ k → t k ≡ 0)
    → slot_sum (λ k n. t k * f k) i ns ≡ 0
slot_sum-none t f i [] none = refl
slot_sum-none t f i (n ∷ ns) none = grind (arith, slot_sum-none t f (i + 1) ns (λ k l. none k (omega arith)))

slot_sum-add : (t u f : ℕ → ℕ) (i : ℕ) (ns : List Node)
    → slot_sum (λ k n. (t k + u k) * f k) i ns ≡ slot_sum (λ k n. t k * f k) i ns + slot_sum (λ k n. u k * f k) i ns
slot_sum-add t u f i [] = refl
slot_sum-add t u f i (n ∷ ns) = omega (arith, slot_sum-add t u f (i + 1) ns)

-- Of the slots one is j.
slot_sum-one : (f : ℕ → ℕ) (j i : ℕ) (ns : List Node) → i ≤ j → j < i + length ns
    → slot_sum (λ k n. same k j * f k) i ns ≡ f j
slot_sum-one f j i [] l b = absurd (omega arith)
slot_sum-one f j i (n ∷ ns) l b =
    elim (cases_eq i j) [
      | inl e ↦
          let here : same i j * f i ≡ f j = ap (λ v. same v j * f v) e ∙ ap (λ v. v * f j) (same-self j) ∙ omega arith in
          omega (arith, here, slot_sum-none (λ k. same k j) f (i + 1) ns (λ k m. same-ne k j (λ q. absurd (omega arith))))
      | inr ne ↦ grind (arith, same-ne, slot_sum-one f j (i + 1) ns (omega arith) (omega arith))
    ]

-- Each member has a slot of its own.
pub weigh-slots : (f : ℕ → ℕ) (ns : List Node) (n : Numbered) → ((k : ℕ) → 0 < tally k n → k < length ns)
    → weigh f n ≡ slot_sum (λ k x. tally k n * f k) 0 ns
weigh-slots f ns End below = sym (slot_sum-none (λ k. 0) f 0 ns (λ k l. refl))
weigh-slots f ns (Free j e rest) below =
    omega (
      arith,
      slot_sum-add (λ k. same k j) (λ k. tally k rest) f 0 ns,
      slot_sum-one f j 0 ns (omega arith) (omega (arith, below j (omega (arith, same-self j)))),
      weigh-slots f ns rest (λ k l. below k (omega arith)),
    )
weigh-slots f ns (Alloc j g e rest) below =
    omega (
      arith,
      slot_sum-add (λ k. same k j) (λ k. tally k rest) f 0 ns,
      slot_sum-one f j 0 ns (omega arith) (omega (arith, below j (omega (arith, same-self j)))),
      weigh-slots f ns rest (λ k l. below k (omega arith)),
    )
weigh-slots f ns (Seq j e inner rest) below =
    omega (
      arith,
      slot_sum-add (λ k. same k j + tally k inner) (λ k. tally k rest) f 0 ns,
      slot_sum-add (λ k. same k j) (λ k. tally k inner) f 0 ns,
      slot_sum-one f j 0 ns (omega arith) (omega (arith, below j (omega (arith, same-self j)))),
      weigh-slots f ns inner (λ k l. below k (omega arith)),
      weigh-slots f ns rest (λ k l. below k (omega arith)),
    )

-- A sum over slots of which the unused weigh nothing.
slot_sum-used : (w : ℕ → Node → ℕ) (t : ℕ → ℕ) (all : List Node) (i : ℕ) (ns : List Node)
    → ((k : ℕ) (n : Node) → use_count n.kind * w k n ≡ w k n) → ((k : ℕ) → t k ≡ use_count (node_at all k).kind)
    → ((k : ℕ) → node_at all (i + k) ≡ node_at ns k)
    → slot_sum w i ns ≡ slot_sum (λ k n. t k * w k (node_at all k)) i ns
slot_sum-used w t all i [] light is at = refl
slot_sum-used w t all i (n ∷ ns) light is at =
    let this : node_at all i ≡ n = ap (λ k. node_at all k) (let e : i ≡ i + 0 = omega arith in e) ∙ at 0 in
    let here : t i * w i (node_at all i) ≡ w i n =
    ap (λ v. v * w i (node_at all i)) (is i) ∙ ap (λ v. use_count v.kind * w i v) this ∙ light i n in
    let later : (k : ℕ) → node_at all (i + 1 + k) ≡ node_at ns k =
    λ k. ap (λ v. node_at all v) (let e : i + 1 + k ≡ i + suc k = omega arith in e) ∙ at (suc k) in
    omega (arith, here, slot_sum-used w t all (i + 1) ns light is later)

-- A sum over a tree is one over its slots, if the unused weigh nothing.
pub weigh-Stands : (w : ℕ → Node → ℕ) (ns : List Node) (s : Sequence) (n : Numbered) → Stands ns s n
    → ((k : ℕ) (x : Node) → use_count x.kind * w k x ≡ w k x) → weigh (λ k. w k (node_at ns k)) n ≡ slot_sum w 0 ns
weigh-Stands w ns s n h light =
    weigh-slots (λ k. w k (node_at ns k)) ns n (λ k l. used-inside ns k (rw (← h.numbered k) l))
    ∙ sym (slot_sum-used w (λ k. tally k n) ns 0 ns light h.numbered (λ k. ap (λ v. node_at ns v) (let e : 0 + k ≡ k = omega arith in e)))
