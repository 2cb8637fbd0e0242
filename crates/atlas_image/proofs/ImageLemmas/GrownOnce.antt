-- No slot stands twice in the tree that links lead through, since ranks rise along them.
use Rattle.std.proofs.Common.{ℕ, ◌+◌, ◌<◌, ◌≤◌, ◌≡◌, ◌≢◌, ◌⊎◌, ◌==◌, List, refl, sym, ap, ◌∙◌, inl, inr, arith, zero, suc, subst}
use Rattle.std.proofs.Common.{if◌then◌else◌}
use Rattle.std.proofs.lemmas.Bool.{cases_eq, cases_lt, eq-eqb, ne_eqb}
use Rattle.atlas_image.specs.Members.{IsUsed}
use Rattle.atlas_image.proofs.ImageLemmas.GrownTrees.{AreJoints, grown, grown-alloc, grown-container, grown-free, grown-none, kinds}
use Rattle.atlas_search.specs.Numbers.{no_slot, same}
use Rattle.atlas_store.specs.declared.slots.Node.{Node}
use Rattle.atlas_store.specs.declared.slots.NodeKind.TheVariants as kind
use Rattle.atlas_store.specs.Slots.{node_at, use_count}
use Rattle.atlas_store.specs.Slots.Numbered.{Numbered, tally, End}
use Rattle.atlas_store.proofs.SlotLemmas.Frames.{same-self, same-ne}

-- What comes before a member: the member before it, or its container.
abbrev pub before : Node → ℕ
before n = if n.previous.number == no_slot then n.parent.number else n.previous.number

pub before-after : (n : Node) → n.previous.number ≢ no_slot → before n ≡ n.previous.number
before-after n ne = rw (ne_eqb n.previous.number no_slot ne) refl

pub before-first : (n : Node) → n.previous.number ≡ no_slot → before n ≡ n.parent.number
before-first n e = rw (eq-eqb n.previous.number no_slot e) refl

-- Ranks fall from a used slot to what comes before it.
abbrev pub RanksFall : List Node → (ℕ → ℕ) → Type 0
RanksFall ns r = (k : ℕ) → IsUsed (node_at ns k) → before (node_at ns k) ≢ no_slot → r (before (node_at ns k)) < r k

-- The members t from slot i on: each once, of no smaller rank, and what comes before each but the first is one of them.
pub record IsOnceAt (ns : List Node) (r : ℕ → ℕ) (i : ℕ) (t : Numbered) : Type 0 where
  pub used : (k : ℕ) → 0 < tally k t → IsUsed (node_at ns k)
  pub above : (k : ℕ) → 0 < tally k t → r i ≤ r k
  pub back : (k : ℕ) → 0 < tally k t → (k ≡ i) ⊎ (0 < tally (before (node_at ns k)) t)
  pub once : (k : ℕ) → tally k t ≤ 1

-- The members t that come after slot i, or inside it: slot b is before the first of them.
pub record IsOnceIn (ns : List Node) (r : ℕ → ℕ) (i b : ℕ) (t : Numbered) : Type 0 where
  pub used : (k : ℕ) → 0 < tally k t → IsUsed (node_at ns k)
  pub above : (k : ℕ) → 0 < tally k t → r i < r k
  pub back : (k : ℕ) → 0 < tally k t
      → (((node_at ns k).previous.number ≡ b) × (before (node_at ns k) ≡ i)) ⊎ (0 < tally (before (node_at ns k)) t)
  pub once : (k : ℕ) → tally k t ≤ 1

none-in : (ns : List Node) (r : ℕ → ℕ) (i b : ℕ) → IsOnceIn ns r i b End
none-in ns r i b = record {
  used = λ k l. absurd (omega arith);
  above = λ k l. absurd (omega arith);
  back = λ k l. absurd (omega arith);
  once = λ k. omega arith;
}

module _ (ns : List Node) (r : ℕ → ℕ) (i b j : ℕ) (t : Numbered) (h : IsOnceAt ns r j t)
    (previous : (node_at ns j).previous.number ≡ b) (back : before (node_at ns j) ≡ i) (rank : r i < r j) where
  once_back : (k : ℕ) → 0 < tally k t
      → (((node_at ns k).previous.number ≡ b) × (before (node_at ns k) ≡ i)) ⊎ (0 < tally (before (node_at ns k)) t)
  once_back k l = elim (h.back k l) [
    | inl e ↦ inl (ap (λ v. (node_at ns v).previous.number) e ∙ previous, ap (λ v. before (node_at ns v)) e ∙ back)
    | inr x ↦ inr x
  ]

  once_in : IsOnceIn ns r i b t
  once_in = record {
    used = h.used;
    above = λ k l. omega (arith, h.above k l, rank);
    back = once_back;
    once = h.once;
  }

-- One of two.
here_or : (k i x : ℕ) → 0 < same k i + x → (k ≡ i) ⊎ (0 < x)
here_or k i x l = elim (cases_eq k i) [ inl e ↦ inl e | inr ne ↦ inr (omega (arith, same-ne k i ne)) ]

module _ (ns : List Node) (r : ℕ → ℕ) (i : ℕ) (u : IsUsed (node_at ns i)) where
  -- A leaf, before what comes after it.
  leaf_once : (t rest : Numbered) → ((k : ℕ) → tally k t ≡ same k i + tally k rest) → IsOnceIn ns r i i rest
      → IsOnceAt ns r i t
  leaf_once t rest is h =
      record {
        used = λ k l. elim (here_or k i (tally k rest) (omega (arith, is k))) [
          | inl e ↦ subst (λ v. IsUsed (node_at ns v)) (sym e) u
          | inr x ↦ h.used k x
        ];
        above = λ k l. elim (here_or k i (tally k rest) (omega (arith, is k))) [
          | inl e ↦ omega (arith, ap r e)
          | inr x ↦ omega (arith, h.above k x)
        ];
        back = λ k l. elim (here_or k i (tally k rest) (omega (arith, is k))) [
          | inl e ↦ inl e
          | inr x ↦ elim (h.back k x) [
            | inl y ↦ inr (omega (arith, is (before (node_at ns k)), ap (λ v. same v i) y.1, same-self i))
            | inr y ↦ inr (omega (arith, is (before (node_at ns k))))
          ]
        ];
        once = λ k. elim (cases_eq k i) [
          | inl e ↦ elim (cases_lt 0 (tally k rest)) [
            | inl x ↦ absurd (omega (arith, h.above k x, ap r e))
            | inr x ↦ omega (arith, is k, ap (λ v. same v i) e, same-self i)
          ]
          | inr ne ↦ omega (arith, is k, same-ne k i ne, h.once k)
        ];
      }

  module _ (inner rest : Numbered) (fall : RanksFall ns r) (none : (node_at ns no_slot).kind ≡ kind.Unused)
      (g : IsOnceIn ns r i no_slot inner) (h : IsOnceIn ns r i i rest) where
    some : (k : ℕ) → IsUsed (node_at ns k) → k ≢ no_slot
    some k l e = absurd (omega (arith, l, ap (λ v. use_count (node_at ns v).kind) e, ap use_count none))

    -- No slot is both inside a container and after it: go back from it to where both begin.
    apart : (f k : ℕ) → r k < f → 0 < tally k inner → 0 < tally k rest → ⊥
    apart zero k l x y = absurd (omega arith)
    apart (suc f) k l x y = elim (g.back k x) [
      | inl p ↦ elim (h.back k y) [
        | inl q ↦ some i u (sym q.0 ∙ p.0)
        | inr q ↦ absurd (omega (arith, h.above (before (node_at ns k)) q, ap r p.1))
      ]
      | inr p ↦ elim (h.back k y) [
        | inl q ↦ absurd (omega (arith, g.above (before (node_at ns k)) p, ap r q.1))
        | inr q ↦
            let falls = fall k (g.used k x) (some (before (node_at ns k)) (g.used (before (node_at ns k)) p)) in
            apart f (before (node_at ns k)) (omega (arith, falls)) p q
      ]
    ]

    both : (k : ℕ) → tally k inner + tally k rest ≤ 1
    both k = elim (cases_lt 0 (tally k inner)) [
      | inl x ↦ elim (cases_lt 0 (tally k rest)) [
        | inl y ↦ absurd (apart (suc (r k)) k (omega arith) x y)
        | inr y ↦ omega (arith, g.once k)
      ]
      | inr x ↦ omega (arith, h.once k)
    ]

    here_or_both : (k : ℕ) → 0 < same k i + tally k inner + tally k rest → (k ≡ i) ⊎ ((0 < tally k inner) ⊎ (0 < tally k rest))
    here_or_both k l = elim (cases_eq k i) [
      | inl e ↦ inl e
      | inr ne ↦ elim (cases_lt 0 (tally k inner)) [ inl x ↦ inr (inl x) | inr x ↦ inr (inr (omega (arith, same-ne k i ne))) ]
    ]

    -- A container, with what is inside it, before what comes after it.
    container_once : (t : Numbered) → ((k : ℕ) → tally k t ≡ same k i + tally k inner + tally k rest) → IsOnceAt ns r i t
    container_once t is =
        record {
          used = λ k l. elim (here_or_both k (omega (arith, is k))) [
            | inl e ↦ subst (λ v. IsUsed (node_at ns v)) (sym e) u
            | inr (inl x) ↦ g.used k x
            | inr (inr x) ↦ h.used k x
          ];
          above = λ k l. elim (here_or_both k (omega (arith, is k))) [
            | inl e ↦ omega (arith, ap r e)
            | inr (inl x) ↦ omega (arith, g.above k x)
            | inr (inr x) ↦ omega (arith, h.above k x)
          ];
          back = λ k l. elim (here_or_both k (omega (arith, is k))) [
            | inl e ↦ inl e
            | inr (inl x) ↦ elim (g.back k x) [
              | inl y ↦ inr (omega (arith, is (before (node_at ns k)), ap (λ v. same v i) y.1, same-self i))
              | inr y ↦ inr (omega (arith, is (before (node_at ns k))))
            ]
            | inr (inr x) ↦ elim (h.back k x) [
              | inl y ↦ inr (omega (arith, is (before (node_at ns k)), ap (λ v. same v i) y.1, same-self i))
              | inr y ↦ inr (omega (arith, is (before (node_at ns k))))
            ]
          ];
          once = λ k. elim (cases_eq k i) [
            | inl e ↦ elim (cases_lt 0 (tally k inner + tally k rest)) [
              | inl x ↦ elim (cases_lt 0 (tally k inner)) [
                | inl y ↦ absurd (omega (arith, g.above k y, ap r e))
                | inr y ↦ absurd (omega (arith, h.above k (omega arith), ap r e))
              ]
              | inr x ↦ omega (arith, is k, ap (λ v. same v i) e, same-self i)
            ]
            | inr ne ↦ omega (arith, is k, same-ne k i ne, both k)
          ];
        }

module _ (ns : List Node) (d r : ℕ → ℕ) (ends : Node → ℕ) (m : ℕ) (all : AreJoints ns d r ends m) (fall : RanksFall ns r) where
  not_none : (k : ℕ) → IsUsed (node_at ns k) → k ≢ no_slot
  not_none k l e = absurd (omega (arith, l, ap (λ v. use_count (node_at ns v).kind) e, ap use_count all.none))

  pub grown-once : (fuel i : ℕ) → IsUsed (node_at ns i) → m ≤ fuel + r i → IsOnceAt ns r i (grown fuel ns d i)
  grown-once zero i u l = absurd (omega (arith, all.below i))
  grown-once (suc fuel) i u l =
      let j = all.joint i u in
      let next = (node_at ns i).next.number in
      let rest : IsOnceIn ns r i i (grown fuel ns d next) = elim (cases_eq next no_slot) [
        | inl e ↦ subst (IsOnceIn ns r i i) (sym (grown-none ns d fuel next (ap (λ v. (node_at ns v).kind) e ∙ all.none)))
            (none-in ns r i i)
        | inr ne ↦
            let n = j.next ne in
            let after : (node_at ns next).previous.number ≢ no_slot = λ e. not_none i u (sym n.previous ∙ e) in
            once_in ns r i i next (grown fuel ns d next) (grown-once fuel next n.used (omega (arith, n.rank))) n.previous
            (before-after (node_at ns next) after ∙ n.previous) n.rank
      ] in
      elim (kinds (node_at ns i).kind u) [
        | inl k ↦
            let n = j.inner k in
            let inner : IsOnceIn ns r i no_slot (grown fuel ns d (d i)) =
            once_in ns r i no_slot (d i) (grown fuel ns d (d i)) (grown-once fuel (d i) n.used (omega (arith, n.rank)))
            n.previous (before-first (node_at ns (d i)) n.previous ∙ n.parent) n.rank in
            container_once ns r i u (grown fuel ns d (d i)) (grown fuel ns d next) fall all.none inner rest
            (grown (suc fuel) ns d i) (λ v. ap (tally v) (grown-container ns d fuel i k))
        | inr (inl k) ↦ leaf_once ns r i u (grown (suc fuel) ns d i) (grown fuel ns d next)
            (λ v. ap (tally v) (grown-alloc ns d fuel i k)) rest
        | inr (inr k) ↦ leaf_once ns r i u (grown (suc fuel) ns d i) (grown fuel ns d next)
            (λ v. ap (tally v) (grown-free ns d fuel i k)) rest
      ]
