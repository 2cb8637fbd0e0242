-- Each used slot stands in the tree that links lead through.
use Rattle.std.proofs.Common.{ℕ, ◌+◌, ◌<◌, ◌≤◌, ◌≡◌, ◌≢◌, List, sym, ap, ◌∙◌, inl, inr, arith, zero, suc, subst}
use Rattle.std.proofs.lemmas.Bool.{cases_eq, cases_lt}
use Rattle.atlas_image.specs.Members.{IsUsed}
use Rattle.atlas_image.proofs.ImageLemmas.Spans.{sequence_of, place_of}
use Rattle.atlas_image.proofs.ImageLemmas.GrownTrees.{
  AreJoints,
  IsTreeAt,
  grown,
  grown-alloc,
  grown-container,
  grown-free,
  grown-none,
  grown-stands,
  kinds,
}
use Rattle.atlas_image.proofs.ImageLemmas.GrownOnce.{RanksFall, before, before-after, before-first, grown-once}
use Rattle.atlas_search.specs.Numbers.{no_slot, same}
use Rattle.atlas_store.specs.declared.slots.Node.{Node}
use Rattle.atlas_store.specs.declared.slots.NodeKind.TheVariants as kind
use Rattle.atlas_store.specs.Slots.{node_at, use_count}
use Rattle.atlas_store.specs.Slots.Numbered.{Numbered, tally, first_slot}
use Rattle.atlas_store.specs.Slots.Standing.{Standing, Stands}
use Rattle.atlas_store.proofs.SlotLemmas.Frames.{same-ne, used-le}
use Rattle.atlas_store.proofs.SlotLemmas.MemberLinks.{first-in, next-in}

-- What comes before a used slot leads to it.
pub record IsLedTo (ns : List Node) (d r : ℕ → ℕ) (start i : ℕ) : Type 0 where
  pub top : before (node_at ns i) ≡ no_slot → i ≡ start
  pub used : before (node_at ns i) ≢ no_slot → IsUsed (node_at ns (before (node_at ns i)))
  pub rank : before (node_at ns i) ≢ no_slot → r (before (node_at ns i)) < r i
  pub after : (node_at ns i).previous.number ≢ no_slot → (node_at ns (node_at ns i).previous.number).next.number ≡ i
  pub holder : (node_at ns i).previous.number ≡ no_slot → (node_at ns i).parent.number ≢ no_slot
      → (node_at ns (node_at ns i).parent.number).kind ≡ kind.Container
  pub inner : (node_at ns i).previous.number ≡ no_slot → (node_at ns i).parent.number ≢ no_slot
      → d (node_at ns i).parent.number ≡ i

module _ (ns : List Node) (d r : ℕ → ℕ) (ends : Node → ℕ) (m : ℕ) (all : AreJoints ns d r ends m) where
  not_none : (k : ℕ) → IsUsed (node_at ns k) → k ≢ no_slot
  not_none k l e = absurd (omega (arith, l, ap (λ v. use_count (node_at ns v).kind) e, ap use_count all.none))

  -- A tree that begins at a used slot has it.
  begun : (t : Numbered) (i : ℕ) → first_slot t ≡ i → IsUsed (node_at ns i) → 0 < tally i t
  begun t i e u = elim (first-in t) [
    | inl n ↦ absurd (not_none i u (sym e ∙ n))
    | inr l ↦ subst (λ v. 0 < tally v t) e l
  ]

  -- Where a container stands in the tree, its first member does.
  inner-in : (fuel i b : ℕ) → IsUsed (node_at ns i) → m ≤ fuel + r i → (node_at ns b).kind ≡ kind.Container
      → 0 < tally b (grown fuel ns d i) → 0 < tally (d b) (grown fuel ns d i)
  inner-in zero i b u l k x = absurd (omega arith)
  inner-in (suc fuel) i b u l k x =
      let j = all.joint i u in
      let next = (node_at ns i).next.number in
      let rest : 0 < tally b (grown fuel ns d next) → 0 < tally (d b) (grown fuel ns d next) = λ y.
      elim (cases_eq next no_slot) [
        | inl e ↦ absurd (omega (
          arith,
          y,
          ap (tally b) (grown-none ns d fuel next (ap (λ v. (node_at ns v).kind) e ∙ all.none)),
        ))
        | inr ne ↦
            let n = j.next ne in
            inner-in fuel next b n.used (omega (arith, n.rank)) k y
      ] in
      elim (kinds (node_at ns i).kind u) [
        | inl c ↦
            let n = j.inner c in
            let here = grown-container ns d fuel i c in
            let inner = grown fuel ns d (d i) in
            let more : tally (d b) inner + tally (d b) (grown fuel ns d next) ≤ tally (d b) (grown (suc fuel) ns d i) =
            omega (arith, ap (tally (d b)) here) in
            let split : 0 < same b i + tally b inner + tally b (grown fuel ns d next) = omega (arith, ap (tally b) here, x) in
            elim (cases_eq b i) [
              | inl e ↦
                  let first = begun inner (d i) (grown-stands ns d r ends m all fuel (d i) n.used (omega (arith, n.rank))).first
                  n.used in
                  omega (arith, more, subst (λ v. 0 < tally (d v) inner) (sym e) first)
              | inr ne ↦ elim (cases_lt 0 (tally b inner)) [
                | inl y ↦ omega (arith, more, inner-in fuel (d i) b n.used (omega (arith, n.rank)) k y)
                | inr y ↦ omega (arith, more, rest (omega (arith, split, same-ne b i ne)))
              ]
            ]
        | inr (inl c) ↦
            let here = grown-alloc ns d fuel i c in
            let ne : b ≢ i = λ e. let z = sym k ∙ ap (λ v. (node_at ns v).kind) e ∙ c in cc in
            let y : 0 < tally b (grown fuel ns d next) = omega (arith, ap (tally b) here, x, same-ne b i ne) in
            omega (arith, ap (tally (d b)) here, rest y)
        | inr (inr c) ↦
            let here = grown-free ns d fuel i c in
            let ne : b ≢ i = λ e. let z = sym k ∙ ap (λ v. (node_at ns v).kind) e ∙ c in cc in
            let y : 0 < tally b (grown fuel ns d next) = omega (arith, ap (tally b) here, x, same-ne b i ne) in
            omega (arith, ap (tally (d b)) here, rest y)
      ]

  module _ (top : ℕ) (first : IsUsed (node_at ns top)) (led : (i : ℕ) → IsUsed (node_at ns i) → IsLedTo ns d r top i) where
    abbrev tree : Numbered
    tree = grown m ns d top

    standing : IsTreeAt ns ends top tree
    standing = grown-stands ns d r ends m all m top first (omega arith)

    reached : (f k : ℕ) → r k < f → IsUsed (node_at ns k) → 0 < tally k tree
    reached zero k l u = absurd (omega arith)
    reached (suc f) k l u =
        let n = node_at ns k in
        let e = led k u in
        elim (cases_eq (before n) no_slot) [
          | inl z ↦ subst (λ v. 0 < tally v tree) (sym (e.top z)) (begun tree top standing.first first)
          | inr nz ↦
              let b : 0 < tally (before n) tree = reached f (before n) (omega (arith, e.rank nz)) (e.used nz) in
              elim (cases_eq n.previous.number no_slot) [
                | inl p ↦
                    let h = before-first n p in
                    let q : n.parent.number ≢ no_slot = λ z. nz (h ∙ z) in
                    subst (λ v. 0 < tally v tree) (e.inner p q)
                    (inner-in m top n.parent.number first (omega arith) (e.holder p q) (subst (λ v. 0 < tally v tree) h b))
                | inr p ↦
                    let h = before-after n p in
                    let at : 0 < tally n.previous.number tree = subst (λ v. 0 < tally v tree) h b in
                    elim (next-in ns n.previous.number (sequence_of (node_at ns top)) (node_at ns top).previous.number
                    (place_of (node_at ns top)) tree standing.stands at) [
                      | inl z ↦ absurd (not_none k u (sym (e.after p) ∙ z))
                      | inr y ↦ subst (λ v. 0 < tally v tree) (e.after p) y
                    ]
              ]
        ]

    fall : RanksFall ns r
    fall k u nz = (led k u).rank nz

    -- Each used slot stands once in the tree, and no other slot does.
    pub grown-numbered : (k : ℕ) → tally k tree ≡ use_count (node_at ns k).kind
    grown-numbered k =
        let o = grown-once ns d r ends m all fall m top first (omega arith) in
        elim (cases_lt 0 (use_count (node_at ns k).kind)) [
          | inl u ↦ omega (arith, o.once k, reached (suc (r k)) k (omega arith) u, used-le (node_at ns k).kind)
          | inr z ↦ elim (cases_lt 0 (tally k tree)) [
            | inl x ↦ absurd (omega (arith, o.used k x))
            | inr x ↦ omega (arith, z, x)
          ]
        ]

    -- So the slots hold it.
    pub grown-Stands : (node_at ns top).previous.number ≡ no_slot → place_of (node_at ns top) ≡ 0
        → Stands ns (sequence_of (node_at ns top)) tree
    grown-Stands p q = record {
      standing = subst (λ v. Standing ns (sequence_of (node_at ns top)) v 0 tree) p
          (subst (λ v. Standing ns (sequence_of (node_at ns top)) (node_at ns top).previous.number v tree) q standing.stands);
      numbered = grown-numbered;
    }
