-- The first members, as they are noted one after another.
use Rattle.std.proofs.Common.{ℕ, ◌+◌, ◌<◌, ◌≡◌, ◌≢◌, ◌⊎◌, List, refl, sym, ap, ◌∙◌, inl, inr, arith, subst, length}
use Rattle.std.proofs.Common.{get_or, get_or-set_other, get_or-set_same, length-set, set}
use Rattle.std.proofs.lemmas.Bool.{cases_eq, cases_lt, eq-eqb, ne_eqb}
use Rattle.atlas_image.specs.declared.order.Order.{Order}
use Rattle.atlas_image.specs.Members.{IsFirstOf, IsUsed, first_in, no_first}
use Rattle.atlas_image.specs.Ranks.{AreNoted, IsNoting}
use Rattle.atlas_search.specs.declared.link.Link.{Link}
use Rattle.atlas_search.specs.Numbers.{no_slot}
use Rattle.atlas_store.specs.declared.slots.Node.{Node}
use Rattle.atlas_store.specs.Slots.{node_at}

pub noted-none : {A : Type 0} (ns : List Node) (o : Order A) → AreNoted ns o 0
noted-none ns o = λ k l. absurd (omega (arith, l))

pub noted-more : {A : Type 0} (ns : List Node) (old new : Order A) (i : ℕ) (at : Link) → at.number ≡ i
    → length old.firsts.items ≡ length ns → IsNoting old new (node_at ns i) at → AreNoted ns old i → AreNoted ns new (i + 1)
noted-more ns old new i at is long w h = λ k l u p m.
    let c = (node_at ns k).parent.number in
    let first : IsFirstOf (node_at ns k) c = record { used = u; parent = refl; previous = p } in
    elim (w.kept c) [
      | inl same ↦ elim (cases_lt k i) [
        | inl b ↦ subst (λ (v : Link). IsFirstOf (node_at ns v.number) c) (sym same) (h k b u p m)
        | inr b ↦
            let e : k ≡ i = omega (arith, l, b) in
            let v : IsNoting old new (node_at ns k) at = subst (λ x. IsNoting old new (node_at ns x) at) (sym e) w in
            let n : first_in new c ≡ at = v.noted u p (subst (λ x. (c ≡ no_slot) ⊎ (c < x)) (sym long) m) in
            subst (λ (x : Link). IsFirstOf (node_at ns x.number) c) (sym n)
            (subst (λ x. IsFirstOf (node_at ns x) c) (e ∙ sym is) first)
      ]
      | inr f ↦
          subst (λ (x : Link). IsFirstOf (node_at ns x.number) c) (sym f.1)
          (subst (λ x. IsFirstOf (node_at ns x) c) (sym is) f.0)
    ]

pub first_moved : {A : Type 0} (o p : Order A) (i : ℕ) → p.top ≡ o.top → p.firsts.items ≡ o.firsts.items
    → first_in p i ≡ first_in o i
first_moved o p i e f = rw (e, f) refl

first_top : {A : Type 0} (o : Order A) (i : ℕ) → i ≡ no_slot → first_in o i ≡ o.top
first_top o i e = rw (eq-eqb i no_slot e) refl

first_inside : {A : Type 0} (o : Order A) (i : ℕ) → i ≢ no_slot → first_in o i ≡ get_or o.firsts.items i no_first
first_inside o i ne = rw (ne_eqb i no_slot ne) refl

-- A slot that comes first nowhere is not noted.
pub noting-none : {A : Type 0} (o : Order A) (n : Node) (at : Link)
    → (IsUsed n → n.previous.number ≡ no_slot → (n.parent.number ≡ no_slot) ⊎ (n.parent.number < length o.firsts.items) → ⊥)
    → IsNoting o o n at
noting-none o n at never =
    record { noted = λ u p m. absurd (never u p m); kept = λ i. inl refl; long = refl; ranks = refl }

module _ {A : Type 0} (old new : Order A) (n : Node) (at : Link) (used : IsUsed n) (alone : n.previous.number ≡ no_slot)
    (ranks : new.ranks.items ≡ old.ranks.items) where
  pub noting-inside : n.parent.number ≢ no_slot → n.parent.number < length old.firsts.items → new.top ≡ old.top
      → new.firsts.items ≡ set old.firsts.items n.parent.number at → IsNoting old new n at
  noting-inside ne l t f =
      let here : get_or new.firsts.items n.parent.number no_first ≡ at =
      ap (λ v. get_or v n.parent.number no_first) f ∙ get_or-set_same old.firsts.items n.parent.number at no_first l in
      record {
        noted = λ u p m. first_inside new n.parent.number ne ∙ here;
        kept = λ i. elim (cases_eq i no_slot) [
          | inl z ↦ inl (first_top new i z ∙ t ∙ sym (first_top old i z))
          | inr z ↦ elim (cases_eq i n.parent.number) [
            | inl e ↦ inr (
              record { used = used; parent = sym e; previous = alone },
              first_inside new i z ∙ ap (λ v. get_or new.firsts.items v no_first) e ∙ here,
            )
            | inr y ↦ inl (first_inside new i z ∙ ap (λ v. get_or v i no_first) f
                ∙ get_or-set_other old.firsts.items n.parent.number i at no_first y ∙ sym (first_inside old i z))
          ]
        ];
        long = ap (λ (v : List Link). length v) f ∙ length-set old.firsts.items n.parent.number at;
        ranks = ranks;
      }
