-- What leads from the first member on leads to each member of a tree.
use Rattle.std.proofs.Common.{ℕ, ◌+◌, ◌<◌, ◌≤◌, ◌≡◌, ◌≢◌, List, sym, inl, inr, arith, subst}
use Rattle.std.proofs.lemmas.Bool.{cases_eq, cases_lt}
use Rattle.atlas_image.specs.Ranks.{LeadsToSlot}
use Rattle.atlas_search.specs.Numbers.{no_slot}
use Rattle.atlas_store.specs.declared.slots.Node.{Node}
use Rattle.atlas_store.specs.Slots.Numbered.{Numbered, first_slot, tally, End, Free, Alloc, Seq}
use Rattle.atlas_store.specs.Slots.Standing.{Sequence, Standing, inside}
use Rattle.atlas_store.proofs.SlotLemmas.Frames.{same-self, same-ne, ne-from_same}

module _ (ns : List Node) (d : ℕ → ℕ) (P : ℕ → Type 0) (all : Numbered)
    (firsts : (i p e : ℕ) (t : Sequence) (inner : Numbered) → Standing ns (inside t i p e) no_slot t.start inner
    → 0 < tally i all → first_slot inner ≢ no_slot → d i ≡ first_slot inner)
    (closed : (a x : ℕ) → 0 < tally a all → P a → LeadsToSlot ns d a x → x ≢ no_slot → P x) where
  pub covered : (s : Sequence) (b p : ℕ) (m : Numbered) → ((x : ℕ) → tally x m ≤ tally x all) → tally no_slot all ≡ 0
      → Standing ns s b p m → (first_slot m ≢ no_slot → P (first_slot m)) → (x : ℕ) → 0 < tally x m → P x
  covered s b p End less none h first x l = absurd (omega arith)
  covered s b p (Free i e rest) less none h first x l =
      let here : P i = first (ne-from_same no_slot i (omega (arith, less no_slot))) in
      let member : 0 < tally i all = omega (arith, less i, same-self i) in
      elim (cases_eq x i) [
        | inl q ↦ subst P (sym q) here
        | inr ne ↦ covered s i (p + e) rest (λ y. omega (arith, less y)) none h.2
            (λ z. closed i (first_slot rest) member here (inl h.0.next) z) x (omega (arith, same-ne x i ne))
      ]
  covered s b p (Alloc i g e rest) less none h first x l =
      let here : P i = first (ne-from_same no_slot i (omega (arith, less no_slot))) in
      let member : 0 < tally i all = omega (arith, less i, same-self i) in
      elim (cases_eq x i) [
        | inl q ↦ subst P (sym q) here
        | inr ne ↦ covered s i (p + e) rest (λ y. omega (arith, less y)) none h.3
            (λ z. closed i (first_slot rest) member here (inl h.0.next) z) x (omega (arith, same-ne x i ne))
      ]
  covered s b p (Seq i e inner rest) less none h first x l =
      let here : P i = first (ne-from_same no_slot i (omega (arith, less no_slot))) in
      let member : 0 < tally i all = omega (arith, less i, same-self i) in
      elim (cases_eq x i) [
        | inl q ↦ subst P (sym q) here
        | inr ne ↦ elim (cases_lt 0 (tally x inner)) [
          | inl y ↦ covered (inside s i p e) no_slot s.start inner (λ v. omega (arith, less v)) none h.2
              (λ z. closed i (first_slot inner) member here (inr (h.0.kind, firsts i p e s inner h.2 member z)) z) x y
          | inr y ↦ covered s i (p + e) rest (λ v. omega (arith, less v)) none h.3
              (λ z. closed i (first_slot rest) member here (inl h.0.next) z) x (omega (arith, same-ne x i ne))
        ]
      ]
