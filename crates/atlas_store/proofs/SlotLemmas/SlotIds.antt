-- The ids of a standing tree are those of its allocated slots.
use Rattle.std.proofs.Common.{ℕ, ◌+◌, ◌%◌, ◌^◌, ◌<◌, ◌≤◌, ◌≡◌, ◌==◌, length, List, refl, ap, ap₂, ◌∙◌, inl, inr, arith, eqb, rules}
use Rattle.std.specs.List.{Contains}
use Rattle.std.proofs.lemmas.Bool.{eq-eqb, ne_eqb}
use Rattle.std.proofs.lemmas.List.Elements.{Contains-append_left, Contains-append_right, Contains-append_cases}
use Rattle.std.proofs.lemmas.List.Sums.{sum_by-cons, sum_by-append}
use Rattle.std.proofs.Math.Nat.{add-mul-mod_self_left, mod-eq_of_lt}
use Rattle.atlas_store.specs.declared.slots.Node.{Node}
use Rattle.atlas_store.specs.declared.slots.NodeKind.TheVariants as kind
use Rattle.atlas_model.specs.Trees.{ids, slot_count}
use Rattle.atlas_store.specs.Slots.{node_at}
use Rattle.atlas_search.specs.Numbers.{no_slot, same}
use Rattle.atlas_store.specs.Slots.Numbered.{Numbered, tally, erase, id_of, End, Free, Alloc, Seq}
use Rattle.atlas_store.specs.Slots.Standing.{Sequence, Standing, Stands, inside}
use Rattle.atlas_store.proofs.SlotLemmas.Frames.{same-self, same-ne, split_pos}
use Rattle.atlas_store.proofs.SlotLemmas.JoinWrites.{used-inside}
use Rattle.atlas_model.proofs.TreeLemmas.TreeBasics.{one_if}
use Rattle.atlas_model.proofs.TreeLemmas.TreeIds.{Contains-first, Contains-later, Contains-none, Contains-cons_cases}
use Rattle.atlas_store.proofs.SlotLemmas.Weights.{alloc_tally}

-- A member that is the allocated leaf of this id.
pub record IsIdAt (ns : List Node) (n : Numbered) (id i : ℕ) : Type 0 where
  pub member : 0 < tally i n
  pub kind : (node_at ns i).kind ≡ kind.Alloc
  pub names : id_of i (node_at ns i).generation ≡ id

module _ (ns : List Node) where
  wider : (id : ℕ) (m n : Numbered) → ((i : ℕ) → tally i m ≤ tally i n) → (i : ℕ) × IsIdAt ns m id i
      → (i : ℕ) × IsIdAt ns n id i
  wider id m n l x = grind arith

  -- Each id is that of an allocated slot.
  pub id_slot : (s : Sequence) (before p : ℕ) (n : Numbered) (id : ℕ) → Standing ns s before p n
      → Contains (ids (erase n)) id → (i : ℕ) × IsIdAt ns n id i
  id_slot s before p End id h at = absurd (Contains-none id at)
  id_slot s before p (Free j e rest) id h at = wider id rest (Free j e rest) (λ i. omega arith) (id_slot s j (p + e) rest id h.2 at)
  id_slot s before p (Alloc j g e rest) id h at =
      elim (Contains-cons_cases (id_of j g) (ids (erase rest)) id at) [
        | inl is ↦ (j, record { member = omega (arith, same-self j); kind = h.0.kind; names = ap (id_of j) h.2 ∙ is })
        | inr later ↦ wider id rest (Alloc j g e rest) (λ i. omega arith) (id_slot s j (p + e) rest id h.3 later)
      ]
  id_slot s before p (Seq j e inner rest) id h at =
      elim (Contains-append_cases (ids (erase inner)) (ids (erase rest)) id at) [
        | inl x ↦ wider id inner (Seq j e inner rest) (λ i. omega arith) (id_slot (inside s j p e) no_slot s.start inner id h.2 x)
        | inr x ↦ wider id rest (Seq j e inner rest) (λ i. omega arith) (id_slot s j (p + e) rest id h.3 x)
      ]

  -- The id of each allocated slot is one of the tree's.
  pub slot_id : (s : Sequence) (before p : ℕ) (n : Numbered) (id i : ℕ) → Standing ns s before p n → IsIdAt ns n id i
      → Contains (ids (erase n)) id
  slot_id s before p End id i h f = let here = f.member in absurd (omega arith)
  slot_id s before p (Free j e rest) id i h f = search (rules, slot_id s j (p + e) rest id i h.2, same-ne)
  slot_id s before p (Alloc j g e rest) id i h f =
      search (rules, Contains-first, Contains-later, slot_id s j (p + e) rest id i h.3, same-ne)
  slot_id s before p (Seq j e inner rest) id i h f =
      search (
        rules,
        split_pos,
        Contains-append_left,
        Contains-append_right,
        slot_id _ _ _ inner id i h.2,
        slot_id s j (p + e) rest id i h.3,
        same-ne,
      )

  -- A slot that isn't allocated is that of no allocated member.
  pub alloc_tally-none : (s : Sequence) (before p i : ℕ) (n : Numbered) → ((node_at ns i).kind ≡ kind.Alloc → ⊥)
      → Standing ns s before p n → alloc_tally i n ≡ 0
  alloc_tally-none s before p i End another h = refl
  alloc_tally-none s before p i (Free j e rest) another h = alloc_tally-none s j (p + e) i rest another h.2
  alloc_tally-none s before p i (Alloc j g e rest) another h =
      grind (arith, same-ne, alloc_tally-none s j (p + e) i rest another h.3)
  alloc_tally-none s before p i (Seq j e inner rest) another h =
      omega (arith, alloc_tally-none (inside s j p e) no_slot s.start i inner another h.2, alloc_tally-none s j (p + e) i rest another h.3)

-- An id tells its slot.
pub id_of-slot : (i g : ℕ) → i < 2 ^ 24 → id_of i g % 2 ^ 24 ≡ i
id_of-slot i g l = add-mul-mod_self_left i (2 ^ 24) g ∙ mod-eq_of_lt l

one_if-same : (x j k : ℕ) → k ≡ j → one_if (eqb k x) ≡ same x j
one_if-same x j k e = grind (arith, one_if, eq-eqb, ne_eqb)

-- How often the ids name a slot.
pub slot_count-tally : (id : ℕ) (n : Numbered) → ((j : ℕ) → 0 < tally j n → j < 2 ^ 24)
    → slot_count id (ids (erase n)) ≡ alloc_tally (id % 2 ^ 24) n
slot_count-tally id End l = refl
slot_count-tally id (Free j e rest) l = slot_count-tally id rest (λ x h. l x (omega arith))
slot_count-tally id (Alloc j g e rest) l =
    let small : j < 2 ^ 24 = l j (omega (arith, same-self j)) in
    sum_by-cons (λ k. one_if (k % 2 ^ 24 == id % 2 ^ 24)) (id_of j g) (ids (erase rest))
    ∙ ap₂ (λ x y. x + y) (one_if-same (id % 2 ^ 24) j (id_of j g % 2 ^ 24) (id_of-slot j g small))
    (slot_count-tally id rest (λ x h. l x (omega arith)))
slot_count-tally id (Seq j e inner rest) l =
    grind (arith, sum_by-append, one_if, slot_count-tally id inner, slot_count-tally id rest)

-- For all slots of an atlas.

small_slots : (ns : List Node) (s : Sequence) (n : Numbered) → Stands ns s n → length ns ≤ 2 ^ 24 → (j : ℕ)
    → 0 < tally j n → j < 2 ^ 24
small_slots ns s n h short j l = let here : j < length ns = used-inside ns j (rw (← h.numbered j) l) in omega arith

-- No id names a slot that isn't allocated.
pub slot_count-none : (ns : List Node) (s : Sequence) (n : Numbered) (id : ℕ) → Stands ns s n → length ns ≤ 2 ^ 24
    → ((node_at ns (id % 2 ^ 24)).kind ≡ kind.Alloc → ⊥) → slot_count id (ids (erase n)) ≡ 0
slot_count-none ns s n id h short another =
    slot_count-tally id n (small_slots ns s n h short) ∙ alloc_tally-none ns s no_slot 0 (id % 2 ^ 24) n another h.standing
