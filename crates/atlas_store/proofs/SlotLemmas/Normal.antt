-- Joining and lifting keep the normal form, and marking by slot is marking by id.
use Rattle.std.proofs.Common.{ℕ, ◌+◌, ◌<◌, ◌≡◌, List, refl, sym, ap, ◌∙◌, ◌≤◌, Bool, inl, inr, arith, eqb}
use Rattle.std.proofs.lemmas.Bool.{cases_eq, eq-eqb, ne_eqb, cond-true, cond-false}
use Rattle.atlas_store.specs.declared.slots.Node.{Node}
use Rattle.atlas_store.specs.Slots.{node_at}
use Rattle.atlas_search.specs.Numbers.{no_slot, same}
use Rattle.atlas_model.specs.Trees as tree
use Rattle.atlas_model.specs.Changes.{nf, mark, only}
use Rattle.atlas_store.specs.Slots.Numbered.{Numbered, tally, is_free_at, is_seq_at, marked, joined, lifted, erase, id_of, numbers, End}
use Rattle.atlas_store.specs.Slots.Numbered.{Free, Alloc, Seq}
use Rattle.atlas_store.specs.Slots.Standing.{Sequence, Standing, inside}
use Rattle.atlas_store.proofs.SlotLemmas.Frames.{same-self}
use Rattle.atlas_store.proofs.SlotLemmas.MarkedLeaves.{marked-absent}
use Rattle.atlas_store.proofs.SlotLemmas.Edits.{IsCarried, edited-keeps, joining, lifting}
use Rattle.atlas_model.proofs.TreeLemmas.TreeNormal.{free_before-twice}

-- A member that keeps its normal form keeps that of the whole.
nf-kept : (is : Numbered → Bool) → IsCarried is (λ a m n. nf (erase n) ≡ nf (erase m))
nf-kept is = grind arith

pub nf-joined : (i : ℕ) (n : Numbered) → nf (erase (joined i n)) ≡ nf (erase n)
nf-joined i = edited-keeps (is_free_at i) joining _ (nf-kept _) (grind (arith, free_before-twice)) 0

pub nf-lifted : (i : ℕ) (n : Numbered) → nf (erase (lifted i n)) ≡ nf (erase n)
nf-lifted i = edited-keeps (is_seq_at i) lifting _ (nf-kept _) (grind arith) 0

-- To mark the leaf at slot i is to mark the leaf with its id.
pub erase-marked : (ns : List Node) (i : ℕ) (s : Sequence) (b p : ℕ) (n : Numbered) → i < 16777216
    → ((k : ℕ) → 0 < tally k n → k < 16777216) → ((k : ℕ) → tally k n ≤ 1) → Standing ns s b p n
    → erase (marked i n) ≡ mark (only (id_of i (node_at ns i).generation)) (erase n)
erase-marked ns i s b p End li below once h = refl
erase-marked ns i s b p (Free j e rest) li below once h = grind (arith, erase-marked ns i s j (p + e) rest li)
erase-marked ns i s b p (Alloc j g e rest) li below once h =
    let id = id_of i (node_at ns i).generation in
    let x = id_of j g in
    let m : erase (marked i rest) ≡ mark (only id) (erase rest) = erase-marked ns i s j (p + e) rest li (λ k l. below k (omega arith))
    (λ k. omega (arith, once k)) h.3 in
    let lj : j < 16777216 = below j (omega (arith, same-self j)) in
    elim (cases_eq i j) [
      | inl q ↦
          let at_i : (node_at ns i).generation ≡ g = rw q h.2 in
          let same_id : x ≡ id = omega arith in
          ap erase (cond-true (eqb i j) (Free j e rest) (Alloc j g e (marked i rest)) (eq-eqb i j q)) ∙
          ap (tree.Free e) (sym (ap erase (marked-absent i rest (omega (arith, once i, same-self i, ap (same i) q)))) ∙ m) ∙
          sym (cond-true (eqb x id) (tree.Free e (mark (only id) (erase rest))) (tree.Alloc x e (mark (only id) (erase rest)))
          (eq-eqb x id same_id))
      | inr ne ↦
          let other_id : x ≡ id → ⊥ = (λ q. ne (omega arith)) in
          ap erase (cond-false (eqb i j) (Free j e rest) (Alloc j g e (marked i rest)) (ne_eqb i j ne)) ∙ ap (tree.Alloc x e) m ∙
          sym (cond-false (eqb x id) (tree.Free e (mark (only id) (erase rest))) (tree.Alloc x e (mark (only id) (erase rest)))
          (ne_eqb x id other_id))
    ]
erase-marked ns i s b p (Seq j e inner rest) li below once h =
    grind (arith, erase-marked ns i (inside s j p e) no_slot s.start inner li, erase-marked ns i s j (p + e) rest li)

-- The numbered tree has as many members as the tree.
pub numbers-erase : (n : Numbered) → numbers n ≡ tree.node_count (erase n)
numbers-erase End = refl
numbers-erase (Free i e rest) = ap (λ v. 1 + v) (numbers-erase rest)
numbers-erase (Alloc i g e rest) = ap (λ v. 1 + v) (numbers-erase rest)
numbers-erase (Seq i e inner rest) = grind (arith, numbers-erase inner, numbers-erase rest)
