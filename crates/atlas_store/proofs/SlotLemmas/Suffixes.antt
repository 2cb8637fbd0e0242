-- The members from a given one on.
use Rattle.std.proofs.Common.{ℕ, ◌+◌, ◌<◌, ◌≤◌, ◌≡◌, List, sym, inl, inr, arith}
use Rattle.std.proofs.lemmas.Bool.{cases_eq}
use Rattle.atlas_store.specs.declared.slots.Node.{Node}
use Rattle.atlas_search.specs.Numbers.{no_slot}
use Rattle.atlas_store.specs.Slots.Numbered.{Numbered, tally, first_slot, End, Free, Alloc, Seq}
use Rattle.atlas_store.specs.Slots.Standing.{Sequence, Standing, inside}
use Rattle.atlas_store.proofs.SlotLemmas.Frames.{same-ne, split_pos}

pub record Suffix (ns : List Node) (i : ℕ) (n : Numbered) : Type 0 where
  pub at : Sequence
  pub before : ℕ
  pub start : ℕ
  pub members : Numbered
  pub standing : Standing ns at before start members
  pub begins : first_slot members ≡ i
  pub within : (k : ℕ) → tally k members ≤ tally k n
  pub here : 0 < tally i members

abbrev pub suffix-wider : (ns : List Node) (i : ℕ) (m n : Numbered) → ((k : ℕ) → tally k m ≤ tally k n) → Suffix ns i m
    → Suffix ns i n
suffix-wider ns i m n l f =
    record {
      at = f.at;
      before = f.before;
      start = f.start;
      members = f.members;
      standing = f.standing;
      begins = f.begins;
      within =
          λ k. omega (arith, f.within k, l k);
      here = f.here;
    }

-- Each member begins a suffix of its sequence.
pub suffix-at : (ns : List Node) (i : ℕ) (s : Sequence) (before p : ℕ) (n : Numbered) → Standing ns s before p n
    → 0 < tally i n → Suffix ns i n
suffix-at ns i s before p End h l = absurd (omega arith)
suffix-at ns i s before p (Free j e rest) h l =
    elim (cases_eq i j) [
      | inl q ↦ record {
        at = s;
        before = before;
        start = p;
        members = Free j e rest;
        standing = h;
        begins = sym q;
        within =
            λ k. omega arith;
        here = l;
      }
      | inr ne ↦ suffix-wider ns i rest (Free j e rest) (λ k. omega arith)
          (suffix-at ns i s j (p + e) rest h.2 (omega (arith, same-ne i j ne)))
    ]
suffix-at ns i s before p (Alloc j g e rest) h l =
    elim (cases_eq i j) [
      | inl q ↦ record {
        at = s;
        before = before;
        start = p;
        members = Alloc j g e rest;
        standing = h;
        begins = sym q;
        within =
            λ k. omega arith;
        here = l;
      }
      | inr ne ↦ suffix-wider ns i rest (Alloc j g e rest) (λ k. omega arith)
          (suffix-at ns i s j (p + e) rest h.3 (omega (arith, same-ne i j ne)))
    ]
suffix-at ns i s before p (Seq j e inner rest) h l =
    elim (cases_eq i j) [
      | inl q ↦ record {
        at = s;
        before = before;
        start = p;
        members = Seq j e inner rest;
        standing = h;
        begins = sym q;
        within =
            λ k. omega arith;
        here = l;
      }
      | inr ne ↦ elim (split_pos (tally i inner) (tally i rest) (omega (arith, same-ne i j ne))) [
        | inl a ↦ suffix-wider ns i inner (Seq j e inner rest) (λ k. omega arith)
            (suffix-at ns i (inside s j p e) no_slot s.start inner h.2 a)
        | inr b ↦ suffix-wider ns i rest (Seq j e inner rest) (λ k. omega arith) (suffix-at ns i s j (p + e) rest h.3 b)
      ]
    ]
