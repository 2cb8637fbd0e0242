-- What is granted is aligned where the rectangle of each granted slot is, and no two ids name one slot.
use Rattle.std.proofs.Common.{ℕ, ◌+◌, ◌%◌, ◌^◌, ◌<◌, ◌≤◌, ◌≡◌, List, sym, subst, length, arith}
use Rattle.std.specs.List.{All}
use Rattle.std.proofs.lemmas.List.Elements.{All-append, All-cons, All-nil}
use Rattle.atlas_model.specs.Boxes.{box_sides, other}
use Rattle.atlas_model.specs.Choice.{Options}
use Rattle.atlas_model.specs.Pixels.{box_of}
use Rattle.atlas_model.specs.States.{IsAligned}
use Rattle.atlas_model.specs.Trees.{AreApart, Grant, grant, ids}
use Rattle.atlas_model.proofs.TreeLemmas.TreeBasics.{live_among, live_among-seq}
use Rattle.atlas_search.specs.Numbers.{no_slot}
use Rattle.atlas_store.specs.declared.slots.Node.{Node}
use Rattle.atlas_store.specs.declared.slots.NodeKind.TheVariants as kind
use Rattle.atlas_store.specs.Slots.{node_at}
use Rattle.atlas_store.specs.Slots.Numbered.{Numbered, erase, id_of, tally, End, Free, Alloc, Seq}
use Rattle.atlas_store.specs.Slots.Standing.{Sequence, Standing, Stands, inside, member_box, spot}
use Rattle.atlas_store.proofs.SlotLemmas.Frames.{used-inside, used-le}
use Rattle.atlas_store.proofs.SlotLemmas.SlotIds.{slot_count-tally}
use Rattle.atlas_store.proofs.SlotLemmas.Spots.{moved-spot, spot-other}
use Rattle.atlas_store.proofs.SlotLemmas.Weights.{alloc_tally}

abbrev pub AreAligned : Options → List Grant → Type 0
AreAligned o gs = All (λ g. IsAligned o (box_sides g.box)) gs

module _ (o : Options) (ns : List Node)
    (each : (i : ℕ) → (node_at ns i).kind ≡ kind.Alloc → IsAligned o (box_sides (box_of (node_at ns i).area))) where
  pub aligned-Standing : (s : Sequence) (b q : ℕ) (n : Numbered) → Standing ns s b q n
      → AreAligned o (live_among s.axis (spot s.axis q s.start) s.width (erase n))
  aligned-Standing s b q End h = All-nil _
  aligned-Standing s b q (Free j e rest) h =
      subst (λ v. AreAligned o (live_among s.axis v s.width (erase rest))) (sym (moved-spot s.axis q s.start e))
      (aligned-Standing s j (q + e) rest h.2)
  aligned-Standing s b q (Alloc j g e rest) h =
      let here : IsAligned o (box_sides (member_box s q e)) =
      subst (λ a. IsAligned o (box_sides (box_of a))) h.1 (each j h.0.kind) in
      All-cons (λ x. IsAligned o (box_sides x.box)) (grant (id_of j g) (member_box s q e)) _ here
      (subst (λ v. AreAligned o (live_among s.axis v s.width (erase rest))) (sym (moved-spot s.axis q s.start e))
      (aligned-Standing s j (q + e) rest h.3))
  aligned-Standing s b q (Seq j e inner rest) h =
      subst (AreAligned o) (sym (live_among-seq s.axis (spot s.axis q s.start) s.width e (erase inner) (erase rest)))
      (All-append (λ x. IsAligned o (box_sides x.box)) _ _
      (subst (λ v. AreAligned o (live_among (other s.axis) v e (erase inner))) (spot-other s.axis q s.start)
      (aligned-Standing (inside s j q e) no_slot s.start inner h.2))
      (subst (λ v. AreAligned o (live_among s.axis v s.width (erase rest))) (sym (moved-spot s.axis q s.start e))
      (aligned-Standing s j (q + e) rest h.3)))

alloc_tally_le : (i : ℕ) (n : Numbered) → alloc_tally i n ≤ tally i n
alloc_tally_le i End = omega arith
alloc_tally_le i (Free j e rest) = omega (arith, alloc_tally_le i rest)
alloc_tally_le i (Alloc j g e rest) = omega (arith, alloc_tally_le i rest)
alloc_tally_le i (Seq j e inner rest) = omega (arith, alloc_tally_le i inner, alloc_tally_le i rest)

-- No two ids name one slot.
pub ids-apart : (ns : List Node) (s : Sequence) (n : Numbered) → Stands ns s n → length ns ≤ 2 ^ 24
    → AreApart (ids (erase n))
ids-apart ns s n h short id =
    let small : (j : ℕ) → 0 < tally j n → j < 2 ^ 24 = λ j l.
    omega (arith, used-inside ns j (omega (arith, h.numbered j, l))) in
    omega (
      arith,
      slot_count-tally id n small,
      alloc_tally_le (id % 2 ^ 24) n,
      h.numbered (id % 2 ^ 24),
      used-le (node_at ns (id % 2 ^ 24)).kind,
    )
