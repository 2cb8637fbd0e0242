-- The free slots of slots that stand for a tree: their boxes are the tree's free boxes, and their rectangles are exact.
use Rattle.std.proofs.Common.{ℕ, ◌+◌, ◌<◌, ◌≤◌, ◌≡◌, ◌⊎◌, inl, inr, List, ◌∷◌, ◌++◌, refl, sym, ap, ◌∙◌, arith, length, zero, suc, subst}
use Rattle.std.proofs.Common.{false}
use Rattle.std.specs.Prelude.{Contains, slice_index_or}
use Rattle.std.proofs.lemmas.Bool.{cases_eq, cases_lt}
use Rattle.std.proofs.lemmas.List.Elements.{Contains-append_left, Contains-append_right, Contains-append_cases}
use Rattle.atlas_store.specs.declared.slots.Slot.{Slot}
use Rattle.atlas_search.specs.declared.link.Link.{Link}
use Rattle.atlas_store.specs.declared.slots.Node.{Node}
use Rattle.atlas_store.specs.declared.slots.NodeKind.{NodeKind}
use Rattle.atlas_store.specs.declared.slots.NodeKind.TheVariants as kind
use Rattle.atlas_model.specs.Boxes.{Box, moved, origin, other}
use Rattle.atlas_model.specs.Pixels.{box_of, rectangle_of}
use Rattle.atlas_model.specs.Trees.{leaves, ungranted, IsCut}
use Rattle.atlas_store.specs.Slots.{nodes, rings, node_at, use_count}
use Rattle.atlas_search.specs.Numbers.{no_slot}
use Rattle.atlas_store.specs.Slots.Numbered.{Numbered, tally, erase, End, Free, Alloc, Seq}
use Rattle.atlas_store.specs.Slots.Standing.{Sequence, Standing, Stands, spot, member_box, inside}
use Rattle.atlas_model.specs.Choice.{Options, AreValid}
use Rattle.atlas_store.specs.Slots.Lists.{AreFiled, Places}
use Rattle.atlas_search.specs.Rectangles.{IsSolid}
use Rattle.atlas_store.specs.Slots.Picks.{node_box, IsFreeSlot, AreFreeBoxes, IsSearchable}
use Rattle.atlas_search.proofs.Occurrences.{same-ne}
use Rattle.atlas_model.proofs.TreeLemmas.TreeBasics.{free_among, free_among-seq}
use Rattle.atlas_store.proofs.SlotLemmas.SlotBoxes.{slot-exact}
use Rattle.atlas_store.proofs.SlotLemmas.Spots.{moved-spot, spot-other, spot-origin}

-- The boxes of the free members of a sequence from p on.
abbrev free_from : Sequence → ℕ → Numbered → List Box
free_from s p n = ungranted (leaves s.axis (spot s.axis p s.start) s.width (erase n))

free_from-rest : (s : Sequence) (p e : ℕ) (rest : Numbered)
    → ungranted (leaves s.axis (moved s.axis (spot s.axis p s.start) e) s.width (erase rest)) ≡ free_from s (p + e) rest
free_from-rest s p e rest = ap (λ o. ungranted (leaves s.axis o s.width (erase rest))) (moved-spot s.axis p s.start e)

free_from-free : (s : Sequence) (p i e : ℕ) (rest : Numbered)
    → free_from s p (Free i e rest) ≡ member_box s p e ∷ free_from s (p + e) rest
free_from-free s p i e rest = ap (λ bs. member_box s p e ∷ bs) (free_from-rest s p e rest)

free_from-seq : (s : Sequence) (p i e : ℕ) (inner rest : Numbered)
    → free_from s p (Seq i e inner rest) ≡ free_from (inside s i p e) s.start inner ++ free_from s (p + e) rest
free_from-seq s p i e inner rest =
    free_among-seq s.axis (spot s.axis p s.start) s.width e (erase inner) (erase rest)
    ∙ ap (λ o. free_among (other s.axis) o e (erase inner) ++ free_among s.axis (moved s.axis (spot s.axis p s.start) e) s.width
    (erase rest)) (sym (spot-other s.axis p s.start))
    ∙ ap (λ bs. free_from (inside s i p e) s.start inner ++ bs) (free_from-rest s p e rest)

box-exact : (n : Node) (b : Box) → n.area ≡ rectangle_of b → node_box n ≡ b
box-exact n b e = ap box_of e

at_head : (b : Box) (bs : List Box) → Contains (b ∷ bs) b
at_head b bs = (0, omega arith, refl)

in_rest : (b c : Box) (bs : List Box) → Contains bs c → Contains (b ∷ bs) c
in_rest b c bs h = (suc h.0, omega (arith, h.1), h.2)

in_cases : (b c : Box) (bs : List Box) (k : ℕ) → k < length (b ∷ bs) → slice_index_or (b ∷ bs) k c ≡ c
    → (b ≡ c) ⊎ Contains bs c
in_cases b c bs zero l e = inl e
in_cases b c bs (suc k) l e = inr (k, omega arith, e)

-- Each free box is that of a free slot.
slot-of_box : (ns : List Node) (s : Sequence) (before p : ℕ) (n : Numbered) → Standing ns s before p n → (b : Box)
    → Contains (free_from s p n) b → (i : ℕ) × IsFreeSlot ns i × (node_box (node_at ns i) ≡ b)
slot-of_box ns s before p End h b c = absurd (omega (arith, c.1))
slot-of_box ns s before p (Free i e rest) h b c =
    let at : Contains (member_box s p e ∷ free_from s (p + e) rest) b = subst (λ bs. Contains bs b) (free_from-free s p i e rest) c in
    elim (in_cases (member_box s p e) b (free_from s (p + e) rest) at.0 at.1 at.2) [
      | inl x ↦ (i, h.0.kind, box-exact (node_at ns i) (member_box s p e) h.1 ∙ x)
      | inr y ↦ slot-of_box ns s i (p + e) rest h.2 b y
    ]
slot-of_box ns s before p (Alloc i g e rest) h b c =
    slot-of_box ns s i (p + e) rest h.3 b (subst (λ bs. Contains bs b) (free_from-rest s p e rest) c)
slot-of_box ns s before p (Seq i e inner rest) h b c =
    let at : Contains (free_from (inside s i p e) s.start inner ++ free_from s (p + e) rest) b =
    subst (λ bs. Contains bs b) (free_from-seq s p i e inner rest) c in
    elim (Contains-append_cases (free_from (inside s i p e) s.start inner) (free_from s (p + e) rest) b at) [
      | inl y ↦ slot-of_box ns (inside s i p e) no_slot s.start inner h.2 b y
      | inr y ↦ slot-of_box ns s i (p + e) rest h.3 b y
    ]

free≢ : (k : NodeKind) → k ≡ kind.Alloc → k ≡ kind.Free → ⊥
free≢ k a f = cc

sequence≢ : (k : NodeKind) → k ≡ kind.Container → k ≡ kind.Free → ⊥
sequence≢ k a f = cc

-- The box of each free slot is a free box.
box-of_slot : (ns : List Node) (s : Sequence) (before p : ℕ) (n : Numbered) → Standing ns s before p n → (i : ℕ)
    → IsFreeSlot ns i → 0 < tally i n → Contains (free_from s p n) (node_box (node_at ns i))
box-of_slot ns s before p End h i free l = absurd (omega arith)
box-of_slot ns s before p (Free j e rest) h i free l =
    let b = node_box (node_at ns i) in
    subst (λ bs. Contains bs b) (sym (free_from-free s p j e rest)) (elim (cases_eq i j) [
      | inl x ↦ subst (Contains (member_box s p e ∷ free_from s (p + e) rest))
          (sym (ap (λ k. node_box (node_at ns k)) x ∙ box-exact (node_at ns j) (member_box s p e) h.1))
          (at_head (member_box s p e) (free_from s (p + e) rest))
      | inr ne ↦ in_rest (member_box s p e) b (free_from s (p + e) rest)
          (box-of_slot ns s j (p + e) rest h.2 i free (omega (arith, same-ne i j ne)))
    ])
box-of_slot ns s before p (Alloc j g e rest) h i free l =
    let ne : i ≡ j → ⊥ = (λ x. free≢ _ h.0.kind (ap (λ k. (node_at ns k).kind) (sym x) ∙ free)) in
    subst (λ bs. Contains bs (node_box (node_at ns i))) (sym (free_from-rest s p e rest))
    (box-of_slot ns s j (p + e) rest h.3 i free (omega (arith, same-ne i j ne)))
box-of_slot ns s before p (Seq j e inner rest) h i free l =
    let ne : i ≡ j → ⊥ = (λ q. sequence≢ _ h.0.kind (ap (λ k. (node_at ns k).kind) (sym q) ∙ free)) in
    let b = node_box (node_at ns i) in
    subst (λ bs. Contains bs b) (sym (free_from-seq s p j e inner rest)) (elim (cases_lt 0 (tally i inner)) [
      | inl y ↦ Contains-append_left (free_from (inside s j p e) s.start inner) (free_from s (p + e) rest) b
          (box-of_slot ns (inside s j p e) no_slot s.start inner h.2 i free y)
      | inr y ↦ Contains-append_right (free_from (inside s j p e) s.start inner) (free_from s (p + e) rest) b
          (box-of_slot ns s j (p + e) rest h.3 i free (omega (arith, same-ne i j ne)))
    ])

-- The free slots have the free boxes of the tree.
pub AreFreeBoxes-stands : (ns : List Node) (s : Sequence) (n : Numbered) → Stands ns s n → s.start ≡ 0
    → AreFreeBoxes ns (ungranted (leaves s.axis origin s.width (erase n)))
AreFreeBoxes-stands ns s n h zero_start =
    let at : spot s.axis 0 s.start ≡ origin = ap (spot s.axis 0) zero_start ∙ spot-origin s.axis in
    subst (λ o. AreFreeBoxes ns (ungranted (leaves s.axis o s.width (erase n)))) at (record {
      of_slot = slot-of_box ns s no_slot 0 n h.standing;
      of_box = λ i free. box-of_slot ns s no_slot 0 n h.standing i free (omega (arith, h.numbered i, ap use_count free));
    })

pub exact-free : (ns : List Node) (s : Sequence) (n : Numbered) → Stands ns s n → 0 < s.width → IsCut s.width (erase n)
    → (i : ℕ) → IsFreeSlot ns i → IsSolid (node_at ns i).area
exact-free ns s n h w cut i free = slot-exact ns i s n h cut w (omega (arith, ap use_count free))

-- Slots that stand for a tree of cuts, and whose free ones are all listed, can be searched.
pub searchable : (o : Options) (slots : List Slot) (heads : List Link) (unused : Link) (p : Places) (s : Sequence)
    (n : Numbered)
    → AreFiled o (nodes slots) (rings slots) heads unused p → ((i : ℕ) → p.detached i ≡ false)
    → Stands (nodes slots) s n → 0 < s.width → IsCut s.width (erase n) → length slots ≤ 16777216 → AreValid o
    → IsSearchable o slots heads
searchable o slots heads unused p s n f listed h w cut short valid = record {
  unused = unused;
  places = p;
  filed = f;
  all_listed = listed;
  exact = exact-free (nodes slots) s n h w cut;
  short = short;
  valid = valid;
}
