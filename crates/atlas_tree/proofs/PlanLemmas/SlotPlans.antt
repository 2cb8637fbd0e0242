-- A plan carried out in the leaf of a slot is the model's placing.
use Rattle.std.proofs.Common.{ℕ, ◌+◌, ◌≤◌, ◌≡◌, Bool, true, false, cond, List, refl, sym, ap, subst, ◌∙◌, inl, inr, arith, eqb}
use Rattle.std.proofs.lemmas.Bool.{cases_eq, eq-eqb, ne_eqb, cond-true, cond-false}
use Rattle.atlas_store.specs.declared.slots.placing.Parts.{Parts}
use Rattle.atlas_store.specs.declared.slots.placing.Plan.{Plan}
use Rattle.atlas_store.specs.declared.slots.placing.Plan.TheVariants as plan
use Rattle.atlas_store.specs.declared.slots.Node.{Node}
use Rattle.atlas_model.specs.Boxes.{
  Axis,
  Position,
  Sides,
  Box,
  other,
  same_axis,
  side,
  sized,
  moved,
  box_at,
  box_sides,
  same_box,
  origin,
}
use Rattle.atlas_model.specs.Boxes.Axis.{Horizontal, Vertical}
use Rattle.atlas_model.specs.Cuts.{cut}
use Rattle.atlas_model.specs.Pixels.{box_of}
use Rattle.atlas_model.specs.Trees.{Members, Tree, node_count}
use Rattle.atlas_model.specs.Trees as tree
use Rattle.atlas_model.specs.Changes.{put, placed, place, place_need}
use Rattle.atlas_store.specs.Slots.{node_at, axis_of}
use Rattle.atlas_store.specs.Slots.Numbered.{Numbered, tally, numbers, erase, id_of, is_free_at, End, Free, Alloc, Seq}
use Rattle.atlas_search.specs.Numbers.{same}
use Rattle.atlas_store.specs.Slots.Placing.{granted_by, planned, put_by, putting, slots_of}
use Rattle.atlas_store.specs.Slots.Standing.{Sequence, Stands}
use Rattle.atlas_tree.specs.Plans.Planning.{IsPlanFor}
use Rattle.atlas_store.proofs.SlotLemmas.Frames.{same-self, used-le}
use Rattle.atlas_store.proofs.SlotLemmas.Weights.{free_tally, free_once, places-free}
use Rattle.atlas_store.proofs.SlotLemmas.Edits.{edited-absent}
use Rattle.atlas_store.proofs.SlotLemmas.Normal.{numbers-erase}
use Rattle.atlas_model.proofs.TreeLemmas.TreeCounts.{place_nodes}
use Rattle.atlas_store.proofs.SlotLemmas.SlotAims.{IsAim, IsChoice, IsFittingSlot, aim-choice, tree_in, place_need-choice}

-- Axes

same_axis-itself : (a : Axis) → same_axis a a ≡ true
same_axis-itself Horizontal = refl
same_axis-itself Vertical = refl

same_axis-other : (a : Axis) → same_axis (other a) a ≡ false
same_axis-other Horizontal = refl
same_axis-other Vertical = refl

-- What a plan puts in the place of a leaf is what the cut of its box and the request puts there.
put-plan : (leaf : Node) (r : Sides) (p : Plan) → IsPlanFor leaf r p
    → (t : Parts) (i g across e : ℕ) (rest : Numbered)
    → erase (put_by p t g across i e rest) ≡ put (cut (box_sides (box_of leaf.area)) r) (axis_of leaf.axis) e across
    (side (axis_of leaf.axis) r) (side (other (axis_of leaf.axis)) r) (id_of (granted_by p t i) g) (erase rest)
put-plan leaf r plan.Whole for t i g across e rest = rw for refl
put-plan leaf r (plan.StripAlong p) for t i g across e rest =
    rw (for.0, same_axis-itself (axis_of leaf.axis), for.1) refl
put-plan leaf r (plan.CornerAlong p q) for t i g across e rest =
    rw (for.0, same_axis-itself (axis_of leaf.axis), for.1, for.2) refl
put-plan leaf r (plan.StripAcross q) for t i g across e rest =
    rw (for.0, same_axis-other (axis_of leaf.axis), for.1) refl
put-plan leaf r (plan.CornerAcross p q) for t i g across e rest =
    rw (for.0, same_axis-other (axis_of leaf.axis), for.1, for.2) refl

module _ (leaf : Node) (r : Sides) (p : Plan) (for : IsPlanFor leaf r p) (t : Parts) (i g : ℕ) where
  abbrev f : Box
  f = box_of leaf.area

  abbrev a : Axis
  a = axis_of leaf.axis

  abbrev id : ℕ
  id = id_of (granted_by p t i) g

  absent : (across : ℕ) (n : Numbered) → free_tally i n ≡ 0 → planned p t i g across n ≡ n
  absent across n z = edited-absent (is_free_at i) (putting p t g) refl across n (places-free i n ∙ z)

  hit : (b : Bool) (axis : Axis) (e across : ℕ) (x y : Members) → b ≡ true → axis ≡ a
      → cond b (put (cut (box_sides f) r) axis e across (side axis r) (side (other axis) r) id x) y ≡ put
      (cut (box_sides f) r) a e across (side a r) (side (other a) r) id x
  hit b axis e across x y t q = grind (arith, cond-true)

  -- The walk: where the free leaf of slot i, and no other, has the box.
  erase-planned : (axis : Axis) (o : Position) (across : ℕ) (n : Numbered) → IsAim i f a axis o across n
      → free_tally i n ≤ 1 → erase (planned p t i g across n) ≡ placed f r id axis o across (erase n)
  erase-planned axis o across End h one = refl
  erase-planned axis o across (Free j e rest) h one =
      let after = erase-planned axis (moved axis o e) across rest h.1 (omega arith) in
      elim (cases_eq i j) [
        | inl q ↦
            let b : eqb i j ≡ true = eq-eqb i j q in
            let none : free_tally i rest ≡ 0 = omega (arith, one, ap (same i) (sym q), same-self i) in
            let same_rest : erase rest ≡ placed f r id axis (moved axis o e) across (erase rest) =
            sym (ap erase (absent across rest none)) ∙ after in
            ap erase (cond-true (eqb i j) (put_by p t g across j e rest) (Free j e (planned p t i g across rest)) b)
            ∙ subst (λ k. erase (put_by p t g across k e rest) ≡ put (cut (box_sides f) r) a e across (side a r)
            (side (other a) r) id (erase rest)) q (put-plan leaf r p for t i g across e rest)
            ∙ ap (put (cut (box_sides f) r) a e across (side a r) (side (other a) r) id) same_rest
            ∙ sym (hit (same_box (box_at o (sized axis e across)) f) axis e across
            (placed f r id axis (moved axis o e) across (erase rest))
            (tree.Free e (placed f r id axis (moved axis o e) across (erase rest))) (sym h.0.0 ∙ b) (h.0.1 b))
        | inr ne ↦
            let b : eqb i j ≡ false = ne_eqb i j ne in
            ap erase (cond-false (eqb i j) (put_by p t g across j e rest) (Free j e (planned p t i g across rest)) b)
            ∙ ap (tree.Free e) after
            ∙ sym (cond-false (same_box (box_at o (sized axis e across)) f) _ _ (sym h.0.0 ∙ b))
      ]
  erase-planned axis o across (Alloc j k e rest) h one =
      ap (tree.Alloc (id_of j k) e) (erase-planned axis (moved axis o e) across rest h one)
  erase-planned axis o across (Seq j e inner rest) h one =
      grind (
        arith,
        erase-planned (other axis) o e inner h.0 (omega arith),
        erase-planned axis (moved axis o e) across rest h.1 (omega arith),
      )

module _ (size : Sides) (ns : List Node) (s : Sequence) (n : Numbered) (i : ℕ) (r : Sides)
    (h : IsChoice size ns s n i) (fit : IsFittingSlot ns i r) (p : Plan) (for : IsPlanFor (node_at ns i) r p) where
  -- The tree once a plan is carried out in the leaf: `placed` by the model.
  pub planned-placed : (t : Parts) (g : ℕ) → tree_in s (planned p t i g s.width n) ≡ place size
      (box_of (node_at ns i).area) r (id_of (granted_by p t i) g) (tree_in s n)
  planned-placed t g =
      ap (λ w. tree_in s (planned p t i g w n)) h.across
      ∙ ap (λ m. record { axis = s.axis; members = m })
      (erase-planned (node_at ns i) r p for t i g s.axis origin (side (other s.axis) size) n
      (aim-choice size ns s n i r h fit)
      (omega (arith, free_once ns i s n h.free h.stands)))

  -- As many slots as the model needs.
  pub planned-need : place_need size (box_of (node_at ns i).area) r (tree_in s n) ≡ slots_of p
  planned-need = grind (arith, place_need-choice, same_axis-itself, same_axis-other)

  -- As many members as the model's tree.
  pub planned-numbers : (t : Parts) (g : ℕ) → numbers (planned p t i g s.width n) ≡ numbers n + slots_of p
  planned-numbers t g =
      numbers-erase (planned p t i g s.width n)
      ∙ ap (λ (v : Tree). node_count v.members) (planned-placed t g)
      ∙ place_nodes size (tree_in s n) (box_of (node_at ns i).area) r (id_of (granted_by p t i) g)
      ∙ ap (λ v. v + place_need size (box_of (node_at ns i).area) r (tree_in s n)) (sym (numbers-erase n))
      ∙ ap (λ v. numbers n + v) planned-need

-- No slot is that of two members.
pub once-Stands : (ms : List Node) (s : Sequence) (new : Numbered) → Stands ms s new → (x : ℕ) → tally x new ≤ 1
once-Stands ms s new h x = omega (arith, h.numbered x, used-le (node_at ms x).kind)
