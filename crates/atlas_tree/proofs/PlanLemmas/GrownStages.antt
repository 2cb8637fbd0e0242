-- The stages of a growth: along the top sequence, and then across it.
use Rattle.std.proofs.Common.{ℕ, ◌+◌, ◌-◌, ◌<◌, ◌≡◌, ◌↔◌, IsTrue, [], length, Bool, cond, true, false, not, ◌&&◌, refl, sym, ap, subst, ◌∙◌}
use Rattle.std.proofs.Common.{arith}
use Rattle.std.specs.Bool.{Decides}
use Rattle.std.specs.Ordering.{int_eq}
use Rattle.std.proofs.lemmas.Bool.{not-true, not-false, true≢false}
use Rattle.std.proofs.lemmas.Bool.Decides.{Decides-and, Decides-like, Decides-int_eq}
use Rattle.atlas_store.specs.declared.store.Store.{Store}
use Rattle.atlas_store.specs.declared.slots.NodeKind.TheVariants as kind
use Rattle.atlas_model.specs.declared.geometry.Size.{Size}
use Rattle.atlas_tree.specs.declared.growth.Growth.{Growth}
use Rattle.atlas_model.specs.Boxes.{Axis, Sides, other, side, Fits}
use Rattle.atlas_model.specs.Boxes.Axis.{Horizontal, Vertical}
use Rattle.atlas_model.specs.Pixels.{sides_of}
use Rattle.atlas_model.specs.Trees.{total, is_one_free}
use Rattle.atlas_model.specs.Changes.{lengthened_to, widened, grown_members}
use Rattle.atlas_store.specs.Slots.{nodes}
use Rattle.atlas_store.specs.Slots.Numbered.{erase, first_slot}
use Rattle.atlas_store.specs.Stored.{Shelf, Holding, Holds, IsDetachedOnly}
use Rattle.atlas_store.specs.Store.Holdings.{shelf_of, node_in, HasSlotsFor}
use Rattle.atlas_store.specs.Slots.Growing.{IsEnd, IsSpanning, IsWider, last_slot}
use Rattle.atlas_tree.specs.Plans.Growths.{IsGrowthOf, IsGrowable, IsGrownHolding, IsLengthenable, IsLonger, IsNeedOf, IsWidenable}
use Rattle.atlas_tree.specs.Plans.Growths.{IsWidenedTo, middle_of, strip_need}
use Rattle.atlas_store.proofs.SlotLemmas.ReadTrees.{tree-by_parts}
use Rattle.atlas_store.proofs.WalkLemmas.StoredAtlas.{nonempty-total}
use Rattle.atlas_model.proofs.TreeLemmas.TreeBasics.{longer_side, other_twice}
use Rattle.atlas_model.proofs.TreeLemmas.TreeGrowth.{grown-other}
use Rattle.atlas_tree.proofs.PlanLemmas.GrownTrees.{if_longer, if_longer-more, if_longer-not, nodes-grown_by, lengthened_to-more}
use Rattle.atlas_tree.proofs.PlanLemmas.GrownTrees.{lengthened_to-same, total-lengthened_to, widened-more, widened-same}
use Rattle.atlas_tree.proofs.PlanLemmas.GrownSlots.{need-answer}

-- The sizes that a growth goes through.

abbrev pub same_size : Size → Size → Bool
same_size a b = int_eq a.width b.width && int_eq a.height b.height

Decides-same_size : (a b : Size) → Decides (same_size a b) (a ≡ b)
Decides-same_size a b = grind (arith, Decides-like, Decides-and, Decides-int_eq)

-- What `==` and `!=` answer.
pub equal-yes : (a b : Size) (t : Bool) → t ≡ same_size a b → t ≡ true → a ≡ b
equal-yes a b t e is = (Decides-same_size a b).0 (sym e ∙ is)

pub equal-no : (a b : Size) (t : Bool) → t ≡ same_size a b → t ≡ false → a ≡ b → ⊥
equal-no a b t e is same = true≢false (sym ((Decides-same_size a b).1 same) ∙ sym e ∙ is)

pub unequal-yes : (a b : Size) (t : Bool) → t ≡ not (same_size a b) → t ≡ true → a ≡ b → ⊥
unequal-yes a b t e is = equal-no a b (same_size a b) refl (not-true (same_size a b) (sym e ∙ is))

pub unequal-no : (a b : Size) (t : Bool) → t ≡ not (same_size a b) → t ≡ false → a ≡ b
unequal-no a b t e is = equal-yes a b (same_size a b) refl (not-false (same_size a b) (sym e ∙ is))

side-middle : (axis : Axis) (old new : Sides) → side axis (middle_of axis old new) ≡ side axis new
side-middle Horizontal old new = refl
side-middle Vertical old new = refl

side-middle_other : (axis : Axis) (old new : Sides) → side (other axis) (middle_of axis old new) ≡ side (other axis) old
side-middle_other Horizontal old new = refl
side-middle_other Vertical old new = refl

middle-old : (axis : Axis) (old new : Sides) → side axis old ≡ side axis new → middle_of axis old new ≡ old
middle-old Horizontal old new e = let back : new.width ≡ old.width = sym e in λ i. record { width = back i; height = old.height }
middle-old Vertical old new e = let back : new.height ≡ old.height = sym e in λ i. record { width = old.width; height = back i }

middle-new : (axis : Axis) (old new : Sides) → side (other axis) old ≡ side (other axis) new
    → middle_of axis old new ≡ new
middle-new Horizontal old new e = λ i. record { width = new.width; height = e i }
middle-new Vertical old new e = λ i. record { width = e i; height = new.height }

module _ (old new : Sides) (h : Holding) (p : Growth) (w : IsGrowthOf old new h p) where
  middle_is : sides_of p.middle ≡ middle_of h.sequence.axis old new
  middle_is = ap sides_of w.middle

  middle-along : side h.sequence.axis (sides_of p.middle) ≡ side h.sequence.axis new
  middle-along = ap (side h.sequence.axis) middle_is ∙ side-middle h.sequence.axis old new

  middle-across : side (other h.sequence.axis) (sides_of p.middle) ≡ side (other h.sequence.axis) old
  middle-across = ap (side (other h.sequence.axis)) middle_is ∙ side-middle_other h.sequence.axis old new

  pub along-same : p.middle ≡ p.from → side h.sequence.axis old ≡ side h.sequence.axis new
  along-same e = ap (λ s. side h.sequence.axis (sides_of s)) (sym w.from ∙ sym e) ∙ middle-along

  pub across-same : p.middle ≡ p.to → side (other h.sequence.axis) old ≡ side (other h.sequence.axis) new
  across-same e = sym middle-across ∙ ap (λ s. side (other h.sequence.axis) (sides_of s)) (e ∙ w.to)

  module _ (fits : Fits old new) where
    pub along-longer : (p.middle ≡ p.from → ⊥) → side h.sequence.axis old < side h.sequence.axis new
    along-longer ne = grind (arith, longer_side, middle-old)

    pub across-longer : (p.middle ≡ p.to → ⊥) → side (other h.sequence.axis) old < side (other h.sequence.axis) new
    across-longer ne = grind (arith, longer_side, middle-new)

-- How many slots a growth takes.

abbrev pub along_need : Shelf → (last : ℕ) → (old new : Sides) → Axis → ℕ
along_need v last old new axis = if_longer (side axis old) (side axis new) (strip_need v last)

abbrev pub across_need : (old new : Sides) → Axis → ℕ
across_need old new axis = if_longer (side (other axis) old) (side (other axis) new) 2

pub need-is : (v : Shelf) (old new : Sides) (h : Holding) → Holds v h → 0 < total (erase h.tree)
    → is_one_free (erase h.tree) ≡ false
    → IsNeedOf old new h (along_need v (last_slot h.tree) old new h.sequence.axis + across_need old new h.sequence.axis)
need-is v old new h holds some busy = nodes-grown_by (nodes v.slots) h.sequence h.tree holds.stands (nonempty-total h.tree some) old new
    h.sequence.axis busy

module _ (v : Shelf) (old new : Sides) (h : Holding) (p : Growth) (w : IsGrowthOf old new h p) where
  pub strip-longer : (t : Bool) → (IsTrue t ↔ ((node_in v p.last.number).kind ≡ kind.Free))
      → side h.sequence.axis old < side h.sequence.axis new
      → cond (not t) 1 0 ≡ along_need v (last_slot h.tree) old new h.sequence.axis
  strip-longer t says longer = grind (arith, need-answer, if_longer-more)

  pub strip-same : side h.sequence.axis old ≡ side h.sequence.axis new
      → along_need v (last_slot h.tree) old new h.sequence.axis ≡ 0
  strip-same e = if_longer-not (side h.sequence.axis old) (side h.sequence.axis new) (strip_need v (last_slot h.tree)) (omega arith)

  pub top-wider : side (other h.sequence.axis) old < side (other h.sequence.axis) new
      → across_need old new h.sequence.axis ≡ 2
  top-wider wider = if_longer-more (side (other h.sequence.axis) old) (side (other h.sequence.axis) new) 2 wider

  pub top-same : side (other h.sequence.axis) old ≡ side (other h.sequence.axis) new
      → across_need old new h.sequence.axis ≡ 0
  top-same e = if_longer-not (side (other h.sequence.axis) old) (side (other h.sequence.axis) new) 2 (omega arith)

-- The tree has grown along its axis, and there are the slots to grow across it.
pub record IsMidway {A : Type 0} (v : Store A) (old new : Sides) (first n : ℕ) (h h' : Holding) : Type 0 where
  pub holds : Holds (shelf_of v) h'
  pub listed : IsDetachedOnly [] h'
  pub members : erase h'.tree ≡ lengthened_to (side h.sequence.axis old) (side h.sequence.axis new) (erase h.tree)
  pub sequence : h'.sequence ≡ h.sequence
  pub begins : first_slot h'.tree ≡ first
  pub unused_list : length h'.unused_list - across_need old new h.sequence.axis ≡ length h.unused_list - n
  pub slots : HasSlotsFor (across_need old new h.sequence.axis) v h'

-- The same of a store.
abbrev pub IsMidwayIn : {A : Type 0} → Store A → (old new : Sides) (first n : ℕ) → Holding → Type 0
IsMidwayIn s old new first n h = (h' : Holding) × IsMidway s old new first n h h'

module _ {A : Type 0} {v : Store A} {old new : Sides} {first n : ℕ} {p : Growth} {h : Holding} (w : IsGrowable v old new first n p h) where
  abbrev axis : Axis
  axis = h.sequence.axis

  need_parts : n ≡ along_need (shelf_of v) (last_slot h.tree) old new axis + across_need old new axis
  need_parts = omega (arith, w.need, need-is (shelf_of v) old new h w.tree.holds w.tree.spans.some w.busy)

  -- The tree grows along its axis.
  module _ (longer : side axis old < side axis new) where
    ends : last_slot h.tree ≡ p.last.number
    ends = w.growth.last longer

    need_longer : n ≡ across_need old new axis + strip_need (shelf_of v) p.last.number
    need_longer = omega (
      arith,
      need_parts,
      if_longer-more (side axis old) (side axis new) (strip_need (shelf_of v) (last_slot h.tree))
          longer,
      ap (strip_need (shelf_of v)) ends,
    )

    longer-end : IsEnd (sides_of p.middle) (side axis new - side axis old) p.last.number h
    longer-end = grind (arith, ends, middle-along, middle-across)

    longer-more : 0 < side axis new - side axis old
    longer-more = omega arith

    longer-slots : HasSlotsFor (across_need old new axis + strip_need (shelf_of v) p.last.number) v h
    longer-slots = subst (λ k. HasSlotsFor k v h) need_longer w.slots

    pub longer-ready : IsLengthenable v
        (sides_of p.middle) p.last.number (side axis new - side axis old) (across_need old new axis) h
    longer-ready = grind (arith, longer-end, longer-more, longer-slots)

    pub longer-midway : {v' : Store A} → IsLonger v v' (sides_of p.middle) p.last.number
        → IsMidwayIn v' old new first n h
    longer-midway told = let got = told.kept h (side axis new - side axis old) (across_need old new axis) longer-ready in let l = got.1 in (
      got.0,
      record {
        holds = l.holds;
        listed = l.listed;
        members = l.members ∙ sym (lengthened_to-more (side axis old) (side axis new) (erase h.tree) longer);
        sequence = l.sequence;
        begins = l.first ∙ w.tree.spans.begins;
        unused_list = omega (arith, l.unused_list, need_longer);
        slots = l.slots;
      },
    )

  -- The tree is as long as before.
  pub same-midway : side axis old ≡ side axis new → IsMidwayIn v old new first n h
  same-midway e = grind (arith, if_longer-not, need_parts, lengthened_to-same)

  -- From there on.
  module _ {u : Store A} {h1 : Holding} (m : IsMidway u old new first n h h1) where
    total_midway : total (erase h1.tree) ≡ side axis new
    total_midway = grind (arith, total-lengthened_to, longer_side)

    some_midway : 0 < total (erase h1.tree)
    some_midway = omega (arith, total_midway, longer_side axis old new w.fits, w.tree.spans.along, w.tree.spans.some)

    along_midway : total (erase h1.tree) ≡ side h1.sequence.axis new
    along_midway = total_midway ∙ ap (λ s. side s.axis new) (sym m.sequence)

    across_midway : h1.sequence.width ≡ side (other h1.sequence.axis) old
    across_midway = ap (λ s. s.width) m.sequence ∙ w.tree.spans.across ∙ ap (λ s. side (other s.axis) old) (sym m.sequence)

    grown_is : grown_members old new axis
        (erase h.tree) ≡ widened (side (other axis) old) (side (other axis) new) axis (erase h1.tree)
    grown_is = grown-other old new axis (erase h.tree) w.busy ∙ ap (widened (side (other axis) old) (side (other axis) new) axis)
        (sym m.members)

    -- It is as wide as before.
    pub midway-grown : side (other axis) old ≡ side (other axis) new → IsGrownHolding (shelf_of u) old new first n h h1
    midway-grown e =
        grind (arith, some_midway, along_midway, across_midway, tree-by_parts, grown_is, widened-same, if_longer-not)

    -- It grows across its axis too.
    module _ (wider : side (other axis) old < side (other axis) new) where
      two : across_need old new axis ≡ 2
      two = if_longer-more (side (other axis) old) (side (other axis) new) 2 wider

      midway-spans : IsSpanning (sides_of p.middle) first h1
      midway-spans = grind (arith, some_midway, total_midway, middle-along, middle-across)

      midway-wider : IsWider h1.sequence.axis (sides_of p.middle) new (side (other axis) new - side (other axis) old)
      midway-wider = grind (arith, middle-along, middle-across)

      midway-more : 0 < side (other axis) new - side (other axis) old
      midway-more = omega arith

      midway-slots : HasSlotsFor 2 u h1
      midway-slots = subst (λ k. HasSlotsFor k u h1) two m.slots

      pub midway-ready : IsWidenable u (sides_of p.middle) new first (side (other axis) new - side (other axis) old) h1
      midway-ready = grind (arith, midway-spans, midway-wider, midway-more, midway-slots)

      pub widened-grown : {v' : Store A} {top : ℕ} → IsWidenedTo u v' (sides_of p.middle) new first top
          → (h' : Holding) × IsGrownHolding (shelf_of v') old new top n h h'
      widened-grown told =
          let got = told.kept h1 (side (other axis) new - side (other axis) old) midway-ready in
          let h' = got.0 in
          let l = got.1 in
          let width : h1.sequence.width ≡ side (other axis) old = ap (λ s. s.width) m.sequence ∙ w.tree.spans.across in
          let turned : h'.sequence.axis ≡ other axis = ap (λ s. s.axis) l.sequence ∙ ap (λ s. other s.axis) m.sequence in
          let whole : total (erase h'.tree) ≡ side (other axis) new = ap total l.members ∙ omega (arith, width, wider) in (
            h',
            record {
              tree = grind (arith, total_midway, other_twice);
              grown = grind (arith, tree-by_parts, grown_is, widened-more);
              unused_list = omega (arith, l.unused_list, m.unused_list, two);
            },
          )
