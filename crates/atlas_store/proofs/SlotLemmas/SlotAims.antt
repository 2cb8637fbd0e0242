-- The slot of a free leaf and its box name the same leaf.
use Rattle.std.proofs.Common.{ℕ, ◌+◌, ◌*◌, ◌≤◌, ◌≡◌, ◌==◌, Bool, true, false, List, refl, sym, ap, ap₂, subst, ◌∙◌, arith, rules}
use Rattle.std.proofs.lemmas.Bool.{eqb-true}
use Rattle.atlas_store.specs.declared.slots.Node.{Node}
use Rattle.atlas_store.specs.declared.slots.NodeKind.TheVariants as kind
use Rattle.atlas_model.specs.Boxes.{Axis, Position, Sides, Box, other, side, sized, moved, box_at, box_sides, same_box, origin, Fits}
use Rattle.atlas_model.specs.Boxes.{IsPositive}
use Rattle.atlas_model.specs.Pixels.{box_of, rectangle_of}
use Rattle.atlas_model.specs.Cuts.{cut}
use Rattle.atlas_model.specs.Trees.{Tree, IsWellFormed, free_boxes}
use Rattle.atlas_model.specs.Changes.{need, needed, place_need}
use Rattle.atlas_store.specs.Slots.{node_at, axis_of}
use Rattle.atlas_search.specs.Numbers.{no_slot}
use Rattle.atlas_store.specs.Slots.Numbered.{Numbered, erase, End, Free, Alloc, Seq}
use Rattle.atlas_store.specs.Slots.Standing.{Sequence, Standing, Stands, inside, member_box, spot}
use Rattle.atlas_model.proofs.TreeLemmas.TreeBasics.{one_if, same_box-itself, free_among}
use Rattle.atlas_model.proofs.TreeLemmas.TreePlacements.{hits, hits-seq, hits-free, hits_once}
use Rattle.atlas_store.proofs.SlotLemmas.Weights.{free_tally, free_once}
use Rattle.atlas_store.proofs.SlotLemmas.Spots.{moved-spot, spot-other, spot-origin}

-- Each free leaf of slot i has the box f, in a sequence along a.
abbrev pub IsStoredAs : (i : ℕ) (f : Box) (a : Axis) → Axis → Position → (across : ℕ) → Numbered → Type 0
IsStoredAs i f a axis o across End = Unit {0}
IsStoredAs i f a axis o across (Free j e rest) =
    (((i == j) ≡ true → same_box (box_at o (sized axis e across)) f ≡ true) × ((i == j) ≡ true → axis ≡ a)) ×
    IsStoredAs i f a axis (moved axis o e) across rest
IsStoredAs i f a axis o across (Alloc j g e rest) = IsStoredAs i f a axis (moved axis o e) across rest
IsStoredAs i f a axis o across (Seq j e inner rest) = IsStoredAs i f a (other axis) o e inner ×
    IsStoredAs i f a axis (moved axis o e) across rest

-- The same, and no other free leaf has the box f.
abbrev pub IsAim : (i : ℕ) (f : Box) (a : Axis) → Axis → Position → (across : ℕ) → Numbered → Type 0
IsAim i f a axis o across End = Unit {0}
IsAim i f a axis o across (Free j e rest) =
    (((i == j) ≡ same_box (box_at o (sized axis e across)) f) × ((i == j) ≡ true → axis ≡ a)) ×
    IsAim i f a axis (moved axis o e) across rest
IsAim i f a axis o across (Alloc j g e rest) = IsAim i f a axis (moved axis o e) across rest
IsAim i f a axis o across (Seq j e inner rest) = IsAim i f a (other axis) o e inner × IsAim i f a axis (moved axis o e) across rest

module _ (ns : List Node) (i : ℕ) where
  abbrev f : Box
  f = box_of (node_at ns i).area

  abbrev a : Axis
  a = axis_of (node_at ns i).axis

  stored_box : (s : Sequence) (p e j : ℕ) → (node_at ns j).area ≡ rectangle_of (member_box s p e) → i ≡ j
      → same_box (member_box s p e) f ≡ true
  stored_box s p e j h q = grind (arith, same_box-itself)

  stored_axis : (s : Sequence) (j : ℕ) → axis_of (node_at ns j).axis ≡ s.axis → i ≡ j → s.axis ≡ a
  stored_axis s j h q = rw q (sym h)

  pub stored-Standing : (s : Sequence) (b p : ℕ) (n : Numbered) → Standing ns s b p n
      → IsStoredAs i f a s.axis (spot s.axis p s.start) s.width n
  stored-Standing s b p End h = tt
  stored-Standing s b p (Free j e rest) h =
      grind (arith, stored_box, eqb-true, stored_axis, moved-spot, stored-Standing s j (p + e) rest h.2)
  stored-Standing s b p (Alloc j g e rest) h = grind (arith, moved-spot, stored-Standing s j (p + e) rest h.3)
  stored-Standing s b p (Seq j e inner rest) h =
      grind (
        arith,
        spot-other,
        stored-Standing (inside s j p e) no_slot s.start inner h.2,
        moved-spot,
        stored-Standing s j (p + e) rest h.3,
      )

-- By counts: no other free leaf has the box.

less : (b c : Bool) → (b ≡ true → c ≡ true) → one_if b ≤ one_if c
less true c h = rw (h refl) (omega arith)
less false c h = omega arith

same_bools : (b c : Bool) → one_if b ≡ one_if c → b ≡ c
same_bools b c h = grind arith

one_more : (k m : ℕ) → k + m * k ≡ (1 + m) * k
one_more k m = grind arith

none_more : (k m : ℕ) → 0 + m * k ≡ (0 + m) * k
none_more k m = grind arith

both : (k m n : ℕ) → m * k + n * k ≡ (m + n) * k
both k m n = grind arith

module _ (i : ℕ) (f : Box) (a : Axis) where
  few_slots : (axis : Axis) (o : Position) (across : ℕ) (n : Numbered) → IsStoredAs i f a axis o across n
      → free_tally i n ≤ hits f (free_among axis o across (erase n))
  few_slots axis o across End h = omega arith
  few_slots axis o across (Free j e rest) h =
      grind (arith, one_if, less, free_tally, hits, free_among, few_slots axis (moved axis o e) across rest h.1, hits-free)
  few_slots axis o across (Alloc j g e rest) h = few_slots axis (moved axis o e) across rest h
  few_slots axis o across (Seq j e inner rest) h =
      search (
        rules,
        free_tally,
        hits,
        free_among,
        few_slots (other axis) o e inner h.0,
        few_slots axis (moved axis o e) across rest h.1,
        hits-seq,
      )

  pub aim-stored : (axis : Axis) (o : Position) (across : ℕ) (n : Numbered) → IsStoredAs i f a axis o across n
      → hits f (free_among axis o across (erase n)) ≤ free_tally i n → IsAim i f a axis o across n
  aim-stored axis o across End h le = tt
  aim-stored axis o across (Free j e rest) h le =
      let here : one_if (i == j) ≤ one_if (same_box (box_at o (sized axis e across)) f) = less _ _ h.0.0 in
      let after : free_tally i rest ≤ hits f (free_among axis (moved axis o e) across (erase rest)) =
      few_slots axis (moved axis o e) across rest h.1 in
      let split : one_if (same_box (box_at o (sized axis e across)) f) + hits f (free_among axis (moved axis o e) across (erase rest)) ≤
      one_if (i == j) + free_tally i rest = rw (hits-free f axis o across e (erase rest)) at le in
      ((same_bools _ _ (omega arith), h.0.1), aim-stored axis (moved axis o e) across rest h.1 (omega arith))
  aim-stored axis o across (Alloc j g e rest) h le = aim-stored axis (moved axis o e) across rest h le
  aim-stored axis o across (Seq j e inner rest) h le =
      let first : free_tally i inner ≤ hits f (free_among (other axis) o e (erase inner)) = few_slots (other axis) o e inner h.0 in
      let after : free_tally i rest ≤ hits f (free_among axis (moved axis o e) across (erase rest)) =
      few_slots axis (moved axis o e) across rest h.1 in
      let split : hits f (free_among (other axis) o e (erase inner)) + hits f (free_among axis (moved axis o e) across (erase rest)) ≤
      free_tally i inner + free_tally i rest = rw (hits-seq f axis o across e (erase inner) (erase rest)) at le in
      (aim-stored (other axis) o e inner h.0 (omega arith), aim-stored axis (moved axis o e) across rest h.1 (omega arith))

  -- How many members a request adds.
  pub needed-aim : (r : Sides) (axis : Axis) (o : Position) (across : ℕ) (n : Numbered) → IsAim i f a axis o across n
      → needed f r axis o across (erase n) ≡ free_tally i n * need (cut (box_sides f) r) a
  needed-aim r axis o across End h = omega arith
  needed-aim r axis o across (Free j e rest) h =
      grind (arith, needed-aim r axis (moved axis o e) across rest h.1, free_tally, one_more, none_more)
  needed-aim r axis o across (Alloc j g e rest) h = needed-aim r axis (moved axis o e) across rest h
  needed-aim r axis o across (Seq j e inner rest) h =
      ap₂ (λ x y. x + y) (needed-aim r (other axis) o e inner h.0) (needed-aim r axis (moved axis o e) across rest h.1) ∙
      both (need (cut (box_sides f) r) a) (free_tally i inner) (free_tally i rest)

-- The tree that stands, as contracts see it.
abbrev pub tree_in : Sequence → Numbered → Tree
tree_in s n = record { axis = s.axis; members = erase n }

-- A free leaf at slot i of a well-formed tree of an atlas.
pub record IsChoice (size : Sides) (ns : List Node) (s : Sequence) (n : Numbered) (i : ℕ) : Type 0 where
  pub stands : Stands ns s n
  pub free : (node_at ns i).kind ≡ kind.Free
  pub start : s.start ≡ 0
  pub across : s.width ≡ side (other s.axis) size
  pub well : IsWellFormed size (tree_in s n)

-- A request with positive sides that fits the slot's box.
abbrev pub IsFittingSlot : List Node → ℕ → Sides → Type 0
IsFittingSlot ns i r = IsPositive r × Fits r (box_sides (box_of (node_at ns i).area))

pub aim-choice : (size : Sides) (ns : List Node) (s : Sequence) (n : Numbered) (i : ℕ) (r : Sides)
    → IsChoice size ns s n i → IsFittingSlot ns i r
    → IsAim i (box_of (node_at ns i).area) (axis_of (node_at ns i).axis) s.axis origin (side (other s.axis) size) n
aim-choice size ns s n i r h fit =
    let f = box_of (node_at ns i).area in
    let a = axis_of (node_at ns i).axis in
    let stored : IsStoredAs i f a s.axis (spot s.axis 0 s.start) s.width n = stored-Standing ns i s no_slot 0 n h.stands.standing in
    let at : spot s.axis 0 s.start ≡ origin = ap (spot s.axis 0) h.start ∙ spot-origin s.axis in
    let moved_there : IsStoredAs i f a s.axis origin s.width n = subst (λ o. IsStoredAs i f a s.axis o s.width n) at stored in
    let whole : IsStoredAs i f a s.axis origin (side (other s.axis) size) n = subst (λ w. IsStoredAs i f a s.axis origin w n) h.across
    moved_there in
    let once : hits f (free_boxes size (tree_in s n)) ≤ 1 = hits_once size (tree_in s n) f r h.well fit.0 fit.1 in
    aim-stored i f a s.axis origin (side (other s.axis) size) n whole (rw (free_once ns i s n h.free h.stands) once)

-- How many members a request adds to the tree.
pub place_need-choice : (size : Sides) (ns : List Node) (s : Sequence) (n : Numbered) (i : ℕ) (r : Sides)
    → IsChoice size ns s n i → IsFittingSlot ns i r
    → place_need size (box_of (node_at ns i).area) r (tree_in s n) ≡ need (cut (box_sides (box_of (node_at ns i).area)) r)
    (axis_of (node_at ns i).axis)
place_need-choice size ns s n i r h fit =
    let f = box_of (node_at ns i).area in
    let a = axis_of (node_at ns i).axis in
    needed-aim i f a r s.axis origin (side (other s.axis) size) n (aim-choice size ns s n i r h fit) ∙
    once (free_tally i n) (need (cut (box_sides f) r) a) (free_once ns i s n h.free h.stands)
  where
    once : (m k : ℕ) → m ≡ 1 → m * k ≡ k
    once m k e = rw e (omega arith)
