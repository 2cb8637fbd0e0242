-- Trees of cuts: the boxes of their leaves, and when they are well formed and normal.
use Rattle.std.specs.Prelude.{ℕ, ◌+◌, ◌<◌, ◌≤◌, ◌%◌, ◌^◌, ◌==◌, ◌≡◌, Bool, true, false, List, [], ◌∷◌, ◌++◌, Option}
use Rattle.std.specs.Prelude.{Some, None, count_by, filter_map}
use Rattle.atlas_model.specs.Boxes.{Axis, Position, Sides, Box, other, side, sized, moved, box_at, origin, IsPositive}

-- The members of a sequence, in order, each with its extent along the sequence's axis; the members of a nested
-- sequence run along the other axis.
pub data Members : Type 0 where
  End : Members
  Free : (extent : ℕ) → Members → Members
  Alloc : (id extent : ℕ) → Members → Members
  Seq : (extent : ℕ) → (inner : Members) → Members → Members

pub record Tree : Type 0 where
  pub axis : Axis
  pub members : Members

-- A leaf: the id that it is granted to, if any, and its box.
pub record Leaf : Type 0 where
  pub owner : Option ℕ
  pub box : Box

abbrev pub leaf : Option ℕ → Box → Leaf
leaf owner box = record { owner = owner; box = box }

-- The leaves of members that begin at a position and run along an axis, in a sequence that spans `across`.
abbrev pub leaves : Axis → Position → (across : ℕ) → Members → List Leaf
leaves axis o across End = []
leaves axis o across (Free e rest) =
    leaf None (box_at o (sized axis e across)) ∷ leaves axis (moved axis o e) across rest
leaves axis o across (Alloc id e rest) =
    leaf (Some id) (box_at o (sized axis e across)) ∷ leaves axis (moved axis o e) across rest
leaves axis o across (Seq e inner rest) = leaves (other axis) o e inner ++ leaves axis (moved axis o e) across rest

-- The leaves of a tree of cuts of an atlas.
abbrev pub tree_leaves : Sides → Tree → List Leaf
tree_leaves size t = leaves t.axis origin (side (other t.axis) size) t.members

-- A live id and its box.
pub record Grant : Type 0 where
  pub id : ℕ
  pub box : Box

abbrev pub grant : ℕ → Box → Grant
grant id box = record { id = id; box = box }

abbrev pub grant_at : Option ℕ → Box → Option Grant
grant_at None b = None
grant_at (Some id) b = Some (grant id b)

abbrev pub free_at : Option ℕ → Box → Option Box
free_at None b = Some b
free_at (Some id) b = None

abbrev pub granted : List Leaf → List Grant
granted ls = filter_map (λ l. grant_at l.owner l.box) ls

abbrev pub ungranted : List Leaf → List Box
ungranted ls = filter_map (λ l. free_at l.owner l.box) ls

-- The live ids with their boxes.
abbrev pub live : Sides → Tree → List Grant
live size t = granted (tree_leaves size t)

abbrev pub free_boxes : Sides → Tree → List Box
free_boxes size t = ungranted (tree_leaves size t)

-- The ids of the allocated leaves.
abbrev pub ids : Members → List ℕ
ids End = []
ids (Free e rest) = ids rest
ids (Alloc id e rest) = id ∷ ids rest
ids (Seq e inner rest) = ids inner ++ ids rest

-- How many slots an atlas may have: an id has 24 bits for the number of its slot.
abbrev pub most_slots : ℕ
most_slots = 2 ^ 24

-- The slot that an id names: its low 24 bits.
abbrev pub slot_of : (id : ℕ) → ℕ
slot_of id = id % most_slots

-- How many of the ids name the slot of this one.
abbrev pub slot_count : ℕ → List ℕ → ℕ
slot_count id xs = count_by (λ k. slot_of k == slot_of id) xs

-- What the extents add up to.
abbrev pub total : Members → ℕ
total End = 0
total (Free e rest) = e + total rest
total (Alloc id e rest) = e + total rest
total (Seq e inner rest) = e + total rest

-- Extents are positive, and the members of each sequence add up to the side that it spans across.
abbrev pub IsCut : (across : ℕ) → Members → Type 0
IsCut across End = Unit {0}
IsCut across (Free e rest) = (0 < e) × IsCut across rest
IsCut across (Alloc id e rest) = (0 < e) × IsCut across rest
IsCut across (Seq e inner rest) = (0 < e) × (total inner ≡ across) × IsCut e inner × IsCut across rest

-- No two ids have the same low 24 bits.
abbrev pub AreApart : List ℕ → Type 0
AreApart xs = (id : ℕ) → slot_count id xs ≤ 1

-- A tree of cuts of an atlas with these sides.
pub record IsWellFormed (size : Sides) (t : Tree) : Type 0 where
  pub nonempty : IsPositive size
  pub along : total t.members ≡ side t.axis size
  pub cut : IsCut (side (other t.axis) size) t.members
  pub apart : AreApart (ids t.members)

-- Whether the first member is free.
abbrev pub begins_free : Members → Bool
begins_free (Free e rest) = true
begins_free _ = false

-- Whether there is one member, a free one.
abbrev pub is_one_free : Members → Bool
is_one_free (Free e End) = true
is_one_free _ = false

-- Whether there is no member, or one free one alone.
abbrev pub is_idle : Members → Bool
is_idle End = true
is_idle (Free e End) = true
is_idle _ = false

-- No sequence is empty or has one free member alone, and no two neighbours are free.
abbrev pub IsNormal : Members → Type 0
IsNormal End = Unit {0}
IsNormal (Free e rest) = (begins_free rest ≡ false) × IsNormal rest
IsNormal (Alloc id e rest) = IsNormal rest
IsNormal (Seq e inner rest) = (is_idle inner ≡ false) × IsNormal inner × IsNormal rest

-- The tree is one free leaf as large as the atlas.
abbrev pub IsOneFree : Sides → Tree → Type 0
IsOneFree size t = t.members ≡ Free (side t.axis size) End

-- How many members there are, nested ones included.
abbrev pub node_count : Members → ℕ
node_count End = 0
node_count (Free e rest) = 1 + node_count rest
node_count (Alloc id e rest) = 1 + node_count rest
node_count (Seq e inner rest) = 1 + node_count inner + node_count rest
