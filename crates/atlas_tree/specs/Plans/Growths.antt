-- How an atlas that isn't one free box grows. No public clause cites this module.
use Rattle.std.specs.Prelude.{ℕ, ◌+◌, ◌-◌, ◌<◌, ◌≡◌, Bool, true, false, [], length}
use Rattle.atlas_store.specs.declared.store.Store.{Store}
use Rattle.atlas_tree.specs.declared.growth.Growth.{Growth}
use Rattle.atlas_model.specs.Boxes.{Axis, Sides, Fits, other, side, sized}
use Rattle.atlas_model.specs.Pixels.{sides_of, size_of}
use Rattle.atlas_model.specs.Trees.{Tree, is_one_free, node_count}
use Rattle.atlas_model.specs.Trees as tree
use Rattle.atlas_model.specs.Changes.{grown_members, lengthened}
use Rattle.atlas_store.specs.Slots.Lists.{is_free}
use Rattle.atlas_store.specs.Slots.Numbered.{erase, first_slot, numbers}
use Rattle.atlas_store.specs.Stored.{Shelf, Holding, Holds, IsDetachedOnly}
use Rattle.atlas_store.specs.Store.Holdings.{shelf_of, node_in, HasSlotsFor, OnlyTakes}
use Rattle.atlas_store.specs.Slots.Growing.{IsEnd, IsLone, IsSpanning, last_slot, top_along}
use Rattle.atlas_store.specs.Store.TopCalls.{IsNestable}

-- The slots stand for a tree of an atlas of this size, which begins at slot `first`, and each free slot stands in its
-- list.
pub record IsTreeOf (v : Shelf) (size : Sides) (first : ℕ) (h : Holding) : Type 0 where
  pub holds : Holds v h
  pub listed : IsDetachedOnly [] h
  pub spans : IsSpanning size first h

-- The size that has grown along an axis alone.
abbrev pub middle_of : Axis → (old new : Sides) → Sides
middle_of axis old new = sized axis (side axis new) (side (other axis) old)

-- The growth goes from one size to another by way of the middle one; where that is longer, `last` is the last member.
pub record IsGrowthOf (old new : Sides) (h : Holding) (p : Growth) : Type 0 where
  pub from : p.from ≡ size_of old
  pub middle : p.middle ≡ size_of (middle_of h.sequence.axis old new)
  pub to : p.to ≡ size_of new
  pub last : side h.sequence.axis old < side h.sequence.axis new → last_slot h.tree ≡ p.last.number

-- How many slots a strip takes after a last member: none if that is free.
abbrev pub strip_after : Bool → ℕ
strip_after true = 0
strip_after false = 1

abbrev pub strip_need : Shelf → (last : ℕ) → ℕ
strip_need v last = strip_after (is_free (node_in v last).kind)

-- The top sequence is d longer, by a slots.
pub record IsLengthened {A : Type 0} (new : Store A) (n d a : ℕ) (h h' : Holding) : Type 0 where
  pub holds : Holds (shelf_of new) h'
  pub listed : IsDetachedOnly [] h'
  pub members : erase h'.tree ≡ lengthened d (erase h.tree)
  pub sequence : h'.sequence ≡ h.sequence
  pub first : first_slot h'.tree ≡ first_slot h.tree
  pub unused_list : length h'.unused_list ≡ length h.unused_list - a
  -- So many slots can still be taken without memory.
  pub slots : HasSlotsFor n new h'

-- The top sequence is the first of two members of a new one, whose first slot is `top`, and a strip of extent d the
-- other.
pub record IsWidened (new : Shelf) (top d : ℕ) (h h' : Holding) : Type 0 where
  pub holds : Holds new h'
  pub listed : IsDetachedOnly [] h'
  pub members : erase h'.tree ≡ tree.Seq h.sequence.width (erase h.tree) (tree.Free d tree.End)
  pub sequence : h'.sequence ≡ top_along (other h.sequence.axis) (tree.total (erase h.tree))
  pub first : first_slot h'.tree ≡ top
  pub unused_list : length h'.unused_list ≡ length h.unused_list - 2

-- A growth adds n members.
abbrev pub IsNeedOf : (old new : Sides) → Holding → (n : ℕ) → Type 0
IsNeedOf old new h n = numbers h.tree + n ≡ node_count (grown_members old new h.sequence.axis (erase h.tree)).members

-- The tree isn't one free box, and there are the n slots that the growth takes.
pub record IsGrowable {A : Type 0} (s : Store A) (old new : Sides) (first n : ℕ) (p : Growth) (h : Holding)
    : Type 0 where
  pub tree : IsTreeOf (shelf_of s) old first h
  pub growth : IsGrowthOf old new h p
  pub fits : Fits old new
  pub busy : is_one_free (erase h.tree) ≡ false
  pub need : IsNeedOf old new h n
  pub slots : HasSlotsFor n s h

-- The tree of a holding.
abbrev pub tree_held : Holding → Tree
tree_held h = record { axis = h.sequence.axis; members = erase h.tree }

-- The tree has grown to a new size by n slots, and begins at slot `first`.
pub record IsGrownHolding (v : Shelf) (old new : Sides) (first n : ℕ) (h h' : Holding) : Type 0 where
  pub tree : IsTreeOf v new first h'
  pub grown : tree_held h' ≡ grown_members old new h.sequence.axis (erase h.tree)
  pub unused_list : length h'.unused_list ≡ length h.unused_list - n

-- Slot `last` holds the last member, which is to end d further on; n slots more than that takes can be taken.
pub record IsLengthenable {A : Type 0} (s : Store A) (size : Sides) (last d n : ℕ) (h : Holding) : Type 0 where
  pub holds : Holds (shelf_of s) h
  pub listed : IsDetachedOnly [] h
  pub end : IsEnd size d last h
  pub more : 0 < d
  pub slots : HasSlotsFor (n + strip_need (shelf_of s) last) s h

-- The top sequence grew to the far corner of a size.
pub record IsLonger {A : Type 0} (old new : Store A) (size : Sides) (last : ℕ) : Type 0 where
  pub kept : (h : Holding) (d n : ℕ) → IsLengthenable old size last d n h
      → (h' : Holding) × IsLengthened new n d (strip_need (shelf_of old) last) h h'
  pub takes : OnlyTakes old new

-- The top sequence begins at slot `first`, spans the size `inner`, and is to be the first of two that are d wider.
pub record IsWidenable {A : Type 0} (s : Store A) (inner size : Sides) (first d : ℕ) (h : Holding) : Type 0 where
  pub nests : IsNestable (shelf_of s) inner size first d h
  pub listed : IsDetachedOnly [] h
  pub slots : HasSlotsFor 2 s h

-- It is, and slot `top` holds it.
pub record IsWidenedTo {A : Type 0} (old new : Store A) (inner size : Sides) (first top : ℕ) : Type 0 where
  pub kept : (h : Holding) (d : ℕ) → IsWidenable old inner size first d h
      → (h' : Holding) × IsWidened (shelf_of new) top d h h'
  pub takes : OnlyTakes old new

-- The tree that begins at slot `first` can grow so.
abbrev pub CanGrow : {A : Type 0} → Store A → (first : ℕ) → Growth → Type 0
CanGrow s first p = (h : Holding) × (n : ℕ) × IsGrowable s (sides_of p.from) (sides_of p.to) first n p h

-- It has, and begins at slot `top`.
pub record IsTreeGrown {A : Type 0} (old new : Store A) (first top : ℕ) (p : Growth) : Type 0 where
  pub grown : (h : Holding) (n : ℕ) → IsGrowable old (sides_of p.from) (sides_of p.to) first n p h
      → (h' : Holding) × IsGrownHolding (shelf_of new) (sides_of p.from) (sides_of p.to) top n h h'
  pub takes : OnlyTakes old new

-- Slot `at` is the one free box of an atlas.
abbrev pub IsOneBox : {A : Type 0} → Store A → (at : ℕ) → Type 0
IsOneBox s at = (h : Holding) × (size : Sides) × IsTreeOf (shelf_of s) size at h × IsLone at h

-- It is as large as a new size.
pub record IsBoxGrown {A : Type 0} (old new : Store A) (size : Sides) (at : ℕ) : Type 0 where
  pub grown : (h : Holding) (before : Sides) → IsTreeOf (shelf_of old) before at h → IsLone at h
      → (h' : Holding) × IsGrownHolding (shelf_of new) before size at 0 h h'
  pub slots : length new.slots.items ≡ length old.slots.items
  pub takes : OnlyTakes old new
