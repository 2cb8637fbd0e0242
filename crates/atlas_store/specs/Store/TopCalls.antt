-- What each call of the store on the top sequence does, in one word. No public clause cites this module.
use Rattle.std.specs.Prelude.{ℕ, ◌<◌, ◌≡◌, length}
use Rattle.atlas_store.specs.declared.store.Store.{Store}
use Rattle.atlas_store.specs.declared.slots.NodeKind.TheVariants as kind
use Rattle.atlas_model.specs.Boxes.{Sides}
use Rattle.atlas_store.specs.Stored.{Shelf, Holding, Holds}
use Rattle.atlas_store.specs.Store.Holdings.{shelf_of, node_in, IsDetachedLeaf, OnlyTakes}
use Rattle.atlas_store.specs.Slots.Growing.{
  IsEnd,
  IsLone,
  IsSpanning,
  IsWider,
  after_stretch,
  after_whole,
  after_append,
  after_nest,
}
use Rattle.atlas_store.specs.Store.StoreCalls.{TakesSlots}

-- The detached leaf of slot `last` ends at the far corner of a size.
pub record IsStretched {A : Type 0} (old new : Store A) (size : Sides) (last : ℕ) : Type 0 where
  pub kept : (h : Holding) (d : ℕ) → IsDetachedLeaf (shelf_of old) last h → IsEnd size d last h
      → Holds (shelf_of new) (after_stretch d h)
  pub free : (node_in (shelf_of new) last).kind ≡ kind.Free
  pub slots : length new.slots.items ≡ length old.slots.items
  pub takes : OnlyTakes old new

-- The detached leaf of slot `at`, the only member, is as large as a size.
pub record IsEnlarged {A : Type 0} (old new : Store A) (size : Sides) (at : ℕ) : Type 0 where
  pub kept : (h : Holding) → IsDetachedLeaf (shelf_of old) at h → IsLone at h
      → Holds (shelf_of new) (after_whole size at h)
  pub free : (node_in (shelf_of new) at).kind ≡ kind.Free
  pub slots : length new.slots.items ≡ length old.slots.items
  pub takes : OnlyTakes old new

-- A leaf of extent d fits after the last member, of slot `last`.
pub record IsExtendable (v : Shelf) (size : Sides) (last d : ℕ) (h : Holding) : Type 0 where
  pub holds : Holds v h
  pub end : IsEnd size d last h
  pub more : 0 < d

-- Slot k is a detached leaf after the last member.
pub record IsAppended {A : Type 0} (old new : Store A) (size : Sides) (last k : ℕ) : Type 0 where
  pub kept : (d : ℕ) → TakesSlots old new 1 (IsExtendable (shelf_of old) size last d) (after_append k d)
  pub free : (node_in (shelf_of new) k).kind ≡ kind.Free
  pub takes : OnlyTakes old new

-- The top sequence begins at slot `first` and spans the size `inner`, and the other size is d wider.
pub record IsNestable (v : Shelf) (inner size : Sides) (first d : ℕ) (h : Holding) : Type 0 where
  pub holds : Holds v h
  pub spans : IsSpanning inner first h
  pub wider : IsWider h.sequence.axis inner size d
  pub more : 0 < d

-- Slot c holds what was the top sequence, and slot k is a detached leaf after it.
pub record IsNested {A : Type 0} (old new : Store A) (inner size : Sides) (first c k : ℕ) : Type 0 where
  pub kept : (d : ℕ) → TakesSlots old new 2 (IsNestable (shelf_of old) inner size first d) (after_nest c k d)
  pub free : (node_in (shelf_of new) k).kind ≡ kind.Free
  pub takes : OnlyTakes old new
