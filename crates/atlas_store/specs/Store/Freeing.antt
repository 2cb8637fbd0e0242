-- The state of a freeing between two turns, and what a turn does. No public clause cites this module.
use Rattle.std.specs.Prelude.{ℕ, ◌≡◌, ◌+◌, [], ◌∷◌}
use Rattle.atlas_store.specs.declared.store.Store.{Store}
use Rattle.atlas_store.specs.declared.slots.NodeKind.TheVariants as kind
use Rattle.atlas_model.specs.Trees.{IsNormal}
use Rattle.atlas_model.specs.Changes.{nf, mark, only}
use Rattle.atlas_store.specs.Slots.Calm.{IsCalmBut, NoneEmpty}
use Rattle.atlas_store.specs.Slots.{nodes}
use Rattle.atlas_store.specs.Slots.Numbered.{erase, first_slot, numbers, id_of}
use Rattle.atlas_store.specs.Stored.{Shelf, Holding, Holds, IsDetachedOnly}
use Rattle.atlas_store.specs.Store.Holdings.{shelf_of, IsDetachedLeaf, node_in}

-- Slot `at` is a free leaf in no list, and apart from it the slots are calm.
pub record IsSettlingAt (v : Shelf) (at : ℕ) (h : Holding) : Type 0 where
  pub leaf : IsDetachedLeaf v at h
  pub only : IsDetachedOnly (at ∷ []) h
  pub calm : IsCalmBut (nodes v.slots) at
  pub full : NoneEmpty (erase h.tree)

-- The normal form stays, and there are n members fewer.
pub record IsTurned (n : ℕ) (h less : Holding) : Type 0 where
  pub same_nf : nf (erase less.tree) ≡ nf (erase h.tree)
  pub fewer : numbers less.tree + n ≡ numbers h.tree
  pub sequence : less.sequence ≡ h.sequence
  pub first : first_slot less.tree ≡ first_slot h.tree

-- n turns went from slot `at` to the next one.
pub record IsTurnTo {A : Type 0} (old new : Store A) (at next n : ℕ) : Type 0 where
  pub turned : (h : Holding) → IsSettlingAt (shelf_of old) at h
      → (less : Holding) × IsSettlingAt (shelf_of new) next less × IsTurned n h less
  pub counted : new.turns.count ≡ old.turns.count + n

-- The slot after slot `at` isn't free.
abbrev pub IsApartNext : Shelf → (at : ℕ) → Type 0
IsApartNext v at = (node_in v (node_in v at).next.number).kind ≡ kind.Free → ⊥

-- Neither slot beside slot `at` is free.
pub record IsApart (v : Shelf) (at : ℕ) : Type 0 where
  pub next : IsApartNext v at
  pub previous : (node_in v (node_in v at).previous.number).kind ≡ kind.Free → ⊥

-- There was nothing to do at slot `at`, and nothing was done.
pub record IsSettled {A : Type 0} (old new : Store A) (at : ℕ) : Type 0 where
  pub normal : (h : Holding) → IsSettlingAt (shelf_of old) at h → IsNormal (erase h.tree)
  pub same : shelf_of new ≡ shelf_of old
  pub uncounted : new.turns ≡ old.turns

-- Slot `at` is granted in a normal tree, and each free slot stands in its list.
pub record IsFreeable (v : Shelf) (at : ℕ) (h : Holding) : Type 0 where
  pub holds : Holds v h
  pub only : IsDetachedOnly [] h
  pub normal : IsNormal (erase h.tree)
  pub granted : (node_in v at).kind ≡ kind.Alloc

-- The leaf of slot `at` is freed, and n slots with it.
pub record IsFreed (old new : Shelf) (at n : ℕ) (h h' : Holding) : Type 0 where
  pub holds : Holds new h'
  pub listed : IsDetachedOnly [] h'
  pub tree : erase h'.tree ≡ nf (mark (only (id_of at (node_in old at).generation)) (erase h.tree))
  pub given : numbers h'.tree + n ≡ numbers h.tree
  pub sequence : h'.sequence ≡ h.sequence
  pub first : first_slot h'.tree ≡ first_slot h.tree
